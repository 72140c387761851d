use Rattle.std.proofs.Common.{◌≡◌, true, rules}
use Rattle.itch_book.specs.Orders.{fits}
use Rattle.itch_book.proofs.KeptLemmas.{kept_added}
use Rattle.itch_book.proofs.settled_book.SettledBookOrderBook.add.Goals as goal

pub invariant_of-self : goal.invariant_of-self
invariant_of-self g c =
    let fit : fits c.args.order ≡ true = search rules in
    record { is_kept = kept_added c.add.result c.args.order c.args.self.now.arrivals.orders c.add.new.self.orders c.args.self.now.is_kept c.requires.some_shares fit c.requires.new_reference c.add.ensures.ok c.add.ensures.err }
