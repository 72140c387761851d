use Rattle.itch_book.proofs.KeptLemmas.{kept_replaced}
use Rattle.itch_book.proofs.settled_book.SettledBookOrderBook.replace.Goals as goal

pub invariant_of-self : goal.invariant_of-self
invariant_of-self g c = record { is_kept = kept_replaced c.replace.result c.args.original c.args.reference c.args.shares c.args.price c.args.self.now.arrivals.orders c.replace.new.self.orders c.args.self.now.is_kept c.requires.some_shares c.requires.new_reference c.replace.ensures.ok c.replace.ensures.err }
