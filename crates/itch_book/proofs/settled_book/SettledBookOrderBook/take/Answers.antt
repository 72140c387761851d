use Rattle.itch_book.proofs.KeptLemmas.{kept_taken}
use Rattle.itch_book.proofs.settled_book.SettledBookOrderBook.take.Goals as goal

pub invariant_of-self : goal.invariant_of-self
invariant_of-self g c = record { is_kept = kept_taken c.args.reference c.args.shares c.args.self.now.arrivals.orders c.take.new.self.orders c.args.self.now.is_kept c.take.ensures.orders }
