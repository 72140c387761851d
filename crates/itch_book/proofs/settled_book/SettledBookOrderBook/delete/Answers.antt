use Rattle.itch_book.proofs.KeptLemmas.{kept_without}
use Rattle.itch_book.proofs.settled_book.SettledBookOrderBook.delete.Goals as goal

pub invariant_of-self : goal.invariant_of-self
invariant_of-self g c = record { is_kept = kept_without c.args.reference c.args.self.now.arrivals.orders c.delete.new.self.orders c.args.self.now.is_kept c.delete.ensures.orders }
