use Rattle.itch_book.proofs.KeptLemmas.{kept_taken}
use Rattle.itch_book.proofs.indexed_book.IndexedBookOrderBook.take.Goals as goal

pub invariant_of-self : goal.invariant_of-self
invariant_of-self g c = record { is_kept = kept_taken c.args.reference c.args.shares c.args.self.now.index c.take.new.self c.args.self.now.is_kept c.take.ensures.orders }
