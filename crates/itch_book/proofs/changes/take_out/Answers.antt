use Rattle.itch_book.proofs.PlaceLemmas.{is_cut_book}
use Rattle.itch_book.proofs.changes.take_out.Goals as goal

pub returns-clause-book : goal.returns-clause-book
returns-clause-book g c =
    is_cut_book c.args.reference c.args.orders.now.items c.deref.result.now c.remove.new.self.items c.index_of-place.result
    c.requires.book c.deref.ensures.value c.index_of-place.ensures.place c.remove.ensures.items
