use Rattle.itch_book.specs.Table.{at}
use Rattle.itch_book.specs.Referred.{references_of}
use Rattle.itch_book.proofs.PlacedLemmas.{IsLed}
use Rattle.itch_book.proofs.references.write_places.Given as goal

abbrev pub invariant-loop-place : goal.invariant-loop-place
invariant-loop-place g l = IsLed (at l.places) (references_of l.orders) l.place
