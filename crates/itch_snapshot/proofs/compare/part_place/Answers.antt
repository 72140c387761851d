use Rattle.itch_snapshot.proofs.Partings.{parts_nowhere}
use Rattle.itch_snapshot.proofs.compare.part_place.Goals as goal

pub returns-clause-none : goal.returns-clause-none
returns-clause-none g c =
    parts_nowhere _ _ _ _ c.recall_invariant.ensures.good c.recall_invariant-2.ensures.good c.new.ensures c.new-2.ensures c.first_difference.result
    c.first_difference.ensures.place c.first_difference.ensures.none
