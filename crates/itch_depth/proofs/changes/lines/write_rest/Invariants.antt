use Rattle.itch_depth.specs.Changes.{next_level}
use Rattle.itch_depth.proofs.PartsInTurn.{AreWritten}
use Rattle.itch_depth.proofs.changes.lines.write_rest.Given as goal

abbrev pub invariant-loop-level : goal.invariant-loop-level
invariant-loop-level g l = AreWritten g.W.CountedWrite.contents g.W.CountedWrite.failures next_level l.levels l.fn.out l.level-index l.out
