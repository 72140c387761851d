use Rattle.std.specs.List.{range_with_len}
use Rattle.itch_depth.specs.Changes.{columns}
use Rattle.itch_depth.proofs.PartsInTurn.{AreWritten}
use Rattle.itch_depth.proofs.changes.lines.write_names.Given as goal

abbrev pub invariant-loop-place : goal.invariant-loop-place
invariant-loop-place g l = AreWritten g.W.CountedWrite.contents g.W.CountedWrite.failures columns (range_with_len 0 l.depth) l.fn.out l.place l.out
