use Rattle.std.proofs.Common.{◌≡◌, drop, None}
use Rattle.itch_offsets.specs.Beginnings.{begin_after}
use Rattle.itch_offsets.proofs.begin.begin_from.Given as goal

abbrev pub invariant-loop-row : goal.invariant-loop-row
invariant-loop-row l = begin_after l.range l.best (drop l.row-index l.rows) ≡ begin_after l.range None l.rows
