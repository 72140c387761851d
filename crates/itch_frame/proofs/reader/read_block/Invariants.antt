use Rattle.std.proofs.Common.{◌≡◌, ℕ, ◌-◌, ◌≤◌, List, ◌++◌, take}
use Rattle.std.specs.Io.KnownBytes.{prepend_known, Keeps}
use Rattle.itch_frame.specs.Needs.{need}
use Rattle.itch_frame.proofs.reader.read_block.Given as goal

abbrev pub invariant-loop-lacks : goal.invariant-loop-lacks
invariant-loop-lacks g l =
    (l.len ≤ need (take l.len l.buffer)) × (l.len ≤ 65537)
    × Keeps (prepend_known (take l.initial.len l.initial.buffer) (g.R.CountedRead.remaining l.initial.reader)) (prepend_known (take l.len l.buffer) (g.R.CountedRead.remaining l.reader))
    × (g.R.CountedRead.failures l.reader ≡ g.R.CountedRead.failures l.initial.reader)
    × ((more : List ℕ) × (take l.len l.buffer ≡ take l.initial.len l.initial.buffer ++ more))

abbrev pub decreases-loop-lacks : goal.decreases-loop-lacks
decreases-loop-lacks g l = 65537 - l.len
