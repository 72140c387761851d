use Rattle.std.proofs.Common.{◌≡◌, filter, length}
use Rattle.itch_snapshot.specs.Cursor.{in_set}
use Rattle.itch_snapshot.proofs.iter.next_wanted.Given as goal

abbrev pub invariant-loop-locate : goal.invariant-loop-locate
invariant-loop-locate g l = filter (in_set l.set) l.locates ≡ filter (in_set l.set) l.initial.locates

abbrev pub decreases-loop-locate : goal.decreases-loop-locate
decreases-loop-locate g l = length l.locates
