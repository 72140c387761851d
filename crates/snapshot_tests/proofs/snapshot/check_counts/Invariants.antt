use Rattle.std.proofs.Common.{◌<◌, ◌^◌, length}
use Rattle.snapshot_tests.proofs.snapshot.check_counts.Given as goal

abbrev pub invariant-loop-want : goal.invariant-loop-want
invariant-loop-want g l = length l.messages < 2 ^ 64
