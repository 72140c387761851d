use Rattle.std.proofs.Common.{length}
use Rattle.itch_offsets.proofs.DirectoryLines.{Appended}
use Rattle.itch_offsets.proofs.directory.push_directory.Given as goal

abbrev pub invariant-loop-payload : goal.invariant-loop-payload
invariant-loop-payload g l = Appended l.directory l.initial.lines.items l.rest l.lines.items

abbrev pub decreases-loop-payload : goal.decreases-loop-payload
decreases-loop-payload g l = length l.rest
