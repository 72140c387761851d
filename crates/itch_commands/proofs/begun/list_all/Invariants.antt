use Rattle.std.proofs.Common.{length}
use Rattle.itch_commands.proofs.ListedBlocks.{Listed}
use Rattle.itch_commands.proofs.begun.list_all.Given as goal

abbrev pub invariant-loop-payload : goal.invariant-loop-payload
invariant-loop-payload g l = Listed l.directory l.initial.choice l.rest l.choice

abbrev pub decreases-loop-payload : goal.decreases-loop-payload
decreases-loop-payload g l = length l.rest
