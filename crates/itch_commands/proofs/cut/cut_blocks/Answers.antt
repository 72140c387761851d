use Rattle.std.proofs.Common.{inr}
use Rattle.itch_commands.proofs.cut.cut_blocks.Goals as goal

pub returns : goal.returns
returns g c = inr (rw c.in_ok-choice.ensures at c.cut_found.ensures)
