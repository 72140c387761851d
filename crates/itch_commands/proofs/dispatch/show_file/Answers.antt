use Rattle.std.proofs.Common.{inr}
use Rattle.itch_commands.proofs.dispatch.show_file.Goals as goal

pub returns : goal.returns
returns g c = inr (rw c.in_ok-choice.ensures at c.show_below.ensures)
