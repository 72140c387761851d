use Rattle.std.proofs.Common.{inr}
use Rattle.itch_commands.proofs.cut.after.cut_after.Goals as goal

pub returns : goal.returns
returns g c = λ payloads are. inr (rw (c.count.ensures, c.in_ok-choice.ensures.choice payloads are) at c.cut_found.ensures)
