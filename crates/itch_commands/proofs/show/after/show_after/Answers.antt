use Rattle.std.proofs.Common.{inr, subst}
use Rattle.itch_commands.specs.Further.{ShowsBelow, count_of}
use Rattle.itch_commands.proofs.show.after.show_after.Goals as goal

pub returns : goal.returns
returns g c = λ payloads are. inr (rw (c.count.ensures, c.in_ok-choice.ensures.choice payloads are) at c.show_below.ensures)
