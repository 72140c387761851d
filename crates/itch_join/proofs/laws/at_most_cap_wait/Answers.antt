use Rattle.itch_join.proofs.Caps.{at_most}
use Rattle.itch_join.proofs.laws.at_most_cap_wait.Goals as goal

pub returns : goal.returns
returns c = λ rules cap past now h. at_most rules cap past now h
