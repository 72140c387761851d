use Rattle.itch_live.proofs.Waiting.{goes_on}
use Rattle.itch_live.proofs.laws.waiting_goes_on.Goals as goal

pub returns : goal.returns
returns c = λ config begun past waiting sent happening after story becomes waits. goes_on config begun past waiting sent happening after story becomes waits
