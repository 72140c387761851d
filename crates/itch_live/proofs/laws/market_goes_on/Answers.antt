use Rattle.itch_live.proofs.Rising.{goes_on}
use Rattle.itch_live.proofs.laws.market_goes_on.Goals as goal

pub returns : goal.returns
returns g c = λ begun later at before d h. goes_on g.W.CountedWrite.contents g.W.CountedWrite.failures begun later at before d h
