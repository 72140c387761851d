use Rattle.itch_live.proofs.OneSession.{stays}
use Rattle.itch_live.proofs.laws.session_stays.Goals as goal

pub returns : goal.returns
returns g c = λ begun later at before d session h there. stays g.W.CountedWrite.contents g.W.CountedWrite.failures begun later at before d session h there
