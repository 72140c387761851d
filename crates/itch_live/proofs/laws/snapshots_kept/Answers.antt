use Rattle.itch_live.proofs.Present.{kept_right}
use Rattle.itch_live.proofs.laws.snapshots_kept.Goals as goal

pub returns : goal.returns
returns g c = λ begun past d j bytes h there is. kept_right g.W.CountedWrite.contents g.W.CountedWrite.failures begun past d j bytes h there is
