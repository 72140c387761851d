use Rattle.itch_live.proofs.Fairness.{answered_now}
use Rattle.itch_live.proofs.laws.who_waits_is_answered.Goals as goal

pub returns : goal.returns
returns g c = λ begun past at d limit now count k j client history call all there room here waits.
    answered_now g.W.CountedWrite.contents g.W.CountedWrite.failures begun past at d limit now count k j client history call all there room here waits
