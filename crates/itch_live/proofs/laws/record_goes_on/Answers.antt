use Rattle.itch_live.proofs.Continued.{goes_on}
use Rattle.itch_live.proofs.laws.record_goes_on.Goals as goal

pub returns : goal.returns
returns g c = λ set feed begun past f i j record_begun record_now bytes joining there has_all followed one now.
    goes_on g.W.CountedWrite.contents g.W.CountedWrite.failures set feed begun past f i j record_begun record_now bytes joining there has_all followed one now
