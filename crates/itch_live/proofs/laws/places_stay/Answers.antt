use Rattle.itch_live.proofs.Rows.{rows_stay}
use Rattle.itch_live.proofs.laws.places_stay.Goals as goal

pub returns : goal.returns
returns g c = λ begun later at before d h. rows_stay g.W.CountedWrite.contents g.W.CountedWrite.failures begun later at before d h
