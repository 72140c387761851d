use Rattle.itch_join.proofs.SetSnapshots.{starts_set}
use Rattle.itch_join.proofs.laws.snapshot_for_a_set.Goals as goal

pub returns-clause-whole : goal.returns-clause-whole
returns-clause-whole c = λ wanted feed k bytes low few. (starts_set wanted feed k bytes low few).whole

pub returns-clause-part : goal.returns-clause-part
returns-clause-part c = λ wanted feed k bytes low few. (starts_set wanted feed k bytes low few).part

pub returns-clause-fits : goal.returns-clause-fits
returns-clause-fits c = λ wanted feed k bytes low few. (starts_set wanted feed k bytes low few).fits
