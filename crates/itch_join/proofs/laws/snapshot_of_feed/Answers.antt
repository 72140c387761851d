use Rattle.itch_join.proofs.Premises.{meets, meets_all}
use Rattle.itch_join.proofs.laws.snapshot_of_feed.Goals as goal

pub returns-clause-ends : goal.returns-clause-ends
returns-clause-ends c = λ feed k bytes low few. (meets_all feed k bytes low few).kind

pub returns-clause-fits : goal.returns-clause-fits
returns-clause-fits c = λ feed k bytes low few. (meets_all feed k bytes low few).fits

pub returns-clause-ends_only : goal.returns-clause-ends_only
returns-clause-ends_only c = λ wanted feed k bytes low few. (meets wanted feed k bytes low few).kind

pub returns-clause-fits_only : goal.returns-clause-fits_only
returns-clause-fits_only c = λ wanted feed k bytes low few. (meets wanted feed k bytes low few).fits
