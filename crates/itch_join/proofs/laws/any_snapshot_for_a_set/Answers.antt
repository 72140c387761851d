use Rattle.itch_join.proofs.SetSnapshots.{reads_cut, fits_cut}
use Rattle.itch_join.proofs.laws.any_snapshot_for_a_set.Goals as goal

pub returns-clause-leaves : goal.returns-clause-leaves
returns-clause-leaves c = λ wanted ps taken m bytes unended read. reads_cut wanted ps taken m bytes unended read

pub returns-clause-fits : goal.returns-clause-fits
returns-clause-fits c = λ wanted feed ps taken next m of_bytes bytes unended read fits. fits_cut wanted ps taken m bytes unended read feed next of_bytes fits
