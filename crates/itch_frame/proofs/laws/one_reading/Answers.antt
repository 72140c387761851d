use Rattle.itch_frame.proofs.BlockLemmas.{reading_one}
use Rattle.itch_frame.proofs.laws.one_reading.Goals as goal

pub returns-clause-one : goal.returns-clause-one
returns-clause-one c = reading_one
