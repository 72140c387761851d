use Rattle.itch_frame.proofs.Days.{day_one}
use Rattle.itch_frame.proofs.laws.one_day.Goals as goal

pub returns-clause-one : goal.returns-clause-one
returns-clause-one c = day_one
