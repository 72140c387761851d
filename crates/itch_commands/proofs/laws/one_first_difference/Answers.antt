use Rattle.itch_commands.proofs.OneFirstDifference.{one_place, no_place}
use Rattle.itch_commands.proofs.laws.one_first_difference.Goals as goal

pub returns-clause-place : goal.returns-clause-place
returns-clause-place c = one_place

pub returns-clause-nowhere : goal.returns-clause-nowhere
returns-clause-nowhere c = no_place
