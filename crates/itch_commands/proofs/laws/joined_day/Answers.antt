use Rattle.itch_commands.proofs.JoinedDays.{day_joined, day_counted}
use Rattle.itch_commands.proofs.laws.joined_day.Goals as goal

pub returns-clause-market : goal.returns-clause-market
returns-clause-market c = day_joined

pub returns-clause-number : goal.returns-clause-number
returns-clause-number c = day_counted
