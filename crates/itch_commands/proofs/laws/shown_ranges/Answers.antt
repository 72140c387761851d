use Rattle.itch_commands.proofs.ShownRanges.{lines_of_range, range_from, range_since}
use Rattle.itch_commands.proofs.laws.shown_ranges.Goals as goal

pub returns-clause-lines : goal.returns-clause-lines
returns-clause-lines c = lines_of_range

pub returns-clause-number : goal.returns-clause-number
returns-clause-number c = range_from

pub returns-clause-time : goal.returns-clause-time
returns-clause-time c = range_since
