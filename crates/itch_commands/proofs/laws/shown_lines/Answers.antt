use Rattle.itch_commands.proofs.UnfilteredLines.{all_lines, same_choice}
use Rattle.itch_commands.proofs.laws.shown_lines.Goals as goal

pub returns-clause-whole : goal.returns-clause-whole
returns-clause-whole c = all_lines

pub returns-clause-constant : goal.returns-clause-constant
returns-clause-constant c = same_choice
