use Rattle.itch_offsets.proofs.AfterCursors.{choice_cursor}
use Rattle.itch_offsets.proofs.Onward.{kept_on, lines_on}
use Rattle.itch_offsets.proofs.laws.cursor_choices.Goals as goal

pub returns-clause-choice : goal.returns-clause-choice
returns-clause-choice c = choice_cursor

pub returns-clause-lines : goal.returns-clause-lines
returns-clause-lines c = lines_on

pub returns-clause-blocks : goal.returns-clause-blocks
returns-clause-blocks c = kept_on
