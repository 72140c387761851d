use Rattle.itch_offsets.proofs.AfterCursors.{beyond_cursor, past_cursor, within_cursor}
use Rattle.itch_offsets.proofs.laws.cursor_ranges.Goals as goal

pub returns-clause-beyond : goal.returns-clause-beyond
returns-clause-beyond c = beyond_cursor

pub returns-clause-within : goal.returns-clause-within
returns-clause-within c = within_cursor

pub returns-clause-past : goal.returns-clause-past
returns-clause-past c = past_cursor
