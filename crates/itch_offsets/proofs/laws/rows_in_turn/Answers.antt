use Rattle.itch_day.proofs.DayCursors.{is_cursor}
use Rattle.itch_day.specs.DayCursors.{first_cursor}
use Rattle.itch_offsets.proofs.Entries.{are_listed, entries_append, entries_messages, cursor_append}
use Rattle.itch_offsets.proofs.laws.rows_in_turn.Goals as goal

pub returns-clause-first : goal.returns-clause-first
returns-clause-first c = is_cursor

pub returns-clause-cursor : goal.returns-clause-cursor
returns-clause-cursor c = cursor_append first_cursor

pub returns-clause-kept : goal.returns-clause-kept
returns-clause-kept c = entries_append

pub returns-clause-directory : goal.returns-clause-directory
returns-clause-directory c = entries_messages

pub returns-clause-listed : goal.returns-clause-listed
returns-clause-listed c = are_listed
