-- The row of an index from which a range of a day is read.
use Rattle.std.specs.Prelude.{ℕ, ◌&&◌, Bool, List, [], ◌∷◌, nat_lt, Option, None, Some, if◌then◌else◌}
use Rattle.itch_commands.specs.Starts.{is_beyond}
use Rattle.itch_commands.specs.declared.filters.Filters.{Filters}
use Rattle.itch_commands.specs.declared.kind.FileKind.TheVariants.{Day}
use Rattle.itch_commands.specs.declared.request.Command.{Command}
use Rattle.itch_commands.specs.declared.request.Command.TheVariants.{Show, Cut}
use Rattle.itch_day.specs.DayCursors.{is_in}
use Rattle.itch_day.specs.declared.limit.Limit.{Limit}
use Rattle.itch_day.specs.declared.cursor.DayCursor.{DayCursor}
use Rattle.itch_offsets.specs.declared.begin.Range.{Range}
use Rattle.itch_offsets.specs.declared.row.IndexRow.{IndexRow}

-- the range of a part of a file, unless an order is followed
abbrev pub range_unless : Option ℕ → Range → Option Range
range_unless None range = Some range
range_unless (Some reference) range = None

abbrev pub range_in : Limit → Filters → Option Range
range_in limit filters = range_unless filters.reference (record { start = filters.start; limit = limit })

-- the range that a command reads, if it needs no message before the range other than Stock Directory messages
abbrev pub range_of : Command → Option Range
range_of (Show (Day limit) form filters) = range_in limit filters
range_of (Cut limit filters) = range_in limit filters
range_of command = None

-- all messages before a cursor are before a range, and in the part of the file
abbrev pub may_begin : Range → DayCursor → Bool
may_begin range cursor = is_beyond range.start cursor && is_in range.limit cursor

-- the number of messages of a row, if there is one
abbrev pub most_of : Option IndexRow → ℕ
most_of None = 0
most_of (Some row) = row.cursor.count

-- a row, if a range can be read from there and it has more messages than the best one so far
abbrev pub better : Range → Option IndexRow → IndexRow → Option IndexRow
better range best row = if nat_lt (most_of best) row.cursor.count && may_begin range row.cursor then Some row else best

-- the best one of these rows and of those before
unfoldable pub begin_after : Range → Option IndexRow → List IndexRow → Option IndexRow
begin_after range best [] = best
begin_after range best (row ∷ rows) = begin_after range (better range best row) rows
