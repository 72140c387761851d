-- The messages of a day that a feed has, and the end of a join.
use Rattle.std.specs.Prelude.{ℕ, ◌+◌, ◌-◌, nat_le, nat_lt, if◌then◌else◌, List, length, Option, None, Some, option_map}
use Rattle.itch_day.specs.declared.limit.Limit.{Limit}
use Rattle.itch_day.specs.Limits.{counted}
use Rattle.itch_commands.specs.declared.feed_part.FeedPart.{FeedPart}
use Rattle.itch_commands.specs.declared.feed_part.FeedMismatch.{FeedMismatch}
use Rattle.itch_commands.specs.declared.feed_part.FeedMismatch.TheVariants.{Gap, Beyond}

-- the whole of a feed that begins with the first message of its day
abbrev pub whole : FeedPart
whole = record { before = 0; limit = counted None }

-- the number of the message after these, in a feed that begins after this many messages of its day
abbrev pub number_after : ℕ → List (List ℕ) → ℕ
number_after before payloads = before + length payloads + 1

-- a snapshot of that many messages has more than requested
abbrev pub beyond : Option ℕ → ℕ → Option FeedMismatch
beyond None held = None
beyond (Some wanted) held = if nat_lt wanted held then Some (Beyond held wanted) else None

-- The reason why no feed is joined to a snapshot whose next message has this number, if there is one: a message between the two is missing,
-- or the snapshot has more messages than requested.
abbrev pub mismatch_of : FeedPart → ℕ → Option FeedMismatch
mismatch_of part next = if nat_le next part.before then Some (Gap next part.before) else beyond part.limit.after (next - 1)

-- the number of requested messages of a feed that begins after this many others: none, if a snapshot of that many messages has them all
abbrev pub wanted_of : Option ℕ → ℕ → ℕ → Option ℕ
wanted_of None before held = None
wanted_of (Some wanted) before held = Some (if nat_le wanted held then 0 else wanted - before)

-- the requested part of the feed after such a snapshot, counted from the feed's first message
abbrev pub part_of : FeedPart → ℕ → Limit
part_of part next = record { after = wanted_of part.limit.after part.before (next - 1); until = part.limit.until }

-- the same part, counted from the first message of the day
abbrev pub of_day : ℕ → Limit → Limit
of_day before limit = record { after = option_map (λ most. before + most) limit.after; until = limit.until }
