-- The beginning of a range in the messages of a file.
use Rattle.std.specs.Prelude.{ℕ, ◌-◌, ◌==◌, ◌&&◌, ◌||◌, nat_le, not, Bool, true, List, [], ◌∷◌, Option, None, Some, if◌then◌else◌}
use Rattle.itch_codec.specs.Headers.{time_of}
use Rattle.itch_codec.specs.declared.message.Message.{Message}
use Rattle.itch_day.specs.Limits.{is_from, is_late}
use Rattle.itch_day.specs.declared.cursor.DayCursor.{DayCursor}
use Rattle.itch_commands.specs.declared.start.Start.{Start}

-- the first message
abbrev pub first : Start
first = record { before = 0; since = None }

-- a message with this time is at the time where a range begins, or later, if the range begins at a time
abbrev pub is_since : Option ℕ → Option ℕ → Bool
is_since None time = true
is_since (Some since) time = is_from since time

-- the time still to be reached after a message with this time, if there is one
abbrev pub since_after : Option ℕ → Option ℕ → Option ℕ
since_after since time = if is_since since time then None else since

-- a message with this time is in the range: the messages before the range have passed, and its beginning time has been reached
abbrev pub is_begun : Start → Option ℕ → Bool
is_begun start time = (start.before == 0) && is_since start.since time

-- the beginning of the range in the messages after one with this time
abbrev pub start_after : Start → Option ℕ → Start
start_after start time = record { before = start.before - 1; since = since_after start.since time }

-- All messages before a cursor are before a range: there are no more of them than messages before the range, or none of them is at the time where
-- the range begins, or later.
abbrev pub is_beyond : Start → DayCursor → Bool
is_beyond start cursor = nat_le cursor.count start.before || not (is_since start.since cursor.latest)

-- the beginning of the range in the messages after a cursor
abbrev pub start_past : Start → DayCursor → Start
start_past start cursor = record { before = start.before - cursor.count; since = since_after start.since cursor.latest }

-- the beginning of the range in the messages after these
unfoldable pub start_after_all : Start → List Message → Start
start_after_all start [] = start
start_after_all start (message ∷ messages) = start_after_all (start_after start (time_of message)) messages

-- the messages before a range: those before the first one in it
unfoldable pub before_range : Start → List Message → List Message
before_range start [] = []
before_range start (message ∷ messages) =
    if is_begun start (time_of message) then [] else message ∷ before_range (start_after start (time_of message)) messages

-- the messages before the first at this time or later
unfoldable pub before_time : ℕ → List Message → List Message
before_time since [] = []
before_time since (message ∷ messages) = if is_late (Some since) message then [] else message ∷ before_time since messages
