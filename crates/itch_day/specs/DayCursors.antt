-- Cursors, which record how far a day was read, and the comparison of two cursors for a point of the day.
use Rattle.std.specs.Prelude.{◌≡◌, ℕ, ◌+◌, ◌-◌, ◌^◌, min, max, nat_le, nat_lt, ◌&&◌, Bool, true, List, [], ◌∷◌, map, length, Option, None, Some}
use Rattle.itch_codec.specs.Headers.{time_of}
use Rattle.itch_codec.specs.Messages.{fault, message_of}
use Rattle.itch_codec.specs.declared.fault.CodecFault.{CodecFault}
use Rattle.itch_codec.specs.declared.message.Message.{Message}
use Rattle.itch_frame.specs.Blocks.{blocks}
use Rattle.itch_day.specs.declared.limit.Limit.{Limit}
use Rattle.itch_day.specs.declared.cursor.DayCursor.{DayCursor}
use Rattle.itch_day.specs.declared.tracked.Tracked.{Tracked}

-- the later of two times, each of which may be missing
abbrev pub later : Option ℕ → Option ℕ → Option ℕ
later None time = time
later (Some before) None = Some before
later (Some before) (Some time) = Some (max before time)

-- the latest of the times of these messages and a time before them
abbrev pub latest : Option ℕ → List Message → Option ℕ
latest before [] = before
latest before (message ∷ rest) = latest (later before (time_of message)) rest

-- the time of a payload with this fault: a payload that is not a valid message has no time
abbrev pub time_by : Option CodecFault → List ℕ → Option ℕ
time_by None payload = time_of (message_of payload)
time_by (Some why) payload = None

abbrev pub time_at : List ℕ → Option ℕ
time_at payload = time_by (fault payload) payload

-- the cursor after one more message
abbrev pub cursor_past : DayCursor → List ℕ → DayCursor
cursor_past cursor payload =
    record { count = cursor.count + 1; offset = min (cursor.offset + (length payload + 2)) (2 ^ 64 - 1); latest = later cursor.latest (time_at payload) }

-- the cursor after these payloads
abbrev pub cursor_after : DayCursor → List (List ℕ) → DayCursor
cursor_after cursor [] = cursor
cursor_after cursor (payload ∷ rest) = cursor_after (cursor_past cursor payload) rest

-- the cursor at the beginning of a day
abbrev pub first_cursor : DayCursor
first_cursor = record { count = 0; offset = 0; latest = None }

-- the cursor after these payloads at the beginning of a file
pub record IsDayCursor (cursor : DayCursor) (payloads : List (List ℕ)) : Type 0 where
  pub count : cursor.count ≡ length payloads
  pub offset : cursor.offset ≡ min (length (blocks payloads)) (2 ^ 64 - 1)
  pub latest : cursor.latest ≡ latest None (map message_of payloads)

-- no more messages than requested, if a number was requested
abbrev pub is_within : Option ℕ → ℕ → Bool
is_within None count = true
is_within (Some wanted) count = nat_le count wanted

-- a time, if there is one, is before the requested time, if there is one
abbrev pub is_before : Option ℕ → Option ℕ → Bool
is_before None time = true
is_before (Some until) None = true
is_before (Some until) (Some time) = nat_lt time until

-- the number of messages before a cursor is not above the limit, and their latest time is before the requested one
abbrev pub is_in : Limit → DayCursor → Bool
is_in limit cursor = is_within limit.after cursor.count && is_before limit.until cursor.latest

-- the cursor is in the part, and has more messages than the other one
abbrev pub is_nearer : Limit → DayCursor → DayCursor → Bool
is_nearer limit cursor other = is_in limit cursor && nat_lt other.count cursor.count

-- a sink takes a payload, and the cursor advances
abbrev pub TakesTracked : {S : Type 0} → (S → ℕ → List ℕ → S → Type 0) → Tracked S → ℕ → List ℕ → Tracked S → Type 0
TakesTracked takes old number payload new = takes old.sink number payload new.sink × (new.cursor ≡ cursor_past old.cursor payload)

-- a sink refuses a payload, and the cursor does not change
abbrev pub RefusesTracked : {S F : Type 0} → (S → ℕ → List ℕ → F → S → Type 0) → Tracked S → ℕ → List ℕ → F → Tracked S → Type 0
RefusesTracked refuses old number payload why new = refuses old.sink number payload why new.sink × (new.cursor ≡ old.cursor)
