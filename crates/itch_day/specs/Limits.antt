-- The requested part of a file: a number of messages, or the messages before a time.
use Rattle.std.specs.Prelude.{◌≡◌, ℕ, ◌-◌, ◌^◌, ◌<◌, ◌≤◌, nat_le, Bool, true, false, List, ⊤, Option, None, Some, IfSome}
use Rattle.itch_codec.specs.Messages.{fault, message_of}
use Rattle.itch_codec.specs.Headers.{time_of}
use Rattle.itch_codec.specs.declared.message.Message.{Message}
use Rattle.itch_day.specs.declared.limit.Limit.{Limit}

-- the limit after this number of messages, or that of the complete file
abbrev pub counted : Option ℕ → Limit
counted after = record { after = after; until = None }

-- a time is this one or later
abbrev pub is_from : ℕ → Option ℕ → Bool
is_from until None = false
is_from until (Some time) = nat_le until time

-- a message is at the time where the part ends, or later
abbrev pub is_late : Option ℕ → Message → Bool
is_late None message = false
is_late (Some until) message = is_from until (time_of message)

-- the message of a payload is not at the time where the part ends, or later
abbrev pub IsEarly : Limit → List ℕ → Type 0
IsEarly limit payload = is_late limit.until (message_of payload) ≡ false

-- a payload is a valid message at that time or later
abbrev pub IsLate : Limit → List ℕ → Type 0
IsLate limit payload = (fault payload ≡ None) × (is_late limit.until (message_of payload) ≡ true)

-- fewer messages than requested, if a number was requested
abbrev pub IsBefore : Limit → ℕ → Type 0
IsBefore limit count = IfSome limit.after (λ most. count < most)

-- no more messages than requested, if a number was requested
abbrev pub IsWithin : Limit → ℕ → Type 0
IsWithin limit count = IfSome limit.after (λ most. count ≤ most)

-- the maximum number of messages: without a request, more than any file can contain
abbrev pub most_of : Option ℕ → ℕ
most_of None = 2 ^ 64 - 1
most_of (Some most) = most

-- a payload is not such a message: it is an earlier one, or faulty
abbrev pub IsNotLate : Limit → List ℕ → Type 0
IsNotLate limit payload = IsLate limit payload → ⊥

-- the time where a part ends is the same as another one, or later
abbrev pub IsNoEarlier : Option ℕ → Option ℕ → Type 0
IsNoEarlier before None = ⊤
IsNoEarlier None (Some until) = ⊥
IsNoEarlier (Some before) (Some until) = before ≤ until
