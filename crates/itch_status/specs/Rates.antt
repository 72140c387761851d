-- The number of messages in each second of the last minute.
use Rattle.std.specs.Prelude.{ℕ, zero, suc, ◌+◌, ◌-◌, ◌*◌, ◌/◌, nat_lt, List, [], ◌∷◌, ◌++◌, Option, None, Some, drop, min, max, if◌then◌else◌}
use Rattle.itch_status.specs.declared.rate.Minute.{Minute}
use Rattle.itch_status.specs.declared.tally.FeedTally.{FeedTally}

-- the largest number of 64 bits
abbrev pub most : ℕ
most = 18446744073709551615

-- a sum, at most the largest number
abbrev pub added : ℕ → ℕ → ℕ
added a b = min (a + b) most

-- one second later: the current second becomes the last one before it, and the oldest is dropped
abbrev pub passed : Minute → Minute
passed m = record { before = drop 1 m.before ++ m.present ∷ []; present = 0; second = m.second }

-- this many seconds later
abbrev pub passed_by : ℕ → Minute → Minute
passed_by zero m = m
passed_by (suc n) m = passed (passed_by n m)

-- the minute in this second, or in its current one if that is later
abbrev pub in_second : Minute → ℕ → Minute
in_second m second = record { before = m.before; present = m.present; second = max m.second second }

-- the minute after the seconds up to this one have passed. After 61 seconds no earlier second is kept
abbrev pub advanced : Minute → ℕ → Minute
advanced m second = in_second (passed_by (min (second - m.second) 61) m) second

-- the minute with this number of additional messages in this second
abbrev pub counted : Minute → ℕ → ℕ → Minute
counted m second messages =
    let m = advanced m second in record { before = m.before; present = added m.present messages; second = m.second }

-- the sum of numbers, added to a first one
abbrev pub sum_from : ℕ → List ℕ → ℕ
sum_from so_far [] = so_far
sum_from so_far (n ∷ ns) = sum_from (added so_far n) ns

-- the number of messages of the seconds before the current one
abbrev pub total : Minute → ℕ
total m = sum_from 0 m.before

-- the messages per second over those seconds, in thousandths
abbrev pub rate : Minute → ℕ
rate m = min (total m * 1000) most / 60

-- the number of messages before the one number and not before the other
abbrev pub received : Option ℕ → Option ℕ → ℕ
received (Some before) (Some next) = next - before
received None next = 0
received (Some before) None = 0

-- the tally with this number of additional messages in the current second, which may be 0
abbrev pub with_received : FeedTally → Option ℕ → ℕ → ℕ → FeedTally
with_received t next now_ms count =
    record {
      next = next;
      messages = added t.messages count;
      minute = counted t.minute (now_ms / 1000) count;
      received_ms = if nat_lt 0 count then Some now_ms else t.received_ms;
    }

-- the tally after the messages before this number
abbrev pub seen : FeedTally → Option ℕ → ℕ → FeedTally
seen t next now_ms = with_received t next now_ms (received t.next next)
