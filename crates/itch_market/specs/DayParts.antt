-- Reading the requested part of a day: the market and the reader afterwards.
use Rattle.std.specs.Prelude.{◌≡◌, ℕ, ◌+◌, ◌-◌, ◌≤◌, ◌^◌, ◌==◌, Bool, false, List, map, length, ◌⊎◌, Option, None, Some, IsSome}
use Rattle.std.specs.List.{AllByRecursion}
use Rattle.itch_codec.specs.Messages.{message_of}
use Rattle.itch_frame.specs.Reading.{Reading, EndsHere}
use Rattle.itch_day.specs.Limits.{IsBefore, IsEarly, IsLate}
use Rattle.itch_day.specs.declared.limit.Limit.{Limit}
use Rattle.itch_market.specs.Content.{Content}
use Rattle.itch_market.specs.Runs.{after}
use Rattle.itch_market.specs.Replays.{Halts, LeavesReaderFirst, Refuses, Takes, TakesOff}
use Rattle.itch_market.specs.declared.stop.Stop.{Stop}
use Rattle.itch_market.specs.declared.stop.Stop.TheVariants.{Rule}

-- the next block, which came off the front, has a late message
abbrev pub LateNext : Limit → Option (List ℕ) → Option (List ℕ) → Type 0
LateNext limit old new = (payload : List ℕ) × TakesOff old new payload × IsLate limit payload

-- No message is requested after this many: the number is reached, and nothing was read; or the next message is late, and was read; or the
-- file ended.
abbrev pub IsEnough : Limit → ℕ → Option (List ℕ) → Option (List ℕ) → Type 0
IsEnough limit count old new =
    ((limit.after ≡ Some count) × (new ≡ old)) ⊎ (IsBefore limit count × LateNext limit old new) ⊎ ((limit.after ≡ None) × EndsHere old new)

-- these payloads came off the front, and their messages were applied: none is late
abbrev pub TakesEarly : Limit → Content → Option (List ℕ) → Option (List ℕ) → ℕ → List (List ℕ) → Content → Type 0
TakesEarly limit m old new count payloads n =
    Takes m old new payloads n × (length payloads ≡ count) × (count ≤ 10 ^ 19 - 1) × AllByRecursion (IsEarly limit) payloads

-- the requested part was applied
abbrev pub TakesPart : Limit → Content → Option (List ℕ) → Option (List ℕ) → ℕ → Content → Type 0
TakesPart limit m old new count n =
    (payloads : List (List ℕ)) × (mid : Option (List ℕ)) × TakesEarly limit m old mid count payloads n × IsEnough limit count mid new

-- the reason why no further message is applied to this market, as in `Halts`; a late message is not refused
abbrev pub HaltsEarly : Limit → Bool → Content → Option (List ℕ) → Option (List ℕ) → Stop → Type 0
HaltsEarly limit full m old new (Rule why) =
    (payload : List ℕ) × TakesOff old new payload × (full ≡ false) × Refuses m payload why × IsEarly limit payload
HaltsEarly limit full m old new stop = Halts full m old new stop

-- or the reading stopped earlier
abbrev pub HaltsPart : Limit → Content → Option (List ℕ) → Option (List ℕ) → ℕ → Stop → Content → Type 0
HaltsPart limit m old new count stop n =
    IsBefore limit count × (payloads : List (List ℕ)) × (mid : Option (List ℕ)) × TakesEarly limit m old mid count payloads n
    × HaltsEarly limit (count == 10 ^ 19 - 1) (after m (map message_of payloads)) mid new stop

-- the result of a part of a day, without a stop or with this one
abbrev pub PartOf : Limit → Content → Option (List ℕ) → Option (List ℕ) → ℕ → Option Stop → Content → Type 0
PartOf limit m old new count None n = TakesPart limit m old new count n
PartOf limit m old new count (Some stop) n = HaltsPart limit m old new count stop n

-- the reader of blocks afterwards: after the requested messages, or after the late one, or as for the stop
abbrev pub LeavesPartOf : {R : Type 0} → Limit → Reading R → ℕ → Option Stop → Reading R → Type 0
LeavesPartOf limit old count None new =
    (IsSome limit.after × LeavesReaderFirst old count None new) ⊎ (IsSome limit.until × LeavesReaderFirst old (count + 1) None new)
LeavesPartOf limit old count (Some stop) new = LeavesReaderFirst old count (Some stop) new
