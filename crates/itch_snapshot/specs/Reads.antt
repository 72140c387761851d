-- Reading a snapshot, step by step: the effect on the reader.
use Rattle.std.specs.Prelude.{◌≡◌, ℕ, ◌-◌, ◌≤◌, ◌^◌, ◌⊎◌, List, map, length, ⊤, Option, Some, None, Result, Ok, Err}
use Rattle.itch_codec.specs.Messages.{message_of}
use Rattle.itch_frame.specs.Counting.{failed}
use Rattle.itch_frame.specs.Reading.{EndsHere, FailsHere}
use Rattle.itch_frame.specs.declared.tally.Failures.{Failures}
use Rattle.itch_frame.specs.declared.fault.FrameFault.TheVariants.{Read}
use Rattle.itch_market.specs.declared.stop.Stop.TheVariants as stop
use Rattle.itch_market.specs.Content.{Content, empty}
use Rattle.itch_market.specs.Runs.{after}
use Rattle.itch_market.specs.Replays.{TakesOff, Takes, IsDecided}
use Rattle.itch_snapshot.specs.declared.fault.SnapFault.{SnapFault}
use Rattle.itch_snapshot.specs.declared.fault.SnapFault.TheVariants.{NoEnd, Frame, Codec, Rule, AfterEnd, TooManyMessages}
use Rattle.itch_snapshot.specs.TakenMessages.{closing_number, TakesNext}

-- a payload came off the front, and this holds for it
abbrev pub ReadsPayload : Option (List ℕ) → Option (List ℕ) → (List ℕ → Type 0) → Type 0
ReadsPayload old new P = (payload : List ℕ) × TakesOff old new payload × P payload

-- the result of reading on after `taken` messages, and its effect on the market after them
abbrev pub ReadsNext : ℕ → Content → Option (List ℕ) → Option (List ℕ) → Result (Option ℕ) SnapFault → Content → Type 0
ReadsNext taken m old new (Err NoEnd) n = (n ≡ m) × EndsHere old new
ReadsNext taken m old new (Err (Frame f)) n = (n ≡ m) × FailsHere f old new
ReadsNext taken m old new (Err (Codec place f)) n = ReadsPayload old new (λ payload. TakesNext taken m payload (Err (Codec place f)) n)
ReadsNext taken m old new (Err (Rule place why)) n = ReadsPayload old new (λ payload. TakesNext taken m payload (Err (Rule place why)) n)
ReadsNext taken m old new (Err TooManyMessages) n = ReadsPayload old new (λ payload. TakesNext taken m payload (Err TooManyMessages) n)
ReadsNext taken m old new (Err AfterEnd) n = ⊥
ReadsNext taken m old new (Ok None) n = ReadsPayload old new (λ payload. TakesNext taken m payload (Ok None) n)
ReadsNext taken m old new (Ok (Some next)) n = ReadsPayload old new (λ payload. TakesNext taken m payload (Ok (Some next)) n)

-- the result of reading on after the End of Snapshot
abbrev pub ReadsEnd : Option (List ℕ) → Option (List ℕ) → Result (Unit {0}) SnapFault → Type 0
ReadsEnd old new (Ok done) = EndsHere old new
ReadsEnd old new (Err AfterEnd) = ReadsPayload old new (λ payload. ⊤)
ReadsEnd old new (Err (Frame f)) = FailsHere f old new
ReadsEnd old new (Err NoEnd) = ⊥
ReadsEnd old new (Err (Codec place f)) = ⊥
ReadsEnd old new (Err (Rule place why)) = ⊥
ReadsEnd old new (Err TooManyMessages) = ⊥

-- messages were taken from a market, and then the reading ended
abbrev pub ReadsAll : Content → Option (List ℕ) → Option (List ℕ) → Result ℕ SnapFault → Content → Type 0
ReadsAll m old new (Ok next) n =
    (payloads : List (List ℕ)) × (mid : Option (List ℕ)) × Takes m old mid payloads n × (length payloads ≤ 10 ^ 19 - 1)
    × ReadsPayload mid new (λ payload. closing_number payload ≡ Some next)
ReadsAll m old new (Err fault) n =
    (payloads : List (List ℕ)) × (mid : Option (List ℕ)) × Takes m old mid payloads n × (length payloads ≤ 10 ^ 19 - 1)
    × ReadsNext (length payloads) (after m (map message_of payloads)) mid new (Err fault) (after m (map message_of payloads))

-- the messages of a snapshot up to its End of Snapshot are read, and then the rest, unless there was a fault before
abbrev pub ReadsSnapshot : Option (List ℕ) → Option (List ℕ) → Result (Content × ℕ) SnapFault → Type 0
ReadsSnapshot old new (Ok done) = (mid : Option (List ℕ)) × ReadsAll empty old mid (Ok done.1) done.0 × ReadsEnd mid new (Ok tt)
ReadsSnapshot old new (Err fault) =
    ((n : Content) × ReadsAll empty old new (Err fault) n)
    ⊎ ((mid : Option (List ℕ)) × (next : ℕ) × (n : Content) × ReadsAll empty old mid (Ok next) n × ReadsEnd mid new (Err fault))

-- a failed read is counted with its error, and nothing else is counted
abbrev pub CountsFault : SnapFault → Failures → Failures → Type 0
CountsFault (Frame (Read error)) old new = new ≡ failed error old
CountsFault fault old new = new ≡ old

-- a fault that depends only on the file: no read failed, and memory did not run out
abbrev pub IsDecidedFault : SnapFault → Type 0
IsDecidedFault (Frame f) = IsDecided (stop.Frame f)
IsDecidedFault (Rule place why) = IsDecided (stop.Rule why)
IsDecidedFault fault = ⊤
