-- The effect of a message of a snapshot on the market that is built from it.
use Rattle.std.specs.Prelude.{◌≡◌, ◌≢◌, ℕ, ◌+◌, ◌-◌, ◌^◌, ◌==◌, Bool, true, false, List, Option, Some, None, Result, Ok, Err}
use Rattle.itch_codec.specs.declared.fault.CodecFault.{CodecFault}
use Rattle.itch_codec.specs.declared.message.Message.{Message}
use Rattle.itch_codec.specs.declared.message.Message.TheVariants as is
use Rattle.itch_codec.specs.Messages.{fault, message_of}
use Rattle.itch_market.specs.declared.refusal.Refusal.TheVariants.{OutOfMemory}
use Rattle.itch_market.specs.declared.stop.Stop.TheVariants as stop
use Rattle.itch_market.specs.Content.{Content, empty}
use Rattle.itch_market.specs.Replays.{TakesOne}
use Rattle.itch_market.specs.Partial.{skips}
use Rattle.itch_market.specs.Wanted.{Wanted, has}
use denote.Ref.{Bor}
use Rattle.itch_snapshot.specs.declared.fault.SnapFault.{SnapFault}
use Rattle.itch_snapshot.specs.declared.fault.SnapFault.TheVariants.{NoEnd, Frame, Codec, Rule, AfterEnd, TooManyMessages}
use Rattle.itch_snapshot.specs.declared.reader.SnapshotStage.{SnapshotStage}
use Rattle.itch_snapshot.specs.declared.reader.SnapshotStage.TheVariants.{Taking, Broken, Closed}

-- the number in an End of Snapshot
abbrev pub number_in : Message → Option ℕ
number_in (is.End next) = Some next
number_in x = None

abbrev pub number_by : Option CodecFault → List ℕ → Option ℕ
number_by (Some f) payload = None
number_by None payload = number_in (message_of payload)

-- the number in the End of Snapshot of a payload, if the payload is one
abbrev pub closing_number : List ℕ → Option ℕ
closing_number payload = number_by (fault payload) payload

-- the maximum number of messages of a snapshot was taken
abbrev pub is_full : ℕ → Bool
is_full taken = taken == 10 ^ 19 - 1

-- the message of a payload is applied after `taken` others, or it is End of Snapshot, or neither
abbrev pub TakesNext : ℕ → Content → List ℕ → Result (Option ℕ) SnapFault → Content → Type 0
TakesNext taken m payload (Ok None) n = (is_full taken ≡ false) × TakesOne m payload (Ok tt) n
TakesNext taken m payload (Ok (Some next)) n = (n ≡ m) × (closing_number payload ≡ Some next)
TakesNext taken m payload (Err (Codec place f)) n = (is_full taken ≡ false) × (place ≡ taken + 1) × TakesOne m payload (Err (stop.Codec f)) n
TakesNext taken m payload (Err (Rule place why)) n =
    (is_full taken ≡ false) × (place ≡ taken + 1) × (closing_number payload ≡ None) × TakesOne m payload (Err (stop.Rule why)) n
TakesNext taken m payload (Err TooManyMessages) n = (is_full taken ≡ true) × (closing_number payload ≡ None) × (n ≡ m)
TakesNext taken m payload (Err NoEnd) n = ⊥
TakesNext taken m payload (Err (Frame f)) n = ⊥
TakesNext taken m payload (Err AfterEnd) n = ⊥

abbrev pub skipped_by : (ℕ → Bool) → Option CodecFault → List ℕ → Bool
skipped_by wanted (Some f) payload = false
skipped_by wanted None payload = skips wanted (message_of payload)

-- the message of a payload is about a locate that is not wanted
abbrev pub is_skipped : (ℕ → Bool) → List ℕ → Bool
is_skipped wanted payload = skipped_by wanted (fault payload) payload

-- the message of a payload changes nothing if it is skipped, and otherwise it is applied
abbrev pub AppliesUnless : Bool → Content → List ℕ → Content → Type 0
AppliesUnless true m payload n = n ≡ m
AppliesUnless false m payload n = TakesOne m payload (Ok tt) n

-- as `TakesNext`, but a message that is skipped has no reason and no effect
abbrev pub TakesNextOnly : (ℕ → Bool) → ℕ → Content → List ℕ → Result (Option ℕ) SnapFault → Content → Type 0
TakesNextOnly wanted taken m payload (Ok None) n = (is_full taken ≡ false) × AppliesUnless (is_skipped wanted payload) m payload n
TakesNextOnly wanted taken m payload (Ok (Some next)) n = TakesNext taken m payload (Ok (Some next)) n
TakesNextOnly wanted taken m payload (Err (Codec place f)) n = TakesNext taken m payload (Err (Codec place f)) n
TakesNextOnly wanted taken m payload (Err (Rule place why)) n = (is_skipped wanted payload ≡ false) × TakesNext taken m payload (Err (Rule place why)) n
TakesNextOnly wanted taken m payload (Err TooManyMessages) n = TakesNext taken m payload (Err TooManyMessages) n
TakesNextOnly wanted taken m payload (Err NoEnd) n = ⊥
TakesNextOnly wanted taken m payload (Err (Frame f)) n = ⊥
TakesNextOnly wanted taken m payload (Err AfterEnd) n = ⊥

-- the effect of the next message; without a set, no message is skipped
abbrev pub TakesFor : Option (Bor Wanted) → ℕ → Content → List ℕ → Result (Option ℕ) SnapFault → Content → Type 0
TakesFor None = TakesNext
TakesFor (Some set) = TakesNextOnly (has set.now)

-- a snapshot that is read message by message, as contracts describe it: the number of messages taken, the market after them, and the stage
pub record Load : Type 0 where
  pub taken : ℕ
  pub market : Content
  pub stage : SnapshotStage

-- before the first message
abbrev pub begun : Load
begun = record { taken = 0; market = empty; stage = Taking }

-- a message that was taken is counted
abbrev pub taken_after : ℕ → Result (Option ℕ) SnapFault → ℕ
taken_after taken (Ok None) = taken + 1
taken_after taken (Ok (Some next)) = taken
taken_after taken (Err fault) = taken

-- a fault remains, unless memory ran out
abbrev pub broken_by : SnapFault → SnapshotStage
broken_by (Rule place OutOfMemory) = Taking
broken_by fault = Broken fault

-- the stage after a message
abbrev pub stage_after : Result (Option ℕ) SnapFault → SnapshotStage
stage_after (Ok None) = Taking
stage_after (Ok (Some next)) = Closed next
stage_after (Err fault) = broken_by fault

-- the effect of the next message at each stage, from its effect on the market
abbrev pub TakesBy : (ℕ → Content → List ℕ → Result (Option ℕ) SnapFault → Content → Type 0) → SnapshotStage → Load → List ℕ → Result (Option ℕ) SnapFault → Load → Type 0
TakesBy Takes Taking old payload answer new =
    Takes old.taken old.market payload answer new.market × (new.taken ≡ taken_after old.taken answer) × (new.stage ≡ stage_after answer)
TakesBy Takes (Broken fault) old payload answer new = (answer ≡ Err fault) × (new ≡ old)
TakesBy Takes (Closed next) old payload answer new = (answer ≡ Err AfterEnd) × (new ≡ old)

-- the same if no message is skipped
abbrev pub TakesAt : SnapshotStage → Load → List ℕ → Result (Option ℕ) SnapFault → Load → Type 0
TakesAt = TakesBy TakesNext

-- the same if messages of some locates are skipped
abbrev pub TakesAtOnly : (ℕ → Bool) → SnapshotStage → Load → List ℕ → Result (Option ℕ) SnapFault → Load → Type 0
TakesAtOnly wanted = TakesBy (TakesNextOnly wanted)

-- the result and the effect of taking a message
abbrev pub Loads : Load → List ℕ → Result (Option ℕ) SnapFault → Load → Type 0
Loads old payload answer new = TakesAt old.stage old payload answer new

-- the same if messages of some locates are skipped
abbrev pub LoadsOnly : (ℕ → Bool) → Load → List ℕ → Result (Option ℕ) SnapFault → Load → Type 0
LoadsOnly wanted old payload answer new = TakesAtOnly wanted old.stage old payload answer new

-- the result at the end: the market and the number after an End of Snapshot, otherwise the unchanged reader
abbrev pub Finishes : Load → Result (Content × ℕ) Load → Type 0
Finishes old (Ok done) = (done.0 ≡ old.market) × (old.stage ≡ Closed done.1)
Finishes old (Err back) = (back ≡ old) × ((next : ℕ) → old.stage ≢ Closed next)
