-- The search for the first number of an order's history, and where it stops: at the first message that names the order.
use Rattle.std.specs.Prelude.{◌≡◌, ℕ, ◌-◌, ◌<◌, ◌≤◌, ◌^◌, true, false, List, ◌++◌, length, map, Option, None, Some, IsSome, Result, Ok, Err}
use Rattle.std.specs.List.{AllByRecursion}
use Rattle.std.specs.Io.KnownBytes.{Consumes}
use Rattle.itch_codec.specs.Messages.{fault, message_of}
use Rattle.itch_codec.specs.declared.message.Message.{Message}
use Rattle.itch_frame.specs.Blocks.{blocks, IsFull}
use Rattle.itch_frame.specs.Reading.{Reading, bytes_left}
use Rattle.itch_frame.specs.declared.tally.Failures.{Failures}
use Rattle.itch_day.specs.Limits.{IsNotLate, IsWithin}
use Rattle.itch_day.specs.Parts.{Counts, Leaves, StopsAt}
use Rattle.itch_day.specs.declared.limit.Limit.{Limit}
use Rattle.itch_day.specs.declared.stop.PartStop.{PartStop}
use Rattle.itch_day.specs.declared.stop.PartStop.TheVariants as stop
use Rattle.itch_history.specs.Histories.{first_number, listed, names, number_before, replacement_of}
use Rattle.itch_history.specs.declared.chain.Replacement.{Replacement}
use Rattle.itch_history.specs.declared.fault.SearchFault.{SearchFault}
use Rattle.itch_history.specs.declared.fault.SearchFault.TheVariants.{Short, Frame, Codec, TooMany, OutOfMemory}
use Rattle.itch_history.specs.declared.finder.NotPassed.{NotPassed}
use Rattle.itch_history.specs.declared.finder.NotPassed.TheVariants as not_passed

-- the payload is a valid message
abbrev pub IsClean : List ℕ → Type 0
IsClean payload = fault payload ≡ None

-- the message of a payload does not name the order with this number
abbrev pub IsOfOthers : ℕ → List ℕ → Type 0
IsOfOthers number payload = names number (message_of payload) ≡ false

-- a message that does not name the order is passed, and listed if it is a replacement
abbrev pub PassesMessage : ℕ → List ℕ → List Replacement → List Replacement → Type 0
PassesMessage number payload old new =
    IsClean payload × IsOfOthers number payload × (new ≡ old ++ listed (replacement_of (message_of payload)))

-- a message is not passed: it is the first to name the order, which had this number before it; or it is not valid; or memory ran out
-- for a replacement
abbrev pub LeavesMessage : ℕ → List ℕ → NotPassed → Type 0
LeavesMessage number payload (not_passed.Found before) =
    IsClean payload × (names number (message_of payload) ≡ true) × (before ≡ number_before (message_of payload) number)
LeavesMessage number payload (not_passed.Codec why) = fault payload ≡ Some why
LeavesMessage number payload not_passed.OutOfMemory = IsClean payload × IsOfOthers number payload × IsSome (replacement_of (message_of payload))

-- a message is passed, or it is not; if it is the first to name the order, the list stays the same
abbrev pub Finds : ℕ → List ℕ → List Replacement → NotPassed → List Replacement → Type 0
Finds number payload old (not_passed.Found before) new = LeavesMessage number payload (not_passed.Found before) × (new ≡ old)
Finds number payload old why new = LeavesMessage number payload why

-- the same of a valid message
abbrev pub Collects : ℕ → Message → List Replacement → Result (Unit {0}) NotPassed → List Replacement → Type 0
Collects number message old (Ok done) new = (names number message ≡ false) × (new ≡ old ++ listed (replacement_of message))
Collects number message old (Err (not_passed.Found before)) new = (names number message ≡ true) × (before ≡ number_before message number) × (new ≡ old)
Collects number message old (Err (not_passed.Codec why)) new = ⊥
Collects number message old (Err not_passed.OutOfMemory) new = (names number message ≡ false) × IsSome (replacement_of message)

-- the result at the end of the file, which is not a fault if no number of messages was requested
abbrev pub ended_search : Option ℕ → ℕ → Result (Option ℕ) SearchFault
ended_search None count = Ok None
ended_search (Some most) count = Err (Short count)

-- the result of a search that stops after that many messages; `first` goes back from the order's number there to its first one
abbrev pub answer_of : (ℕ → ℕ) → Option ℕ → ℕ → PartStop NotPassed → Result (Option ℕ) SearchFault
answer_of first wanted count stop.Full = Ok None
answer_of first wanted count stop.Late = Ok None
answer_of first wanted count stop.End = ended_search wanted count
answer_of first wanted count (stop.Frame why) = Err (Frame count why)
answer_of first wanted count stop.TooMany = Err (TooMany count)
answer_of first wanted count (stop.Refused (not_passed.Found before)) = Ok (Some (first before))
answer_of first wanted count (stop.Refused (not_passed.Codec why)) = Err (Codec count why)
answer_of first wanted count (stop.Refused not_passed.OutOfMemory) = Err OutOfMemory

-- these payloads came off the front: valid messages of the requested part, none of which names the order
pub record Passes {R : Type 0} (remaining : R → Option (List ℕ)) (number : ℕ) (limit : Limit) (old new : Reading R) (payloads : List (List ℕ)) : Type 0 where
  pub bytes : Consumes (bytes_left remaining old) (bytes_left remaining new) (blocks payloads)
  pub full : AllByRecursion IsFull payloads
  pub clean : AllByRecursion IsClean payloads
  pub others : AllByRecursion (IsOfOthers number) payloads
  pub early : AllByRecursion (IsNotLate limit) payloads
  pub wanted : 0 < length payloads → IsWithin limit (length payloads)
  pub few : length payloads ≤ 10 ^ 19 - 1

module _ {R : Type 0} (remaining : R → Option (List ℕ)) (failures : R → Failures) where
  -- The messages of the requested part that do not name the order are passed, up to this stop: the first that does name it, the end of the
  -- part, or a fault. If one names the order, the result is the first number of its history, by the messages before.
  abbrev pub Searches : ℕ → Limit → Reading R → Reading R → Result (Option ℕ) SearchFault → Type 0
  Searches number limit old new result =
      (payloads : List (List ℕ)) × (why : PartStop NotPassed) × Passes remaining number limit old new payloads
      × StopsAt remaining (λ (old : ℕ) count payload why (new : ℕ). LeavesMessage number payload why) limit (length payloads) new number why number
      × Counts why (failures old.reader) (failures new.reader) × Leaves old (length payloads) why new
      × (result ≡ answer_of (first_number (map message_of payloads)) limit.after (length payloads) why)
