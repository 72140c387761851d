-- A replay, step by step: its reader and its market.
use Rattle.std.specs.Prelude.{◌≡◌, ◌≢◌, ℕ, ◌-◌, ◌<◌, ◌≤◌, ◌^◌, ◌==◌, ◌⊎◌, Bool, true, false, IsTrue, List, [], map, length, ⊤, Option, Some, None, Result, Ok, Err}
use Rattle.std.specs.List.{AllByRecursion}
use Rattle.std.specs.Io.KnownBytes.{Consumes}
use Rattle.itch_codec.specs.Messages.{fault, message_of}
use Rattle.itch_codec.specs.Widths.{IsMessage}
use Rattle.itch_frame.specs.Blocks.{block, blocks, IsFull}
use Rattle.itch_frame.specs.Counting.{failed}
use Rattle.itch_frame.specs.Reading.{Reading, EndsHere, FailsHere}
use Rattle.itch_frame.specs.declared.reader.BlockStage.TheVariants.{Going, Given, Ended, Cut}
use Rattle.itch_frame.specs.declared.tally.Failures.{Failures}
use Rattle.itch_frame.specs.declared.fault.FrameFault.TheVariants.{Read, Truncated, Write, TooLong}
use Rattle.itch_market.specs.declared.refusal.Refusal.{Refusal}
use Rattle.itch_market.specs.declared.refusal.Refusal.TheVariants.{UnknownLocate, StockMismatch, ZeroShares, DuplicateRef, UnknownRef, LocateMismatch, TooManyShares, UnexpectedEnd, OutOfMemory}
use Rattle.itch_market.specs.declared.stop.Stop.{Stop}
use Rattle.itch_market.specs.declared.stop.Stop.TheVariants.{End, Frame, Codec, Rule, TooManyMessages}
use Rattle.itch_market.specs.Content.{Content, laid}
use Rattle.itch_market.specs.Reasons.{reason}
use Rattle.itch_market.specs.Effects.{effect, takes_memory}
use Rattle.itch_market.specs.Runs.{after}
use Rattle.itch_market.specs.Stops.{cause, cause_at}

-- none of these payloads has a fault or is refused
abbrev pub NoCause : Content → List (List ℕ) → Type 0
NoCause m payloads = (k : ℕ) → k < length payloads → cause_at m payloads k ≡ None

-- the fields of a payload's message fit
abbrev pub Fits : List ℕ → Type 0
Fits payload = IsMessage (message_of payload)

-- a message was refused: for its reason, or because memory ran out, if it has no reason and takes memory
abbrev pub IsRefusal : Option Refusal → Bool → Refusal → Type 0
IsRefusal None takes why = (why ≡ OutOfMemory) × IsTrue takes
IsRefusal (Some reason) takes why = why ≡ reason

abbrev pub Refuses : Content → List ℕ → Refusal → Type 0
Refuses m payload why = (fault payload ≡ None) × IsRefusal (reason m (message_of payload)) (takes_memory m (message_of payload)) why

-- the message of a payload is applied, or not
abbrev pub TakesOne : Content → List ℕ → Result (Unit {0}) Stop → Content → Type 0
TakesOne m payload (Ok done) n = (cause m payload ≡ None) × Fits payload × (n ≡ laid (effect m (message_of payload)))
TakesOne m payload (Err (Codec f)) n = (n ≡ m) × (fault payload ≡ Some f)
TakesOne m payload (Err (Rule why)) n = (n ≡ m) × Refuses m payload why
TakesOne m payload (Err End) n = ⊥
TakesOne m payload (Err (Frame f)) n = ⊥
TakesOne m payload (Err TooManyMessages) n = ⊥

-- a block that is not empty came off the front, and nothing after it was read
abbrev pub TakesOff : Option (List ℕ) → Option (List ℕ) → List ℕ → Type 0
TakesOff old new payload = IsFull payload × Consumes old new (block payload)

-- the reason why no further message is applied to this market; `full` states that the maximum number was applied
abbrev pub Halts : Bool → Content → Option (List ℕ) → Option (List ℕ) → Stop → Type 0
Halts full m old new (Codec f) = (payload : List ℕ) × TakesOff old new payload × (full ≡ false) × (fault payload ≡ Some f)
Halts full m old new (Rule why) = (payload : List ℕ) × TakesOff old new payload × (full ≡ false) × Refuses m payload why
Halts full m old new End = EndsHere old new
Halts full m old new (Frame fault) = FailsHere fault old new
Halts full m old new TooManyMessages = (payload : List ℕ) × TakesOff old new payload × (full ≡ true)

-- a failed read is counted with its error, and nothing else is counted
abbrev pub Counts : Stop → Failures → Failures → Type 0
Counts End old new = new ≡ old
Counts (Frame (Truncated held)) old new = new ≡ old
Counts (Frame (Read error)) old new = new ≡ failed error old
Counts (Frame (Write sent error)) old new = ⊥
Counts (Frame TooLong) old new = ⊥
Counts (Codec f) old new = new ≡ old
Counts (Rule why) old new = new ≡ old
Counts TooManyMessages old new = new ≡ old

abbrev pub CountsFirst : Option Stop → Failures → Failures → Type 0
CountsFirst None old new = new ≡ old
CountsFirst (Some stop) old new = Counts stop old new

-- the reader of blocks after a stop, as in `NextBlock` for one block
abbrev pub LeavesReader : {R : Type 0} → Stop → Reading R → Type 0
LeavesReader End new = (new.held ≡ []) × ((new.stage ≡ Ended) ⊎ (new.stage ≡ Given))
LeavesReader (Frame (Truncated held)) new = (new.stage ≡ Cut) × (held ≡ length new.held)
LeavesReader (Frame (Read error)) new = new.stage ≡ Going
LeavesReader (Frame (Write sent error)) new = ⊥
LeavesReader (Frame TooLong) new = ⊥
LeavesReader (Codec f) new = (new.held ≡ []) × (new.stage ≡ Given)
LeavesReader (Rule why) new = (new.held ≡ []) × (new.stage ≡ Given)
LeavesReader TooManyMessages new = (new.held ≡ []) × (new.stage ≡ Given)

-- After the end of the input, or a block truncated there, each replay stops at once in the same way, and reads nothing.
abbrev pub StopsAgain : {R : Type 0} → Reading R → ℕ → Stop → Reading R → Type 0
StopsAgain old count stop new =
    (old.stage ≡ Ended → (count ≡ 0) × (stop ≡ End) × (new ≡ old))
    × (old.stage ≡ Cut → (count ≡ 0) × (stop ≡ Frame (Truncated (length old.held))) × (new ≡ old))

-- the same if n messages are requested: if n is 0, the reader does not change
abbrev pub LeavesReaderFirst : {R : Type 0} → Reading R → ℕ → Option Stop → Reading R → Type 0
LeavesReaderFirst old count None new =
    (count ≡ 0 → new ≡ old) × (0 < count → (new.held ≡ []) × (new.stage ≡ Given) × (old.stage ≢ Ended) × (old.stage ≢ Cut))
LeavesReaderFirst old count (Some stop) new = LeavesReader stop new × StopsAgain old count stop new

-- the effect of one block: its message is applied, or the replay stops
abbrev pub Step : Bool → Content → Option (List ℕ) → Option (List ℕ) → Result (Unit {0}) Stop → Content → Type 0
Step full m old new (Ok done) n = (payload : List ℕ) × TakesOff old new payload × (full ≡ false) × TakesOne m payload (Ok done) n
Step full m old new (Err stop) n = (n ≡ m) × Halts full m old new stop

-- these payloads came off the front, and their messages were applied
pub record Takes (m : Content) (old new : Option (List ℕ)) (payloads : List (List ℕ)) (n : Content) : Type 0 where
  pub bytes : Consumes old new (blocks payloads)
  pub full : AllByRecursion IsFull payloads
  pub none : NoCause m payloads
  pub fits : AllByRecursion Fits payloads
  pub left : n ≡ laid (after m (map message_of payloads))

-- some messages are applied, and then the replay stops
abbrev pub Replays : Content → Option (List ℕ) → Option (List ℕ) → ℕ → Stop → Content → Type 0
Replays m old new count stop n =
    (payloads : List (List ℕ)) × (mid : Option (List ℕ)) × Takes m old mid payloads n × (length payloads ≡ count) × (count ≤ 10 ^ 19 - 1)
    × Halts (count == 10 ^ 19 - 1) (after m (map message_of payloads)) mid new stop

-- this number of messages is applied and no more is read, or the replay stops earlier
abbrev pub ReplaysFirst : ℕ → Content → Option (List ℕ) → Option (List ℕ) → ℕ → Option Stop → Content → Type 0
ReplaysFirst most m old new count (Some stop) n = (count < most) × Replays m old new count stop n
ReplaysFirst most m old new count None n =
    (count ≡ most) × (count ≤ 10 ^ 19 - 1) × (payloads : List (List ℕ)) × Takes m old new payloads n × (length payloads ≡ count)

-- a stop that depends only on the file: no read failed, and no allocation
abbrev pub IsDecided : Stop → Type 0
IsDecided End = ⊤
IsDecided (Frame (Truncated held)) = ⊤
IsDecided (Frame (Read error)) = ⊥
IsDecided (Frame (Write sent error)) = ⊥
IsDecided (Frame TooLong) = ⊥
IsDecided (Codec f) = ⊤
IsDecided (Rule UnknownLocate) = ⊤
IsDecided (Rule StockMismatch) = ⊤
IsDecided (Rule ZeroShares) = ⊤
IsDecided (Rule DuplicateRef) = ⊤
IsDecided (Rule UnknownRef) = ⊤
IsDecided (Rule LocateMismatch) = ⊤
IsDecided (Rule (TooManyShares remain)) = ⊤
IsDecided (Rule UnexpectedEnd) = ⊤
IsDecided (Rule OutOfMemory) = ⊥
IsDecided TooManyMessages = ⊤
