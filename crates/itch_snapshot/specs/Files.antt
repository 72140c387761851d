-- Snapshot files (GLIMPSE 5.0): the blocks of messages, then the block of End of Snapshot, and no more.
use Rattle.std.specs.Prelude.{◌≡◌, ℕ, ◌+◌, ◌-◌, ◌≤◌, ◌^◌, ◌⊎◌, List, [], ◌∷◌, ◌++◌, length, None, slice_get, IfSome}
use Rattle.std.specs.List.{AllByRecursion}
use Rattle.itch_codec.specs.declared.message.Message.{Message}
use Rattle.itch_codec.specs.declared.message.Message.TheVariants as is
use Rattle.itch_codec.specs.Messages.{Spells}
use Rattle.itch_codec.specs.Widths.{IsMessage}
use Rattle.itch_frame.specs.Blocks.{IsPayload, IsFull, block, blocks, Ends, Open}
use Rattle.itch_frame.specs.declared.fault.FrameFault.TheVariants.{Read, Truncated, Write, TooLong}
use Rattle.itch_market.specs.Content.{Content, empty, laid}
use Rattle.itch_market.specs.Runs.{run, Follows}
use Rattle.itch_market.specs.declared.stop.Stop.{Stop}
use Rattle.itch_market.specs.declared.stop.Stop.TheVariants as stop
use Rattle.itch_market.specs.Stops.{Stops}
use Rattle.itch_snapshot.specs.declared.fault.SnapFault.{SnapFault}
use Rattle.itch_snapshot.specs.declared.fault.SnapFault.TheVariants.{NoEnd, Frame, Codec, Rule, AfterEnd, TooManyMessages}
use Rattle.itch_snapshot.specs.TakenMessages.{closing_number}

-- each payload encodes the message at its position
abbrev pub AreSpelled : List Message → List (List ℕ) → Type 0
AreSpelled [] [] = Unit {0}
AreSpelled [] (p ∷ ps) = ⊥
AreSpelled (x ∷ xs) [] = ⊥
AreSpelled (x ∷ xs) (p ∷ ps) = Spells x p × AreSpelled xs ps

-- the bytes are the blocks of these messages, which follow the order rules (so that none is End of Snapshot), then the block of an End of
-- Snapshot with this number, and then a rest
pub record ClosesBefore (rest bytes : List ℕ) (ms : List Message) (next : ℕ) : Type 0 where
  pub payloads : List (List ℕ)
  pub last : List ℕ
  pub whole : bytes ≡ blocks payloads ++ (block last ++ rest)
  pub each : AllByRecursion IsPayload payloads
  pub spelled : AreSpelled ms payloads
  pub follows : Follows ms
  pub few : length ms ≤ 10 ^ 19 - 1
  pub closes : Spells (is.End next) last

-- a snapshot file with these messages, and the number of the first message that they do not contain
abbrev pub IsSnapshotFile : List ℕ → List Message → ℕ → Type 0
IsSnapshotFile bytes ms next = (rest : List ℕ) × ClosesBefore rest bytes ms next × Ends rest

-- the file has an End of Snapshot, and this holds for the bytes after it
abbrev pub IsClosedBefore : List ℕ → (List ℕ → Type 0) → Type 0
IsClosedBefore bytes P = (ms : List Message) × (next : ℕ) × (rest : List ℕ) × ClosesBefore rest bytes ms next × P rest

-- a replay from the empty market stops for this reason at this position, counted from 1, and the message there is not End of Snapshot
pub record StopsAt (bytes : List ℕ) (place : ℕ) (why : Stop) : Type 0 where
  pub before : ℕ
  pub place_is : place ≡ before + 1
  pub stops : Stops empty bytes before why
  pub no_end : IfSome (slice_get stops.payloads before) (λ payload. closing_number payload ≡ None)

-- the reason why a file is not a snapshot file: the bytes after its End of Snapshot if it has one, otherwise the stop of a replay from the
-- empty market
abbrev pub IsFaultOf : List ℕ → SnapFault → Type 0
IsFaultOf bytes NoEnd = (k : ℕ) × Stops empty bytes k stop.End
IsFaultOf bytes (Frame (Truncated held)) =
    ((k : ℕ) × Stops empty bytes k (stop.Frame (Truncated held))) ⊎ IsClosedBefore bytes (λ rest. Open rest × (held ≡ length rest))
IsFaultOf bytes (Frame (Read error)) = ⊥
IsFaultOf bytes (Frame (Write sent error)) = ⊥
IsFaultOf bytes (Frame TooLong) = ⊥
IsFaultOf bytes (Codec place f) = StopsAt bytes place (stop.Codec f)
IsFaultOf bytes (Rule place why) = StopsAt bytes place (stop.Rule why)
IsFaultOf bytes AfterEnd = IsClosedBefore bytes (λ rest. (payload : List ℕ) × (more : List ℕ) × IsFull payload × (rest ≡ block payload ++ more))
IsFaultOf bytes TooManyMessages = StopsAt bytes (10 ^ 19) stop.TooManyMessages

-- a market and a number are those of the snapshot file
abbrev pub IsMarketOf : List ℕ → Content × ℕ → Type 0
IsMarketOf bytes done =
    (ms : List Message) × IsSnapshotFile bytes ms done.1 × AllByRecursion IsMessage ms × (done.0 ≡ laid (run ms))
