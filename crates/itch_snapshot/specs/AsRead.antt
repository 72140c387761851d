-- Reading payloads if only some locates are wanted, and reading a snapshot in this way.
use Rattle.std.specs.Prelude.{◌≡◌, ℕ, ◌-◌, ◌≤◌, ◌^◌, Bool, false, List, ◌++◌, map, length, Option, None, Some, Result, Ok, Err, if◌then◌else◌}
use Rattle.std.specs.List.{AllByRecursion}
use Rattle.std.specs.Io.KnownBytes.{Consumes}
use Rattle.itch_codec.specs.declared.message.Message.{Message}
use Rattle.itch_codec.specs.declared.message.Message.TheVariants.{BrokenTrade}
use Rattle.itch_codec.specs.Messages.{fault, message_of, spelling}
use Rattle.itch_frame.specs.Blocks.{blocks, IsFull, Day}
use Rattle.itch_frame.specs.Reading.{EndsHere, FailsHere}
use Rattle.itch_market.specs.Content.{Content, empty, laid}
use Rattle.itch_market.specs.Runs.{run}
use Rattle.itch_market.specs.Replays.{Fits, NoCause, Refuses, TakesOff, Halts}
use Rattle.itch_market.specs.Wanted.{Wanted, has}
use Rattle.itch_market.specs.declared.stop.Stop.{Stop}
use Rattle.itch_market.specs.declared.stop.Stop.TheVariants.{Codec, Rule}
use Rattle.itch_snapshot.specs.declared.fault.SnapFault.{SnapFault}
use Rattle.itch_snapshot.specs.declared.fault.SnapFault.TheVariants as snapshot
use Rattle.itch_snapshot.specs.Files.{IsFaultOf}
use Rattle.itch_snapshot.specs.TakenMessages.{closing_number, is_skipped, TakesNext}
use Rattle.itch_snapshot.specs.Reads.{ReadsPayload}

-- a message to which no order rule applies, and that changes nothing
abbrev pub idle : Message
idle = BrokenTrade (record { header = record { locate = 0; tracking = 0; stamp = 0 }; match_number = 0 })

-- a payload whose message is skipped is read as the idle message, and any other payload unchanged
abbrev pub as_read : (ℕ → Bool) → List ℕ → List ℕ
as_read wanted payload = if is_skipped wanted payload then spelling idle else payload

-- the same for the locates of a set; without a set, all are wanted
abbrev pub read_by : Option Wanted → List ℕ → List ℕ
read_by None payload = payload
read_by (Some set) payload = as_read (has set) payload

-- These payloads came off the front, and none is empty. As they are read, none is faulty or refused, and they result in this market.
pub record TakesAs (read : List ℕ → List ℕ) (old new : Option (List ℕ)) (payloads : List (List ℕ)) (n : Content) : Type 0 where
  pub bytes : Consumes old new (blocks payloads)
  pub full : AllByRecursion IsFull payloads
  pub none : NoCause empty (map read payloads)
  pub fits : AllByRecursion Fits (map read payloads)
  pub left : n ≡ laid (run (map message_of (map read payloads)))

-- the result of reading on after `taken` messages of a snapshot, and its effect on the market after them
abbrev pub ReadsNextAs : (List ℕ → List ℕ) → ℕ → Content → Option (List ℕ) → Option (List ℕ) → Result (Option ℕ) SnapFault → Content → Type 0
ReadsNextAs read taken m old new (Err snapshot.NoEnd) n = (n ≡ m) × EndsHere old new
ReadsNextAs read taken m old new (Err (snapshot.Frame f)) n = (n ≡ m) × FailsHere f old new
ReadsNextAs read taken m old new result n = ReadsPayload old new (λ payload. TakesNext taken m (read payload) result n)

-- messages were taken from the empty market, and then the reading ended
abbrev pub ReadsAs : (List ℕ → List ℕ) → Option (List ℕ) → Option (List ℕ) → Result ℕ SnapFault → Content → Type 0
ReadsAs read old new (Ok next) n =
    (payloads : List (List ℕ)) × (mid : Option (List ℕ)) × TakesAs read old mid payloads n × (length payloads ≤ 10 ^ 19 - 1)
    × ReadsPayload mid new (λ payload. closing_number payload ≡ Some next)
ReadsAs read old new (Err fault) n =
    (payloads : List (List ℕ)) × (mid : Option (List ℕ)) × TakesAs read old mid payloads n × (length payloads ≤ 10 ^ 19 - 1)
    × ReadsNextAs read (length payloads) (run (map message_of (map read payloads))) mid new (Err fault) (run (map message_of (map read payloads)))

-- the bytes of a file with each payload as it is read
pub record IsSeen (read : List ℕ → List ℕ) (bytes seen : List ℕ) : Type 0 where
  pub payloads : List (List ℕ)
  pub rest : List ℕ
  pub day : Day bytes payloads rest
  pub same : seen ≡ blocks (map read payloads) ++ rest

-- the fault of a snapshot file as it is read
abbrev pub IsFaultAs : (List ℕ → List ℕ) → List ℕ → SnapFault → Type 0
IsFaultAs read bytes fault = (seen : List ℕ) × IsSeen read bytes seen × IsFaultOf seen fault

-- the reason why no further message of a feed is taken; `full` states that the maximum number was applied to the market
abbrev pub HaltsAs : (List ℕ → List ℕ) → Bool → Content → Option (List ℕ) → Option (List ℕ) → Stop → Type 0
HaltsAs read full m old new (Codec f) = (payload : List ℕ) × TakesOff old new payload × (full ≡ false) × (fault (read payload) ≡ Some f)
HaltsAs read full m old new (Rule why) = (payload : List ℕ) × TakesOff old new payload × (full ≡ false) × Refuses m (read payload) why
HaltsAs read full m old new why = Halts full m old new why

-- a new market is read from the messages of a snapshot
abbrev pub ReadsMarket : (List ℕ → List ℕ) → Option (List ℕ) → Option (List ℕ) → Result (Content × ℕ) SnapFault → Type 0
ReadsMarket read old new (Ok done) = ReadsAs read old new (Ok done.1) done.0
ReadsMarket read old new (Err fault) = (n : Content) × ReadsAs read old new (Err fault) n
