-- The reading of a snapshot and of the feed that is joined to it. Payloads of a feed are given here as they are read.
use Rattle.std.specs.Prelude.{◌≡◌, ◌≢◌, ℕ, ◌+◌, ◌-◌, ◌≤◌, ◌<◌, ◌^◌, ◌==◌, ◌⊎◌, max, min, Bool, false, nat_lt, if◌then◌else◌, List, map, length, drop, ⊤, Option, Some, None, IsSome, IfSome, Result, Ok, Err}
use Rattle.std.specs.List.{AllByRecursion}
use Rattle.std.specs.Io.KnownBytes.{Consumes}
use Rattle.itch_codec.specs.Messages.{message_of}
use Rattle.itch_frame.specs.Blocks.{blocks, IsFull, Day}
use Rattle.itch_frame.specs.Reading.{Reading, bytes_left}
use Rattle.itch_frame.specs.declared.tally.Failures.{Failures}
use Rattle.itch_market.specs.Content.{Content}
use Rattle.itch_market.specs.FirstPlaces.{IsFirst}
use Rattle.itch_market.specs.Runs.{after}
use Rattle.itch_market.specs.Stops.{cause_at, last_stop}
use Rattle.itch_market.specs.Replays.{NoCause, TakesOff, Refuses, Counts, LeavesReaderFirst, IsDecided}
use Rattle.itch_market.specs.declared.stop.Stop.{Stop}
use Rattle.itch_market.specs.declared.stop.Stop.TheVariants as stop
use Rattle.itch_snapshot.specs.Reads.{CountsFault, IsDecidedFault}
use Rattle.itch_snapshot.specs.Snapshot.{snap}
use Rattle.itch_commands.specs.declared.fault.ToolFault.{ToolFault}
use Rattle.itch_commands.specs.declared.fault.ToolFault.TheVariants as tool
use Rattle.itch_commands.specs.declared.feed_part.FeedPart.{FeedPart}
use Rattle.itch_commands.specs.declared.feed_part.FeedMismatch.TheVariants.{Late}
use Rattle.itch_day.specs.declared.limit.Limit.{Limit}
use Rattle.itch_commands.specs.declared.fault.Source.TheVariants.{Only, Snapshot}
use Rattle.itch_snapshot.specs.AsRead.{ReadsAs, IsFaultAs, HaltsAs}
use Rattle.itch_commands.specs.FeedParts.{number_after, mismatch_of, part_of}
use Rattle.itch_day.specs.Limits.{IsBefore, IsNotLate}
use Rattle.itch_market.specs.DayParts.{LateNext}
use Rattle.itch_commands.specs.Readings.{LeavesDay}
use Rattle.itch_market.specs.DayMessages.{IsPart}

-- the market of a snapshot, and the number of the feed's first message that it does not contain
abbrev pub Start : Type 0
Start = Content × ℕ

-- the payloads from a number on, of a feed that begins after this many messages of its day
abbrev pub from_number : ℕ → ℕ → List (List ℕ) → List (List ℕ)
from_number before number payloads = drop (number - 1 - before) payloads

-- the market after the snapshot, and then the feed's messages from its number on
abbrev pub joined_market : ℕ → Start → List (List ℕ) → Content
joined_market before start payloads = after start.0 (map message_of (from_number before start.1 payloads))

-- the number of the first message that this market does not contain
abbrev pub joined_next : ℕ → Start → List (List ℕ) → ℕ
joined_next before start payloads = max start.1 (number_after before payloads)

-- the two of them
abbrev pub joined : ℕ → Start × List (List ℕ) → Content × ℕ
joined before both = (joined_market before both.0 both.1, joined_next before both.0 both.1)

-- These payloads of a feed came off the front, and none is empty or late. As they are read, none from the snapshot's number on is faulty or
-- refused; those below it may be anything.
pub record TakesFeed (read : List ℕ → List ℕ) (part : FeedPart) (start : Start) (old new : Option (List ℕ)) (payloads : List (List ℕ)) : Type 0 where
  pub bytes : Consumes old new (blocks payloads)
  pub full : AllByRecursion IsFull payloads
  pub taken : NoCause start.0 (from_number part.before start.1 (map read payloads))
  pub few : number_after part.before payloads ≤ 10 ^ 19
  pub in_time : AllByRecursion (IsNotLate part.limit) payloads

-- the reason why no further message of a feed is taken: as for `HaltsAs`, but a late message is not refused
abbrev pub HaltsFeed : (List ℕ → List ℕ) → Limit → Bool → Content → Option (List ℕ) → Option (List ℕ) → Stop → Type 0
HaltsFeed read limit full m old new (stop.Rule why) =
    (payload : List ℕ) × TakesOff old new payload × (full ≡ false) × Refuses m (read payload) why × IsNotLate limit payload
HaltsFeed read limit full m old new why = HaltsAs read full m old new why

-- the stop is because of a message
abbrev pub IsOfMessage : Stop → Type 0
IsOfMessage (stop.Codec f) = ⊤
IsOfMessage (stop.Rule why) = ⊤
IsOfMessage why = ⊥

-- These payloads are taken, and then this stop comes before the requested end: it is not because of a message below the snapshot's number.
abbrev pub EndsFeed : (List ℕ → List ℕ) → FeedPart → Start → Option (List ℕ) → Option (List ℕ) → List (List ℕ) → Stop → Type 0
EndsFeed read part start old new payloads why =
    IsBefore (part_of part start.1) (length payloads) × (mid : Option (List ℕ)) × TakesFeed read part start old mid payloads
    × (IsOfMessage why → start.1 ≤ number_after part.before payloads)
    × HaltsFeed read part.limit (number_after part.before payloads == 10 ^ 19) (joined_market part.before start (map read payloads)) mid new why

-- These payloads are taken, and then the next one is late.
abbrev pub LateFeed : (List ℕ → List ℕ) → FeedPart → Start → Option (List ℕ) → Option (List ℕ) → List (List ℕ) → Type 0
LateFeed read part start old new payloads =
    IsBefore (part_of part start.1) (length payloads) × (mid : Option (List ℕ)) × TakesFeed read part start old mid payloads × LateNext part.limit mid new

-- The requested payloads of a feed after a snapshot are taken: no more are requested; or the next one is late, and the snapshot does not
-- contain it; or the feed ended.
abbrev pub TakesWanted : (List ℕ → List ℕ) → FeedPart → Start → Option (List ℕ) → Option (List ℕ) → List (List ℕ) → Type 0
TakesWanted read part start old new payloads =
    (((part_of part start.1).after ≡ Some (length payloads)) × TakesFeed read part start old new payloads)
    ⊎ (LateFeed read part start old new payloads × (start.1 ≤ number_after part.before payloads))
    ⊎ (((part_of part start.1).after ≡ None) × EndsFeed read part start old new payloads stop.End)

-- the reason why the payload after the first k of a feed is not taken, if it is not: one below the snapshot's number always is taken
abbrev pub feed_cause_at : ℕ → Start → List (List ℕ) → ℕ → Option Stop
feed_cause_at before start payloads k =
    if nat_lt (before + k + 1) start.1 then None else cause_at start.0 (from_number before start.1 payloads) (k - (start.1 - 1 - before))

-- the reason why the reading of a feed would stop after its first k payloads, if it would
abbrev pub feed_stop_at : ℕ → Start → List (List ℕ) → List ℕ → ℕ → Option Stop
feed_stop_at before start payloads rest k =
    if k == min (10 ^ 19 - 1 - before) (length payloads) then Some (last_stop (10 ^ 19 - 1 - before) payloads rest) else feed_cause_at before start payloads k

-- the first k messages of a feed are taken after a snapshot, and then this stops the reading: it is the first bad place of the whole feed
pub record StopsFeed (read : List ℕ → List ℕ) (before : ℕ) (start : Start) (bytes : List ℕ) (k : ℕ) (why : Stop) : Type 0 where
  pub payloads : List (List ℕ)
  pub rest : List ℕ
  pub day : Day bytes payloads rest
  pub first : IsFirst (feed_stop_at before start (map read payloads) rest) k why

module _ (read : List ℕ → List ℕ) {R : Type 0} (remaining : R → Option (List ℕ)) (failures : R → Failures) where
  -- The result of reading a snapshot up to its End of Snapshot, and its reader afterwards: nothing after that is read.
  abbrev pub ReadsStart : Reading R → Reading R → Result Start ToolFault → Type 0
  ReadsStart old new (Ok start) =
      ReadsAs read (bytes_left remaining old) (bytes_left remaining new) (Ok start.1) start.0 × (failures new.reader ≡ failures old.reader)
  -- if it depends only on the file, it is the file's one fault
  ReadsStart old new (Err (tool.Snap at fault)) =
      (at ≡ Snapshot) × ((n : Content) × ReadsAs read (bytes_left remaining old) (bytes_left remaining new) (Err fault) n)
      × IfSome (bytes_left remaining old) (λ b. IsDecidedFault fault → IsFaultAs read b fault) × CountsFault fault (failures old.reader) (failures new.reader)
  ReadsStart old new (Err fault) = ⊥

  -- The result of reading the requested part of a feed after a snapshot, and its reader afterwards: its payloads, as they are read
  abbrev pub ReadsFeed : FeedPart → Reading R → Reading R → Start → Result (List (List ℕ)) ToolFault → Type 0
  ReadsFeed part old new start (Ok seen) =
      (mismatch_of part start.1 ≡ None)
      × ((payloads : List (List ℕ)) × (seen ≡ map read payloads)
      × IfSome (bytes_left remaining old) (λ b. IsPart (part_of part start.1) b payloads) × TakesWanted read part start (bytes_left remaining old) (bytes_left remaining new) payloads
      × (failures new.reader ≡ failures old.reader) × LeavesDay (Ok (length payloads)) (part_of part start.1) old new)
  -- or this many messages of the day are before this stop; if it depends only on the file, it is the first bad place of the feed
  ReadsFeed part old new start (Err (tool.Stopped at end)) =
      (at ≡ Only) × (end.stop ≢ stop.End) × (mismatch_of part start.1 ≡ None)
      × ((payloads : List (List ℕ)) × (part.before + length payloads ≡ end.count)
      × EndsFeed read part start (bytes_left remaining old) (bytes_left remaining new) payloads end.stop
      × IfSome (bytes_left remaining old) (λ b. IsDecided end.stop → StopsFeed read part.before start b (length payloads) end.stop)
      × Counts end.stop (failures old.reader) (failures new.reader) × LeavesReaderFirst old (length payloads) (Some end.stop) new)
  -- or the feed ends before the requested messages
  ReadsFeed part old new start (Err (tool.Short at count)) =
      (at ≡ Only) × IsSome (part_of part start.1).after × (mismatch_of part start.1 ≡ None)
      × ((payloads : List (List ℕ)) × (part.before + length payloads ≡ count)
      × EndsFeed read part start (bytes_left remaining old) (bytes_left remaining new) payloads stop.End
      × IfSome (bytes_left remaining old) (λ b. StopsFeed read part.before start b (length payloads) stop.End)
      × (failures new.reader ≡ failures old.reader) × LeavesReaderFirst old (length payloads) (Some stop.End) new)
  -- or a message is late that the snapshot contains
  ReadsFeed part old new start (Err (tool.FeedMismatch (Late number))) =
      (mismatch_of part start.1 ≡ None) × (number < start.1)
      × ((payloads : List (List ℕ)) × (number_after part.before payloads ≡ number)
      × LateFeed read part start (bytes_left remaining old) (bytes_left remaining new) payloads
      × (failures new.reader ≡ failures old.reader) × LeavesReaderFirst old (length payloads + 1) None new)
  -- or the two do not match, and nothing is read
  ReadsFeed part old new start (Err (tool.FeedMismatch mismatch)) = (mismatch_of part start.1 ≡ Some mismatch) × (new ≡ old)
  ReadsFeed part old new start (Err fault) = ⊥

-- the market after the reading has room for its End of Snapshot in its snapshot, or it has too many messages
abbrev pub HasRoom : ℕ → (Result (Start × List (List ℕ)) ToolFault → Type 0) → Result (Start × List (List ℕ)) ToolFault → Type 0
HasRoom before reads (Ok both) = reads (Ok both) × (length (snap (joined_market before both.0 both.1)) < 10 ^ 19)
HasRoom before reads (Err fault) =
    reads (Err fault)
    ⊎ ((fault ≡ tool.TooMany)
    × ((both : Start × List (List ℕ)) × reads (Ok both) × (10 ^ 19 ≤ length (snap (joined_market before both.0 both.1)))))
