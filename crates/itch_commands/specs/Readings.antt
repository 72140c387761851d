-- Reading the messages of a day file into a new market.
use Rattle.std.specs.Prelude.{◌≡◌, ◌≢◌, ℕ, ◌+◌, List, [], length, ◌⊎◌, Option, Some, None, IsSome, IfSome, Result, Ok, Err}
use Rattle.itch_frame.specs.Reading.{Reading, bytes_left}
use Rattle.itch_frame.specs.declared.reader.BlockStage.TheVariants.{Going}
use Rattle.itch_frame.specs.declared.tally.Failures.{Failures}
use Rattle.itch_market.specs.Content.{Content, empty}
use Rattle.itch_market.specs.DayMessages.{AreTaken, IsPart, IsShort, LeavesPart}
use Rattle.itch_market.specs.DayParts.{HaltsPart, TakesPart}
use Rattle.itch_market.specs.declared.stop.Stop.{Stop}
use Rattle.itch_market.specs.declared.stop.Stop.TheVariants.{End}
use Rattle.itch_market.specs.Replays.{Counts, LeavesReaderFirst, IsDecided}
use Rattle.itch_market.specs.Stops.{Stops}
use Rattle.itch_snapshot.specs.Files.{IsFaultOf, IsMarketOf}
use Rattle.itch_snapshot.specs.Reads.{ReadsSnapshot, CountsFault, IsDecidedFault}
use Rattle.itch_commands.specs.declared.fault.ToolFault.{ToolFault}
use Rattle.itch_commands.specs.declared.fault.ToolFault.TheVariants as tool
use Rattle.itch_commands.specs.declared.fault.Source.{Source}
use Rattle.itch_day.specs.declared.limit.Limit.{Limit}

-- the result of the end of the file after this many messages: none is missing if no number was requested
abbrev pub ended : Option ℕ → Source → ℕ → Result ℕ ToolFault
ended None file count = Ok count
ended (Some most) file count = Err (tool.Short file count)

-- the result of a stop after this many messages
abbrev pub stopped : Stop → Option ℕ → Source → ℕ → Result ℕ ToolFault
stopped End wanted file count = ended wanted file count
stopped stop wanted file count = Err (tool.Stopped file (record { count = count; stop = stop }))

-- the possible outcomes of reading the requested part of a file into a market
abbrev pub ReadsMarket : Source → Limit → Content → Option (List ℕ) → Option (List ℕ) → Result ℕ ToolFault → Content → Type 0
ReadsMarket file limit m old new (Ok count) n = TakesPart limit m old new count n
ReadsMarket file limit m old new (Err (tool.Stopped at end)) n = (at ≡ file) × (end.stop ≢ End) × HaltsPart limit m old new end.count end.stop n
ReadsMarket file limit m old new (Err (tool.Short at count)) n = (at ≡ file) × IsSome limit.after × HaltsPart limit m old new count End n
ReadsMarket file limit m old new (Err fault) n = ⊥

-- a failed read is counted with its error, and no other fault is
abbrev pub CountsRead : {X : Type 0} → Result X ToolFault → Failures → Failures → Type 0
CountsRead (Err (tool.Stopped at end)) old new = Counts end.stop old new
CountsRead result old new = new ≡ old

-- the reader of blocks afterwards: after the requested messages, or after the late one, or at the end of the file
abbrev pub LeavesDay : {R : Type 0} → Result ℕ ToolFault → Limit → Reading R → Reading R → Type 0
LeavesDay (Ok count) limit old new =
    (IsSome limit.after × LeavesReaderFirst old count None new)
    ⊎ (IsSome limit.until × LeavesReaderFirst old (count + 1) None new)
    ⊎ ((limit.after ≡ None) × LeavesReaderFirst old count (Some End) new)
LeavesDay (Err (tool.Stopped at end)) limit old new = LeavesReaderFirst old end.count (Some end.stop) new
LeavesDay (Err (tool.Short at count)) limit old new = LeavesReaderFirst old count (Some End) new
LeavesDay (Err fault) limit old new = ⊥

module _ {R : Type 0} (remaining : R → Option (List ℕ)) (failures : R → Failures) where
  -- The result of reading the requested part of a day file, from the empty market, and its reader afterwards. The contract of every command
  -- that reads a day file cites this table.
  abbrev pub ReadsDay : Source → Limit → Reading R → Reading R → Result (List (List ℕ)) ToolFault → Type 0
  ReadsDay file limit old new (Ok payloads) =
      AreTaken limit payloads × IfSome (bytes_left remaining old) (λ b. IsPart limit b payloads)
      × LeavesPart limit (bytes_left remaining old) (bytes_left remaining new) payloads
      × (failures new.reader ≡ failures old.reader) × LeavesDay (Ok (length payloads)) limit old new
  -- this many messages were taken, and then this stopped the reading; if it depends only on the file, it is the first bad place of the file
  ReadsDay file limit old new (Err (tool.Stopped at end)) =
      (at ≡ file) × (end.stop ≢ End) × ((n : Content) × HaltsPart limit empty (bytes_left remaining old) (bytes_left remaining new) end.count end.stop n)
      × IfSome (bytes_left remaining old) (λ b. IsDecided end.stop → Stops empty b end.count end.stop)
      × Counts end.stop (failures old.reader) (failures new.reader) × LeavesDay (Err (tool.Stopped at end)) limit old new
  -- fewer messages than requested were taken, and then the file ended
  ReadsDay file limit old new (Err (tool.Short at count)) =
      (at ≡ file) × IsShort limit count × ((n : Content) × HaltsPart limit empty (bytes_left remaining old) (bytes_left remaining new) count End n)
      × IfSome (bytes_left remaining old) (λ b. Stops empty b count End)
      × (failures new.reader ≡ failures old.reader) × LeavesDay (Err (tool.Short at count)) limit old new
  ReadsDay file limit old new (Err fault) = ⊥

module _ {R : Type 0} (remaining : R → Option (List ℕ)) (failures : R → Failures) where
  -- The result of reading a snapshot file, and its reader afterwards: the market and the number, or the reason why the file is refused.
  abbrev pub ReadsSnap : Source → Reading R → Reading R → Result (Content × ℕ) ToolFault → Type 0
  ReadsSnap file old new (Ok done) =
      IfSome (bytes_left remaining old) (λ b. IsMarketOf b done) × ReadsSnapshot (bytes_left remaining old) (bytes_left remaining new) (Ok done)
      × (failures new.reader ≡ failures old.reader)
  -- if it depends only on the file, it is the file's one fault
  ReadsSnap file old new (Err (tool.Snap at fault)) =
      (at ≡ file) × ReadsSnapshot (bytes_left remaining old) (bytes_left remaining new) (Err fault)
      × IfSome (bytes_left remaining old) (λ b. IsDecidedFault fault → IsFaultOf b fault) × CountsFault fault (failures old.reader) (failures new.reader)
  ReadsSnap file old new (Err fault) = ⊥

-- a reading, and its reader
abbrev pub From : Type 0 → Type 0 → Type 1
From R X = (Reading R → Reading R → Result X ToolFault → Type 0) → Result X ToolFault → Type 0

-- a reading from a borrowed reader of blocks, from this state to that
abbrev pub FromBlocks : {R X : Type 0} → Reading R → Reading R → (Reading R → Reading R → Result X ToolFault → Type 0) → Result X ToolFault → Type 0
FromBlocks old new reads result = reads old new result

-- a reading from an owned reader: a reader of blocks is made of it first, for which memory may run out
abbrev pub FromReader : {R X : Type 0} → R → (Reading R → Reading R → Result X ToolFault → Type 0) → Result X ToolFault → Type 0
FromReader reader reads result =
    (result ≡ Err tool.OutOfMemory)
    ⊎ ((old : Reading _) × (new : Reading _) × (old.reader ≡ reader) × (old.held ≡ []) × (old.stage ≡ Going) × reads old new result)

-- One reading, and then another that depends on it. If the first is refused, the input of the second is unchanged.
abbrev pub Then : {X Y : Type 0} → (Result X ToolFault → Type 0) → Type 0 → (X → Result Y ToolFault → Type 0) → Result (X × Y) ToolFault → Type 0
Then first untouched second (Ok both) = first (Ok both.0) × second both.0 (Ok both.1)
Then {X} first untouched second (Err fault) = (first (Err fault) × untouched) ⊎ ((x : X) × first (Ok x) × second x (Err fault))
