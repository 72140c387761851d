-- A day file that is read from row to row.
use Rattle.std.specs.Prelude.{◌≡◌, ℕ, ◌+◌, ◌-◌, ◌^◌, min, nat_lt, Bool, false, List, [], ◌∷◌, ◌++◌, Option, Some, is_some, OnOk, Result, if◌then◌else◌}
use Rattle.std.specs.List.{AllByRecursion}
use Rattle.std.specs.Io.KnownBytes.{Consumes}
use Rattle.itch_codec.specs.Messages.{message_of}
use Rattle.itch_frame.specs.Blocks.{IsFull, block, blocks}
use Rattle.itch_frame.specs.Reading.{Reading, bytes_left}
use Rattle.itch_frame.specs.declared.tally.Failures.{Failures}
use Rattle.itch_day.specs.Limits.{most_of}
use Rattle.itch_day.specs.DayCursors.{RefusesTracked, TakesTracked, cursor_after}
use Rattle.itch_day.specs.Parts.{ReadsPart}
use Rattle.itch_day.specs.declared.limit.Limit.{Limit}
use Rattle.itch_day.specs.declared.cursor.DayCursor.{DayCursor}
use Rattle.itch_day.specs.declared.tracked.Tracked.{Tracked}
use Rattle.itch_day.specs.declared.stop.PartStop.{PartStop as Part}
use Rattle.itch_day.specs.declared.stop.PartStop.TheVariants as part
use Rattle.itch_commands.specs.Showing.{IsClean, IsFaultOf, answer_of}
use Rattle.itch_commands.specs.Lookup.{listed}
use Rattle.itch_commands.specs.declared.fault.Source.TheVariants.{Only}
use Rattle.itch_commands.specs.declared.fault.ToolFault.{ToolFault}
use Rattle.itch_commands.specs.declared.fault.ToolFault.TheVariants as tool

-- a payload is that of a Stock Directory message
abbrev pub is_entry : List ℕ → Bool
is_entry payload = is_some (listed (message_of payload))

-- the payloads of the Stock Directory messages among these
unfoldable pub entries : List (List ℕ) → List (List ℕ)
entries [] = []
entries (payload ∷ payloads) = if is_entry payload then payload ∷ entries payloads else entries payloads

-- the block of a payload, if it is that of a Stock Directory message
abbrev pub kept_block : List ℕ → List ℕ
kept_block payload = if is_entry payload then block payload else []

-- a message passes: the block of a Stock Directory message is kept
abbrev pub TakesEntry : List ℕ → ℕ → List ℕ → List ℕ → Type 0
TakesEntry old number payload new = IsClean payload × (new ≡ old ++ kept_block payload)

-- a payload does not pass: it is not valid, or memory runs out
abbrev pub RefusesEntry : List ℕ → ℕ → List ℕ → ToolFault → List ℕ → Type 0
RefusesEntry old number payload (tool.Stopped file end) new = (file ≡ Only) × (end.count ≡ number - 1) × IsFaultOf payload end.stop × (new ≡ old)
RefusesEntry old number payload why new = IsClean payload × (why ≡ tool.OutOfMemory)

-- the messages of a part up to the next row after that many messages
abbrev pub row_part : Limit → ℕ → Limit
row_part limit count = record { after = Some (min (min (count + 65536) (2 ^ 64 - 1)) (most_of limit.after)); until = limit.until }

-- the cursor before some messages, with no blocks
abbrev pub cleared : DayCursor → Tracked (List ℕ)
cleared cursor = record { sink = []; cursor = cursor }

-- a part goes on after that many messages, by the reason why the reading stopped at a row or before
abbrev pub goes_on : Limit → ℕ → Part ToolFault → Bool
goes_on limit count part.Full = nat_lt count (most_of limit.after)
goes_on limit count stop = false

-- whether a part goes on; or the fault for which it does not, which is that of `show`
abbrev pub row_answer : Limit → ℕ → Part ToolFault → Result Bool ToolFault
row_answer limit count stop = answer_of limit.after count (goes_on limit count stop) stop

module _ {R : Type 0} (remaining : R → Option (List ℕ)) (failures : R → Failures) (limit : Limit) where
  -- The messages up to the next row came off the front: each is a valid message. The cursor is after them, and the blocks of the Stock
  -- Directory messages among them are kept, unless memory ran out.
  pub record ReadsRow (old new : Reading R) (before : DayCursor) (after : Tracked (List ℕ)) (result : Result Bool ToolFault) : Type 0 where
    pub stop : Part ToolFault
    pub reads : ReadsPart remaining failures (TakesTracked TakesEntry) (RefusesTracked RefusesEntry) (row_part limit before.count) old new before.count after.cursor.count
        (cleared before) stop after
    pub answer : result ≡ row_answer limit after.cursor.count stop
    pub payloads : List (List ℕ)
    pub bytes : Consumes (bytes_left remaining old) (bytes_left remaining new) (blocks payloads)
    pub full : AllByRecursion IsFull payloads
    pub clean : AllByRecursion IsClean payloads
    pub tracked : after.cursor ≡ cursor_after before payloads
    pub kept : OnOk result (after.sink ≡ blocks (entries payloads))
