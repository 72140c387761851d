-- The output of `show` for a file, and where it stops: at the first block that is not a valid message. No order rule is applied.
use Rattle.std.specs.Prelude.{◌≡◌, ◌≢◌, ℕ, ◌+◌, ◌-◌, ◌<◌, ◌≤◌, ◌^◌, ◌==◌, Bool, true, false, List, [], ◌∷◌, ◌++◌, length, map, take, ⊤, Option, None, Some, Result, Ok, Err}
use Rattle.std.specs.List.{AllByRecursion}
use Rattle.std.specs.Io.KnownBytes.{Consumes, Appends}
use Rattle.std.specs.declared.io.Error.{Error}
use Rattle.itch_codec.specs.Messages.{fault, message_of}
use Rattle.itch_codec.specs.declared.message.Message.TheVariants as is
use Rattle.itch_frame.specs.Blocks.{blocks, IsFull}
use Rattle.itch_frame.specs.Counting.{failed}
use Rattle.itch_frame.specs.Reading.{Reading, bytes_left}
use Rattle.itch_frame.specs.declared.tally.Failures.{Failures}
use Rattle.itch_market.specs.Content.{Content, empty}
use Rattle.itch_market.specs.Replays.{Halts, Counts, LeavesReaderFirst}
use Rattle.itch_market.specs.declared.stop.Stop.{Stop}
use Rattle.itch_market.specs.declared.stop.Stop.TheVariants as stop
use Rattle.itch_snapshot.specs.Snapshot.{snap}
use Rattle.itch_commands.specs.Choices.{Chosen, chosen_after, chosen_past, chosen_line, chosen_lines, are_found_in}
use Rattle.itch_day.specs.Limits.{IsEarly, IsBefore}
use Rattle.itch_commands.specs.Outputs.{Wrote, WritesText}
use Rattle.itch_market.specs.DayParts.{IsEnough}
use Rattle.itch_commands.specs.Readings.{LeavesDay}
use Rattle.itch_market.specs.DayMessages.{IsShort}
use Rattle.itch_commands.specs.declared.fault.Source.TheVariants.{Only}
use Rattle.itch_commands.specs.declared.fault.ToolFault.{ToolFault}
use Rattle.itch_commands.specs.declared.fault.ToolFault.TheVariants as tool
use Rattle.itch_commands.specs.declared.form.ShowForm.{ShowForm}
use Rattle.itch_day.specs.declared.limit.Limit.{Limit}
use Rattle.itch_day.specs.declared.stop.PartStop.{PartStop as Part}
use Rattle.itch_day.specs.declared.stop.PartStop.TheVariants as part

-- the lines of the chosen ones of the messages in these payloads
abbrev pub lines_from : ShowForm → Chosen → List (List ℕ) → List ℕ
lines_from form chosen payloads = chosen_lines form chosen 1 (map message_of payloads)

-- the line of the message in the payload after these, if it is chosen
abbrev pub line_after : ShowForm → Chosen → List (List ℕ) → List ℕ → List ℕ
line_after form chosen payloads payload = chosen_line form (chosen_past chosen (map message_of payloads)) (length payloads + 1) (message_of payload)

-- the chosen lines of the snapshot of a market, and of its End of Snapshot with this number
abbrev pub closed_lines : ShowForm → Chosen → Content × ℕ → List ℕ
closed_lines form chosen done = chosen_lines form chosen 1 (snap done.0 ++ is.End done.1 ∷ [])

-- whether all stocks were found in these
abbrev pub closed_found : Chosen → Content × ℕ → Bool
closed_found chosen done = are_found_in chosen (snap done.0 ++ is.End done.1 ∷ [])

-- the payload is a valid message
abbrev pub IsClean : List ℕ → Type 0
IsClean payload = fault payload ≡ None

-- these payloads came off the front: none is empty, and each is a valid message that is not late
pub record ReadsOff (limit : Limit) (old new : Option (List ℕ)) (payloads : List (List ℕ)) : Type 0 where
  pub bytes : Consumes old new (blocks payloads)
  pub full : AllByRecursion IsFull payloads
  pub clean : AllByRecursion IsClean payloads
  pub few : length payloads ≤ 10 ^ 19 - 1
  pub early : AllByRecursion (IsEarly limit) payloads

-- a stop that is not because of an order rule
abbrev pub IsNoRule : Stop → Type 0
IsNoRule stop.End = ⊤
IsNoRule (stop.Frame fault) = ⊤
IsNoRule (stop.Codec fault) = ⊤
IsNoRule (stop.Rule why) = ⊥
IsNoRule stop.TooManyMessages = ⊤

-- the reason why the message after `count` others is not shown: as in a replay that applies no rule
abbrev pub Withholds : ℕ → Option (List ℕ) → Option (List ℕ) → Stop → Type 0
Withholds count old new why = IsNoRule why × Halts (count == 10 ^ 19 - 1) empty old new why

-- the stop for a payload that is not a valid message
abbrev pub IsFaultOf : List ℕ → Stop → Type 0
IsFaultOf payload (stop.Codec found) = fault payload ≡ Some found
IsFaultOf payload why = ⊥

-- the result at the end of the file, which is not a fault if no number was requested: whether all stocks were found
abbrev pub ended_show : Option ℕ → ℕ → Bool → Result Bool ToolFault
ended_show None count found = Ok found
ended_show (Some most) count found = Err (tool.Short Only count)

-- the result if the part ends after that many messages
abbrev pub answer_of : Option ℕ → ℕ → Bool → Part ToolFault → Result Bool ToolFault
answer_of wanted count found part.Full = Ok found
answer_of wanted count found part.Late = Ok found
answer_of wanted count found part.End = ended_show wanted count found
answer_of wanted count found (part.Frame fault) = Err (tool.Stopped Only (record { count = count; stop = stop.Frame fault }))
answer_of wanted count found part.TooMany = Err (tool.Stopped Only (record { count = count; stop = stop.TooManyMessages }))
answer_of wanted count found (part.Refused fault) = Err fault

-- The result once it is known whether all stocks were found: one that was not is a fault.
abbrev pub IfFound : (Result Bool ToolFault → Type 0) → Result Bool ToolFault → Type 0
IfFound shows (Ok answer) = (answer ≡ true) × shows (Ok true)
IfFound shows (Err tool.UnknownStock) = shows (Ok false)
IfFound shows (Err fault) = shows (Err fault)

module _ {W : Type 0} (contents : W → Option (List ℕ)) (failures : W → Failures) where
  -- a write failed after the first bytes and a prefix of the last ones
  abbrev pub WritesPart : List ℕ → List ℕ → Error → W → W → Type 0
  WritesPart first last error old new =
      (sent : ℕ) × (sent < length last) × Appends (contents old) (contents new) (first ++ take sent last) × (failures new ≡ failed error (failures old))

  -- the message with this number is shown: it is that of the payload, and its line is written, if it is chosen
  abbrev pub ShowsMessage : ShowForm → ℕ → List ℕ → Chosen → W → Chosen → W → Type 0
  ShowsMessage form number payload chosen out chosen' out' =
      IsClean payload × WritesText contents failures (chosen_line form chosen number (message_of payload)) out (Ok tt) out'
      × (chosen' ≡ chosen_after chosen (message_of payload))

  -- it is not shown: the payload is not valid, or its line could not be written
  abbrev pub WithholdsMessage : ShowForm → ℕ → List ℕ → Chosen → W → ToolFault → W → Type 0
  WithholdsMessage form number payload chosen out (tool.Stopped file end) out' =
      (file ≡ Only) × (end.count ≡ number - 1) × IsFaultOf payload end.stop × (out' ≡ out)
  WithholdsMessage form number payload chosen out fault out' =
      IsClean payload × WritesText contents failures (chosen_line form chosen number (message_of payload)) out (Err fault) out'

  module _ {R : Type 0} (remaining : R → Option (List ℕ)) (failed_reads : R → Failures) (limit : Limit) (form : ShowForm) (chosen : Chosen) where
    -- the lines of the requested and chosen messages are written, and this tells whether all stocks were found in these messages
    abbrev pub ShowsAll : Bool → Reading R → Reading R → W → W → Type 0
    ShowsAll found old new out out' =
        (payloads : List (List ℕ)) × (mid : Option (List ℕ)) × ReadsOff limit (bytes_left remaining old) mid payloads
        × IsEnough limit (length payloads) mid (bytes_left remaining new) × Wrote contents failures (lines_from form chosen payloads) out out'
        × (failed_reads new.reader ≡ failed_reads old.reader) × LeavesDay (Ok (length payloads)) limit old new
        × (found ≡ are_found_in chosen (map message_of payloads))

    -- the lines of the chosen ones of the first messages are written, and then this stop comes, before the requested end
    abbrev pub ShowsUntil : ℕ → Stop → Reading R → Reading R → W → W → Type 0
    ShowsUntil count why old new out out' =
        IsBefore limit count × (payloads : List (List ℕ)) × (mid : Option (List ℕ)) × ReadsOff limit (bytes_left remaining old) mid payloads × (length payloads ≡ count)
        × Withholds count mid (bytes_left remaining new) why × Wrote contents failures (lines_from form chosen payloads) out out'
        × Counts why (failed_reads old.reader) (failed_reads new.reader) × LeavesReaderFirst old count (Some why) new

    -- a write failed within the line of the last message read, which is requested and chosen
    abbrev pub ShowsFirst : Error → Reading R → Reading R → W → W → Type 0
    ShowsFirst error old new out out' =
        (payloads : List (List ℕ)) × (payload : List ℕ) × ReadsOff limit (bytes_left remaining old) (bytes_left remaining new) (payloads ++ payload ∷ [])
        × IsBefore limit (length payloads) × WritesPart (lines_from form chosen payloads) (line_after form chosen payloads payload) error out out'
        × (failed_reads new.reader ≡ failed_reads old.reader) × LeavesReaderFirst old (length payloads + 1) None new

    -- The lines of all requested and chosen messages are written; or those before the refused block, or before the end of a file with
    -- fewer; or a write failed.
    abbrev pub ShowsPart : Reading R → Reading R → W → Result Bool ToolFault → W → Type 0
    ShowsPart old new out (Ok found) out' = ShowsAll found old new out out'
    ShowsPart old new out (Err (tool.Stopped file end)) out' = (file ≡ Only) × (end.stop ≢ stop.End) × ShowsUntil end.count end.stop old new out out'
    ShowsPart old new out (Err (tool.Short file count)) out' = (file ≡ Only) × IsShort limit count × ShowsUntil count stop.End old new out out'
    ShowsPart old new out (Err (tool.Write error)) out' = ShowsFirst error old new out out'
    ShowsPart old new out (Err fault) out' = ⊥

    -- the same, and each of the stocks searched for was found
    abbrev pub Shows : Reading R → Reading R → W → Result Bool ToolFault → W → Type 0
    Shows old new out result out' = IfFound (λ found. ShowsPart old new out found out') result
