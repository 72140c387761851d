-- The output of `info` for a day file, and where it stops.
use Rattle.std.specs.Prelude.{◌≡◌, ◌≢◌, ℕ, zero, suc, ◌+◌, ◌==◌, ◌⊎◌, Bool, true, false, if◌then◌else◌, List, [], ◌∷◌, ◌++◌, map, codes, decimal, Option, None, Some, Result, Ok, Err}
use Rattle.itch_codec.specs.Clock.{clock}
use Rattle.itch_codec.specs.Json.{escaped}
use Rattle.itch_codec.specs.Messages.{message_of}
use Rattle.itch_codec.specs.Named.{character}
use Rattle.itch_day.specs.declared.limit.Limit.{Limit}
use Rattle.itch_frame.specs.Reading.{Reading}
use Rattle.itch_frame.specs.declared.tally.Failures.{Failures}
use Rattle.itch_commands.specs.FirstDifferences.{IsRefusedAfter}
use Rattle.itch_commands.specs.Outputs.{WritesText}
use Rattle.itch_commands.specs.Readings.{From, ReadsDay}
use Rattle.itch_commands.specs.Tallies.{count_of, events_from, summary_of}
use Rattle.itch_commands.specs.declared.fault.Source.TheVariants.{Only}
use Rattle.itch_commands.specs.declared.fault.ToolFault.{ToolFault}
use Rattle.itch_commands.specs.declared.fault.ToolFault.TheVariants as tool
use Rattle.itch_commands.specs.declared.form.ReportForm.{ReportForm}
use Rattle.itch_commands.specs.declared.form.ReportForm.TheVariants as form
use Rattle.itch_commands.specs.declared.info.events.Event.{Event}
use Rattle.itch_commands.specs.declared.info.summary.Summary.{Summary}

-- a time of the day, or none
abbrev pub time_text : ReportForm → Option ℕ → List ℕ
time_text form.Text None = codes "none"
time_text form.Text (Some time) = clock time
time_text form.Json None = codes "null"
time_text form.Json (Some time) = codes "{\"time\":\"" ++ clock time ++ codes "\",\"ns\":" ++ decimal time ++ codes "}"

abbrev pub truth_text : ReportForm → Bool → List ℕ
truth_text form.Text true = codes "yes"
truth_text form.Text false = codes "no"
truth_text form.Json true = codes "true"
truth_text form.Json false = codes "false"

-- the number of messages, and of bytes in their blocks
abbrev pub size_text : ReportForm → Summary → List ℕ
size_text form.Text s = codes "messages " ++ decimal s.count ++ codes "\nbytes " ++ decimal s.bytes ++ codes "\n"
size_text form.Json s = codes "{\"messages\":" ++ decimal s.count ++ codes ",\"bytes\":" ++ decimal s.bytes

-- the earliest and the latest time
abbrev pub times_text : ReportForm → Summary → List ℕ
times_text form.Text s = codes "first " ++ time_text form.Text s.first ++ codes "\nlast " ++ time_text form.Text s.last ++ codes "\n"
times_text form.Json s = codes ",\"first\":" ++ time_text form.Json s.first ++ codes ",\"last\":" ++ time_text form.Json s.last

-- the stocks, the live orders, and whether the day has ended
abbrev pub market_text : ReportForm → Summary → List ℕ
market_text form.Text s =
    codes "stocks " ++ decimal s.stocks ++ codes "\nlive " ++ decimal s.live ++ codes "\npeak " ++ decimal s.peak ++ codes "\nended " ++ truth_text form.Text s.is_ended ++ codes "\n"
market_text form.Json s =
    codes ",\"stocks\":" ++ decimal s.stocks ++ codes ",\"live\":" ++ decimal s.live ++ codes ",\"peak\":" ++ decimal s.peak ++ codes ",\"ended\":" ++ truth_text form.Json s.is_ended
    ++ codes ",\"types\":{"

abbrev pub head_text : ReportForm → Summary → List ℕ
head_text form s = size_text form s ++ (times_text form s ++ market_text form s)

-- the separator before a member, by whether it is the first one
abbrev pub comma : ReportForm → Bool → List ℕ
comma form.Text is_first = []
comma form.Json is_first = if is_first then [] else codes ","

-- a type, and its number of messages
abbrev pub type_text : ReportForm → Bool → ℕ → ℕ → List ℕ
type_text form.Text is_first kind count = codes "type '" ++ character kind ++ codes "' " ++ decimal count ++ codes "\n"
type_text form.Json is_first kind count = comma form.Json is_first ++ codes "\"" ++ escaped kind ++ codes "\":" ++ decimal count

-- the types from this one on, that many of them, that have messages, with their numbers
unfoldable pub types_text : ReportForm → (ℕ → ℕ) → Bool → ℕ → ℕ → List ℕ
types_text form counts is_first kind zero = []
types_text form counts is_first kind (suc left) =
    if counts kind == 0 then types_text form counts is_first (kind + 1) left else type_text form is_first kind (counts kind) ++ types_text form counts false (kind + 1) left

-- the text between the types and the events
abbrev pub middle_text : ReportForm → List ℕ
middle_text form.Text = []
middle_text form.Json = codes "},\"events\":["

-- a system event: the number of its message, its time and its code
abbrev pub event_text : ReportForm → Bool → Event → List ℕ
event_text form.Text is_first event = codes "event " ++ decimal event.number ++ codes " " ++ clock event.time ++ codes " '" ++ character event.code ++ codes "'\n"
event_text form.Json is_first event =
    comma form.Json is_first ++ codes "{\"number\":" ++ decimal event.number ++ codes ",\"time\":\"" ++ clock event.time ++ codes "\",\"ns\":" ++ decimal event.time ++ codes ",\"event_code\":\""
    ++ escaped event.code ++ codes "\"}"

abbrev pub events_text : ReportForm → Bool → List Event → List ℕ
events_text form is_first [] = []
events_text form is_first (event ∷ rest) = event_text form is_first event ++ events_text form false rest

abbrev pub tail_text : ReportForm → List ℕ
tail_text form.Text = []
tail_text form.Json = codes "]}\n"

-- the complete text: the summary, the types with these numbers of messages, and the events
abbrev pub info_text : ReportForm → Summary → (ℕ → ℕ) → List Event → List ℕ
info_text form s counts events = head_text form s ++ (types_text form counts true 0 256 ++ (middle_text form ++ (events_text form true events ++ tail_text form)))

-- the same for these messages
abbrev pub info_of : ReportForm → List (List ℕ) → List ℕ
info_of form payloads =
    info_text form (summary_of payloads) (λ kind. count_of kind (map message_of payloads)) (events_from 1 (map message_of payloads))

-- the result of a command that has reported on the file, and on the fault that ended the reading, if there was one
abbrev pub told : Result (Unit {0}) ToolFault → Option ToolFault → Result Bool ToolFault
told (Err fault) why = Err fault
told (Ok done) None = Ok true
told (Ok done) (Some why) = Err why

-- the fault of a reading, if it has one
abbrev pub fault_of : Result (Unit {0}) ToolFault → Option ToolFault
fault_of (Ok done) = None
fault_of (Err fault) = Some fault

module _ {R : Type 0} (remaining : R → Option (List ℕ)) (failures : R → Failures) where
  -- these messages were read: all requested ones, or those before this fault
  abbrev pub ReadsBefore : Limit → Reading R → Reading R → List (List ℕ) → Option ToolFault → Type 0
  ReadsBefore limit old new payloads None = ReadsDay remaining failures Only limit old new (Ok payloads)
  ReadsBefore limit old new payloads (Some fault) = IsRefusedAfter remaining failures Only limit old new fault payloads

  -- The same, with a list of their system events, for which memory may run out if there is one.
  abbrev pub ReadsEvents : Limit → Reading R → Reading R → Result (List (List ℕ) × Option ToolFault) ToolFault → Type 0
  ReadsEvents limit old new (Ok read) = ReadsBefore limit old new read.0 read.1
  ReadsEvents limit old new (Err tool.OutOfMemory) =
      (payloads : List (List ℕ)) × (why : Option ToolFault) × ReadsBefore limit old new payloads why × (events_from 1 (map message_of payloads) ≢ [])
  ReadsEvents limit old new (Err fault) = ⊥

module _ {R W : Type 0} (remaining : R → Option (List ℕ)) (failed_reads : R → Failures) (contents : W → Option (List ℕ)) (failed_writes : W → Failures) where
  -- `info`: the report on the messages of a day file, or of its part, or on those before the fault that ends them. Without memory for the
  -- list of events, nothing is written.
  abbrev pub Informs : ReportForm → Limit → From R (List (List ℕ) × Option ToolFault) → W → Result Bool ToolFault → W → Type 0
  Informs form limit from out result out' =
      ((fault : ToolFault) × (result ≡ Err fault) × from (ReadsEvents remaining failed_reads limit) (Err fault) × (out' ≡ out))
      ⊎ ((payloads : List (List ℕ)) × (why : Option ToolFault) × (wrote : Result (Unit {0}) ToolFault) × from (ReadsEvents remaining failed_reads limit) (Ok (payloads, why))
      × WritesText contents failed_writes (info_of form payloads) out wrote out' × (result ≡ told wrote why))
