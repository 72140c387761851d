-- The input, the output and the result of `show --orders`. A file is refused where `check` refuses it, after the lines before.
use Rattle.std.specs.Prelude.{◌≡◌, ◌⊎◌, ℕ, ◌+◌, Bool, List, [], ◌∷◌, ◌++◌, length, map, Option, None, IsSome, Result, Ok, Err}
use Rattle.std.specs.Io.KnownBytes.{Consumes}
use Rattle.std.specs.declared.io.Error.{Error}
use Rattle.itch_codec.specs.Messages.{message_of}
use Rattle.itch_day.specs.declared.limit.Limit.{Limit}
use Rattle.itch_day.specs.declared.stop.PartStop.{PartStop as Part}
use Rattle.itch_day.specs.declared.stop.PartStop.TheVariants as part
use Rattle.itch_frame.specs.Blocks.{blocks}
use Rattle.itch_frame.specs.Reading.{Reading, bytes_left}
use Rattle.itch_frame.specs.declared.tally.Failures.{Failures}
use Rattle.itch_market.specs.Content.{Content}
use Rattle.itch_market.specs.DayMessages.{AreTaken}
use Rattle.itch_market.specs.Replays.{LeavesReaderFirst}
use Rattle.itch_market.specs.Takings.{TakesMessage, RefusesMessage}
use Rattle.itch_market.specs.Wanted.{Wanted}
use Rattle.itch_market.specs.declared.refused.Refused.TheVariants as refused
use Rattle.itch_market.specs.declared.stop.Stop.TheVariants as stop
use Rattle.itch_commands.specs.Choices.{Chosen, chosen_after, chosen_by, are_found_in}
use Rattle.itch_commands.specs.FirstDifferences.{IsRefusedAfter}
use Rattle.itch_commands.specs.OrderForms.{order_head}
use Rattle.itch_commands.specs.OrdersBehind.{line_in, line_past, lines_of_day}
use Rattle.itch_commands.specs.Outputs.{Wrote, WritesText}
use Rattle.itch_commands.specs.Readings.{ReadsDay}
use Rattle.itch_commands.specs.Showing.{IfFound, WritesPart, ended_show}
use Rattle.itch_commands.specs.declared.fault.Source.TheVariants.{Only}
use Rattle.itch_commands.specs.declared.fault.ToolFault.{ToolFault}
use Rattle.itch_commands.specs.declared.fault.ToolFault.TheVariants as tool
use Rattle.itch_commands.specs.declared.filters.Filters.{Filters}
use Rattle.itch_commands.specs.declared.form.OrderForm.{OrderForm}
use Rattle.itch_commands.specs.declared.show.orders.sink.Unlisted.{Unlisted}
use Rattle.itch_commands.specs.declared.show.orders.sink.Unlisted.TheVariants as unlisted

-- the result if a part ends after that many messages; the end of the file is not a fault if no number was requested
abbrev pub answer_of : Option ℕ → ℕ → Bool → Part Unlisted → Result Bool ToolFault
answer_of wanted count found part.Full = Ok found
answer_of wanted count found part.Late = Ok found
answer_of wanted count found part.End = ended_show wanted count found
answer_of wanted count found (part.Frame fault) = Err (tool.Stopped Only (record { count = count; stop = stop.Frame fault }))
answer_of wanted count found part.TooMany = Err (tool.Stopped Only (record { count = count; stop = stop.TooManyMessages }))
answer_of wanted count found (part.Refused (unlisted.Refused (refused.Codec fault))) = Err (tool.Stopped Only (record { count = count; stop = stop.Codec fault }))
answer_of wanted count found (part.Refused (unlisted.Refused (refused.Rule why))) = Err (tool.Stopped Only (record { count = count; stop = stop.Rule why }))
answer_of wanted count found (part.Refused (unlisted.Write error)) = Err (tool.Write error)

module _ {W : Type 0} (contents : W → Option (List ℕ)) (failures : W → Failures) where
  -- a line is written, or a write failed after a prefix of it
  abbrev pub WritesLine : List ℕ → W → Result (Unit {0}) Unlisted → W → Type 0
  WritesLine bytes old (Ok done) new = WritesText contents failures bytes old (Ok tt) new
  WritesLine bytes old (Err (unlisted.Write error)) new = WritesText contents failures bytes old (Err (tool.Write error)) new
  WritesLine bytes old (Err (unlisted.Refused why)) new = ⊥

  -- the market takes the message with this number, and its line is written
  abbrev pub ListsMessage : OrderForm → ℕ → List ℕ → Content → Chosen → W → Content → Chosen → W → Type 0
  ListsMessage form number payload m chosen out m' chosen' out' =
      TakesMessage m number payload m' × WritesText contents failures (line_in form chosen m number (message_of payload)) out (Ok tt) out'
      × (chosen' ≡ chosen_after chosen (message_of payload))

  -- the market refuses it; or its line could not be written
  abbrev pub LeavesMessage : OrderForm → ℕ → List ℕ → Content → Chosen → W → Unlisted → Content → W → Type 0
  LeavesMessage form number payload m chosen out (unlisted.Refused why) m' out' = RefusesMessage m number payload why m' × (out' ≡ out)
  LeavesMessage form number payload m chosen out (unlisted.Write error) m' out' =
      TakesMessage m number payload m' × WritesText contents failures (line_in form chosen m number (message_of payload)) out (Err (tool.Write error)) out'

  module _ {R : Type 0} (remaining : R → Option (List ℕ)) (failed_reads : R → Failures) (limit : Limit) (form : OrderForm) (chosen : Chosen) where
    -- a write failed within the line of the last message read, which follows the order rules as those before it do
    abbrev pub ListsFirst : Error → Reading R → Reading R → W → W → Type 0
    ListsFirst error old new out out' =
        (payloads : List (List ℕ)) × (payload : List ℕ) × AreTaken limit (payloads ++ payload ∷ [])
        × Consumes (bytes_left remaining old) (bytes_left remaining new) (blocks (payloads ++ payload ∷ []))
        × WritesPart contents failures (lines_of_day form chosen payloads) (line_past form chosen payloads payload) error out out'
        × (failed_reads new.reader ≡ failed_reads old.reader) × LeavesReaderFirst old (length payloads + 1) None new

    -- The lines of all requested and chosen messages are written; or a write failed; or the day is refused, as every command refuses it,
    -- after the lines of the messages before.
    abbrev pub ListsPart : Reading R → Reading R → W → Result Bool ToolFault → W → Type 0
    ListsPart old new out (Ok found) out' =
        (payloads : List (List ℕ)) × ReadsDay remaining failed_reads Only limit old new (Ok payloads)
        × Wrote contents failures (lines_of_day form chosen payloads) out out' × (found ≡ are_found_in chosen (map message_of payloads))
    ListsPart old new out (Err (tool.Write error)) out' = ListsFirst error old new out out'
    ListsPart old new out (Err fault) out' =
        (payloads : List (List ℕ)) × IsRefusedAfter remaining failed_reads Only limit old new fault payloads
        × Wrote contents failures (lines_of_day form chosen payloads) out out'

    -- The head is written first. If that fails, nothing is read.
    abbrev pub ListsBelow : Reading R → Reading R → W → Result Bool ToolFault → W → Type 0
    ListsBelow old new out result out' =
        ((fault : ToolFault) × (result ≡ Err fault) × WritesText contents failures (order_head form) out (Err fault) out' × (new ≡ old))
        ⊎ ((mid : W) × WritesText contents failures (order_head form) out (Ok tt) mid × ListsPart old new mid result out')

    -- the same, and each of the stocks searched for was found
    abbrev pub Lists : Reading R → Reading R → W → Result Bool ToolFault → W → Type 0
    Lists old new out result out' = IfFound (λ found. ListsBelow old new out found out') result

  -- the same for the messages that the filters choose, unless memory for the names of stocks runs out, before anything is read
  abbrev pub ListsFile : {R : Type 0} → (R → Option (List ℕ)) → (R → Failures) → Limit → OrderForm → Option Wanted → Filters → Reading R → Reading R → W → Result Bool ToolFault → W → Type 0
  ListsFile remaining failed_reads limit form set filters old new out result out' =
      (IsSome filters.stocks × (result ≡ Err tool.OutOfMemory) × (new ≡ old) × (out' ≡ out))
      ⊎ Lists remaining failed_reads limit form (chosen_by set filters) old new out result out'
