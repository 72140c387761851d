-- The output of `show` and `cut` for the messages of a day file after the first ones, which are not read.
use Rattle.std.specs.Prelude.{◌≡◌, ◌⊎◌, ℕ, ◌+◌, ◌-◌, ◌^◌, ◌<◌, ◌≤◌, min, Bool, List, length, map, Option, IsSome, Result, Ok, Err}
use Rattle.std.specs.List.{AllByRecursion}
use Rattle.std.specs.Io.KnownBytes.{Consumes}
use Rattle.itch_codec.specs.Messages.{message_of}
use Rattle.itch_day.specs.Limits.{IsEarly, IsWithin}
use Rattle.itch_day.specs.Parts.{Counts, Leaves, StopsAt}
use Rattle.itch_day.specs.Passing.{left_by}
use Rattle.itch_day.specs.declared.limit.Limit.{Limit}
use Rattle.itch_day.specs.declared.cursor.DayCursor.{DayCursor}
use Rattle.itch_day.specs.declared.stop.PartStop.{PartStop as Part}
use Rattle.itch_frame.specs.Blocks.{blocks, IsFull, IsPayload}
use Rattle.itch_frame.specs.Reading.{Reading, bytes_left}
use Rattle.itch_frame.specs.declared.tally.Failures.{Failures}
use Rattle.itch_market.specs.Wanted.{Wanted}
use Rattle.itch_commands.specs.Choices.{Chosen, chosen_by, chosen_lines, chosen_listing_all, chosen_past, chosen_past_cursor}
use Rattle.itch_commands.specs.Cuts.{HoldsBack, kept_of}
use Rattle.itch_commands.specs.Outputs.{WritesText, Wrote}
use Rattle.itch_commands.specs.Rows.{heading}
use Rattle.itch_commands.specs.Showing.{IfFound, IsClean, WithholdsMessage, answer_of}
use Rattle.itch_commands.specs.Lookup.{are_found}
use Rattle.itch_commands.specs.declared.fault.ToolFault.{ToolFault}
use Rattle.itch_commands.specs.declared.fault.ToolFault.TheVariants as tool
use Rattle.itch_commands.specs.declared.filters.Filters.{Filters}
use Rattle.itch_commands.specs.declared.form.ShowForm.{ShowForm}
use Rattle.itch_commands.specs.declared.form.ShowForm.TheVariants as form

-- these bytes are the blocks of these payloads, each of which is a valid message
pub record AreListed (payloads : List (List ℕ)) (bytes : List ℕ) : Type 0 where
  pub whole : bytes ≡ blocks payloads
  pub each : AllByRecursion IsPayload payloads
  pub clean : AllByRecursion IsClean payloads

-- these payloads came off the front after this number of others: none is empty, and each is a valid message that is not late
pub record ReadsOnOff (limit : Limit) (before : ℕ) (old new : Option (List ℕ)) (payloads : List (List ℕ)) : Type 0 where
  pub bytes : Consumes old new (blocks payloads)
  pub full : AllByRecursion IsFull payloads
  pub clean : AllByRecursion IsClean payloads
  pub few : before + length payloads ≤ 10 ^ 19 - 1
  pub early : AllByRecursion (IsEarly limit) payloads

module _ {R W : Type 0} (remaining : R → Option (List ℕ)) (failed_reads : R → Failures) (limit : Limit) (chosen : Chosen) (before : ℕ) where
  -- After this number of messages the next ones came off the front, and then this stops the reading: the writer has their output, and
  -- the message that stops the reading is passed.
  pub record GoesOff (refuses : Chosen → W → ℕ → List ℕ → ToolFault → W → Type 0) (writes : List (List ℕ) → W → W → Type 0)
      (old new : Reading R) (out : W) (result : Result Bool ToolFault) (out' : W) : Type 0 where
    pub payloads : List (List ℕ)
    pub count : ℕ
    pub mid : Reading R
    pub last : W
    pub stop : Part ToolFault
    pub off : ReadsOnOff limit before (bytes_left remaining old) (bytes_left remaining mid) payloads
    pub counted : count ≡ before + length payloads
    pub wanted : 0 < length payloads → IsWithin limit count
    pub wrote : writes payloads out last
    pub stops : StopsAt remaining (refuses (chosen_past chosen (map message_of payloads))) limit count mid last stop out'
    pub leaves : Leaves old (length payloads) stop mid
    pub counts : Counts stop (failed_reads old.reader) (failed_reads mid.reader)
    pub left : new ≡ left_by stop mid
    pub answer : result ≡ answer_of limit.after count (are_found (Chosen.stocks (chosen_past chosen (map message_of payloads)))) stop

  module _ (contents : W → Option (List ℕ)) (failures : W → Failures) where
    -- the lines of the chosen ones of the messages are written
    pub record ShowsOn (form : ShowForm) (old new : Reading R) (out : W) (result : Result Bool ToolFault) (out' : W) : Type 0 where
      pub goes : GoesOff (λ chosen old number payload why new. WithholdsMessage contents failures form number payload chosen old why new)
          (λ payloads old new. Wrote contents failures (chosen_lines form chosen (before + 1) (map message_of payloads)) old new) old new out result out'

    -- the blocks of the kept ones of the messages are written
    pub record CutsOn (old new : Reading R) (out : W) (result : Result Bool ToolFault) (out' : W) : Type 0 where
      pub goes : GoesOff (λ chosen old number payload why new. HoldsBack contents failures chosen old number payload why new)
          (λ payloads old new. Wrote contents failures (blocks (kept_of chosen payloads)) old new) old new out result out'

    -- the same, and each of the stocks searched for was found
    abbrev pub ShowsFound : ShowForm → Reading R → Reading R → W → Result Bool ToolFault → W → Type 0
    ShowsFound form old new out result out' = IfFound (λ found. ShowsOn form old new out found out') result

    abbrev pub CutsFound : Reading R → Reading R → W → Result Bool ToolFault → W → Type 0
    CutsFound old new out result out' = IfFound (λ found. CutsOn old new out found out') result

    -- the same lines below a heading, in the form that has one; if the heading cannot be written, nothing is read
    abbrev pub ShowsBelow : ShowForm → Reading R → Reading R → W → Result Bool ToolFault → W → Type 0
    ShowsBelow (form.Csv letter) old new out result out' =
        ((fault : ToolFault) × (result ≡ Err fault) × WritesText contents failures (heading letter) out (Err fault) out' × (new ≡ old))
        ⊎ ((mid : W) × WritesText contents failures (heading letter) out (Ok tt) mid × ShowsFound (form.Csv letter) old new mid result out')
    ShowsBelow form old new out result out' = ShowsFound form old new out result out'

-- the messages that the filters choose after a cursor, once stocks are looked up in the messages of these payloads
abbrev pub chosen_from : Option Wanted → Filters → DayCursor → List (List ℕ) → Chosen
chosen_from set filters cursor payloads = chosen_listing_all (chosen_past_cursor (chosen_by set filters) cursor) (map message_of payloads)

-- the number of messages before a cursor, which is at most that of the messages of a day
abbrev pub count_of : DayCursor → ℕ
count_of cursor = min cursor.count (10 ^ 19 - 1)

module _ {R W : Type 0} (remaining : R → Option (List ℕ)) (failed_reads : R → Failures) (limit : Limit) (contents : W → Option (List ℕ)) (failures : W → Failures)
    (set : Option Wanted) (filters : Filters) (cursor : DayCursor) (payloads : List (List ℕ)) where
  -- memory for the names of stocks runs out, before anything is read
  abbrev pub RunsOut : Reading R → Reading R → W → Result Bool ToolFault → W → Type 0
  RunsOut old new out result out' = IsSome filters.stocks × (result ≡ Err tool.OutOfMemory) × (new ≡ old) × (out' ≡ out)

  -- the output of the messages after a cursor, whose Stock Directory messages have these payloads
  abbrev pub ShowsAfter : ShowForm → Reading R → Reading R → W → Result Bool ToolFault → W → Type 0
  ShowsAfter form old new out result out' =
      RunsOut old new out result out'
      ⊎ ShowsBelow remaining failed_reads limit (chosen_from set filters cursor payloads) (count_of cursor) contents failures form old new out result out'

  abbrev pub CutsAfter : Reading R → Reading R → W → Result Bool ToolFault → W → Type 0
  CutsAfter old new out result out' =
      RunsOut old new out result out'
      ⊎ CutsFound remaining failed_reads limit (chosen_from set filters cursor payloads) (count_of cursor) contents failures old new out result out'
