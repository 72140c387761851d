-- The least number of messages after which the markets of two day files differ.
use Rattle.std.specs.Prelude.{◌≡◌, ℕ, ◌+◌, ◌<◌, ◌≤◌, ◌⊎◌, List, ◌++◌, map, take, length, codes, decimal, Option, None, Some, Result, Ok, Err}
use Rattle.std.specs.Io.KnownBytes.{Consumes}
use Rattle.itch_codec.specs.Messages.{message_of}
use Rattle.itch_frame.specs.Blocks.{blocks}
use Rattle.itch_frame.specs.Reading.{Reading, bytes_left}
use Rattle.itch_frame.specs.declared.tally.Failures.{Failures}
use Rattle.itch_market.specs.Runs.{run}
use Rattle.itch_market.specs.SameMarkets.{Same}
use Rattle.itch_market.specs.declared.stop.Stop.{Stop}
use Rattle.itch_commands.specs.Readings.{ReadsDay, stopped}
use Rattle.itch_market.specs.DayMessages.{AreTaken, IsPart}
use Rattle.itch_commands.specs.declared.fault.Source.{Source}
use Rattle.itch_commands.specs.declared.fault.Source.TheVariants.{First, Second}
use Rattle.itch_commands.specs.declared.fault.ToolFault.{ToolFault}
use Rattle.itch_commands.specs.declared.fault.ToolFault.TheVariants as tool
use Rattle.itch_commands.specs.declared.form.ReportForm.{ReportForm}
use Rattle.itch_commands.specs.declared.form.ReportForm.TheVariants as form
use Rattle.itch_day.specs.Limits.{IsWithin}
use Rattle.itch_day.specs.declared.limit.Limit.{Limit}

-- the markets after k messages of each are the same; if there are fewer payloads, all count
abbrev pub IsSameAt : List (List ℕ) → List (List ℕ) → ℕ → Type 0
IsSameAt p q k = Same (run (map message_of (take k p))) (run (map message_of (take k q)))

-- the markets after n messages of each differ, and after fewer they do not
pub record IsFirstDifference (p q : List (List ℕ)) (n : ℕ) : Type 0 where
  pub before : (k : ℕ) → k < n → IsSameAt p q k
  pub there : IsSameAt p q n → ⊥

-- the same part of a file, but with at most this many messages
abbrev pub limited_to : ℕ → Limit → Limit
limited_to count limit = record { after = Some count; until = limit.until }

-- the first messages of the requested part of a file, this many; or all of them, if there are fewer
abbrev pub IsFront : Limit → ℕ → List ℕ → List (List ℕ) → Type 0
IsFront limit count bytes payloads =
    AreTaken limit payloads
    × (((length payloads ≡ count) × IsWithin limit count × IsPart (limited_to count limit) bytes payloads) ⊎ ((length payloads < count) × IsPart limit bytes payloads))

-- the number of messages after which the markets of two files first differ, if they do
abbrev pub IsPlaceIn : Limit → List ℕ → List ℕ → ℕ → Type 0
IsPlaceIn limit one other n = (p : List (List ℕ)) × (q : List (List ℕ)) × IsFront limit n one p × IsFront limit n other q × IsFirstDifference p q n

-- the markets of two files are the same all along
abbrev pub IsSameIn : Limit → List ℕ → List ℕ → Type 0
IsSameIn limit one other =
    (p : List (List ℕ)) × (q : List (List ℕ)) × AreTaken limit p × IsPart limit one p × AreTaken limit q × IsPart limit other q × ((k : ℕ) → IsSameAt p q k)

-- the number of messages before a fault of a day file
abbrev pub count_of : ToolFault → Option ℕ
count_of (tool.Stopped at end) = Some end.count
count_of (tool.Short at count) = Some count
count_of fault = None

-- the end of the comparison if a file stops after this many messages: none, unless more were requested
abbrev pub over : Option Stop → Limit → Source → ℕ → Result (Unit {0}) ToolFault
over None limit file count = Ok tt
over (Some stop) limit file count = done (stopped stop limit.after file count)
  where
    done : Result ℕ ToolFault → Result (Unit {0}) ToolFault
    done (Ok count) = Ok tt
    done (Err fault) = Err fault

module _ {R : Type 0} (remaining : R → Option (List ℕ)) (failures : R → Failures) where
  -- The messages read of a file after this many of each: that many, and nothing after them; or all requested ones, if those are fewer.
  abbrev pub ReadsUpTo : Source → Limit → ℕ → Reading R → Reading R → List (List ℕ) → Type 0
  ReadsUpTo file limit count old new payloads =
      ((length payloads ≡ count) × IsWithin limit count × ReadsDay remaining failures file (limited_to count limit) old new (Ok payloads))
      ⊎ ((length payloads < count) × ReadsDay remaining failures file limit old new (Ok payloads))

  -- a file is refused with this fault, after these messages
  pub record IsRefusedAfter (file : Source) (limit : Limit) (old new : Reading R) (fault : ToolFault) (payloads : List (List ℕ)) : Type 0 where
    pub refused : ReadsDay remaining failures file limit old new (Err fault)
    pub counted : count_of fault ≡ Some (length payloads)
    pub taken : AreTaken limit payloads
    pub front : (mid : Option (List ℕ)) × Consumes (bytes_left remaining old) mid (blocks payloads)

module _ {R S : Type 0} (remaining : R → Option (List ℕ)) (failures : R → Failures) (remaining_then : S → Option (List ℕ)) (failed_then : S → Failures) where
  -- the first file is refused, and the markets before that were the same
  abbrev pub RefusesFirst : Limit → Reading R → Reading R → Reading S → Reading S → ToolFault → Type 0
  RefusesFirst limit a b c d fault =
      (p : List (List ℕ)) × (q : List (List ℕ)) × IsRefusedAfter remaining failures First limit a b fault p
      × ReadsUpTo remaining_then failed_then Second limit (length p) c d q × ((k : ℕ) → k ≤ length p → IsSameAt p q k)

  -- the second file is refused, after the first one's message at that place was taken
  abbrev pub RefusesSecond : Limit → Reading R → Reading R → Reading S → Reading S → ToolFault → Type 0
  RefusesSecond limit a b c d fault =
      (p : List (List ℕ)) × (q : List (List ℕ)) × ReadsUpTo remaining failures First limit (length q + 1) a b p
      × IsRefusedAfter remaining_then failed_then Second limit c d fault q × ((k : ℕ) → k ≤ length q → IsSameAt p q k)

  -- The messages read of two files side by side, until their markets differ, and the number after which they do.
  abbrev pub FindsFirst : Limit → Reading R → Reading R → Reading S → Reading S → Result (Option ℕ) ToolFault → Type 0
  FindsFirst limit a b c d (Ok None) =
      (p : List (List ℕ)) × (q : List (List ℕ)) × ReadsDay remaining failures First limit a b (Ok p)
      × ReadsDay remaining_then failed_then Second limit c d (Ok q) × ((k : ℕ) → IsSameAt p q k)
  FindsFirst limit a b c d (Ok (Some n)) =
      (p : List (List ℕ)) × (q : List (List ℕ)) × ReadsUpTo remaining failures First limit n a b p
      × ReadsUpTo remaining_then failed_then Second limit n c d q × IsFirstDifference p q n
  FindsFirst limit a b c d (Err fault) = RefusesFirst limit a b c d fault ⊎ RefusesSecond limit a b c d fault

-- the line with this number, or the line that reports that the markets are the same all along
abbrev pub first_line : ReportForm → Option ℕ → List ℕ
first_line form.Text None = codes "same\n"
first_line form.Text (Some count) = codes "different after " ++ decimal count ++ codes "\n"
first_line form.Json None = codes "{\"same\":true}\n"
first_line form.Json (Some count) = codes "{\"same\":false,\"after\":" ++ decimal count ++ codes "}\n"
