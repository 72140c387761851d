-- Saving the snapshots at several points of a day file, in one pass.
use Rattle.std.specs.Prelude.{◌≡◌, ℕ, zero, suc, ◌+◌, ◌-◌, ◌^◌, ◌<◌, ◌⊎◌, max, min, Bool, true, false, List, [], ◌∷◌, Option, None, Some, Result, Ok, Err, MatchResult}
use Rattle.itch_frame.specs.Reading.{Reading}
use Rattle.itch_frame.specs.declared.tally.Failures.{Failures}
use Rattle.itch_day.specs.Limits.{counted}
use Rattle.itch_day.specs.declared.limit.Limit.{Limit}
use Rattle.itch_day.specs.declared.cursor.DayCursor.{DayCursor}
use Rattle.itch_market.specs.Content.{Content}
use Rattle.itch_commands.specs.Points.{IsRead}
use Rattle.itch_commands.specs.Readings.{ReadsDay}
use Rattle.itch_commands.specs.declared.fault.Source.TheVariants.{Only}
use Rattle.itch_commands.specs.declared.fault.ToolFault.{ToolFault}
use Rattle.itch_commands.specs.declared.snap.points.Points.{Points}
use Rattle.itch_commands.specs.declared.snap.points.Points.TheVariants.{At, Every}

-- one more snapshot was saved, and more may follow (true) or none (false); or the saving ends with this error
abbrev pub Continues : {E : Type 0} → Result Bool E → Type 0 → Type 0 → (E → Type 0) → Type 0
Continues (Ok true) more done failed = more
Continues (Ok false) more done failed = done
Continues (Err error) more done failed = failed error

-- a fault gives an error, and a saver's effect at the end of a part that was read from one reader of blocks to another, with this cursor
module _ {R S E : Type 0} (remaining : R → Option (List ℕ)) (failures : R → Failures) (gives : ToolFault → E → Type 0)
    (saves : S → Limit → Reading R → Reading R → DayCursor → Result (Unit {0}) E → S → Type 0) where
  -- the part of a file that a limit ends was read, and then its snapshot was saved with this result
  abbrev pub SavesPart : Limit → Reading R → S → Result (Unit {0}) E → S → Type 0
  SavesPart limit first old result new =
      (now : Reading R) × (m : Content) × (cursor : DayCursor) × IsRead remaining failures limit first now m cursor × saves old limit first now cursor result new

  -- the part was refused, and nothing was saved
  abbrev pub RefusesPart : Limit → Reading R → S → E → S → Type 0
  RefusesPart limit first old error new =
      (now : Reading R) × (fault : ToolFault) × ReadsDay remaining failures Only limit first now (Err fault) × gives fault error × (new ≡ old)

  -- one or the other
  abbrev pub SavesAt : Limit → Reading R → S → Result (Unit {0}) E → S → Type 0
  SavesAt limit first old (Ok done) new = SavesPart limit first old (Ok done) new
  SavesAt limit first old (Err error) new = RefusesPart limit first old error new ⊎ SavesPart limit first old (Err error) new

  -- The snapshots of these parts, one after another, up to the first error.
  abbrev pub SavesEach : Reading R → List Limit → S → Result Bool E → S → Type 0
  SavesEach first [] old result new = (result ≡ Ok true) × (new ≡ old)
  SavesEach first (limit ∷ limits) old result new =
      (answer : Result (Unit {0}) E) × (mid : S) × SavesAt limit first old answer mid
      × MatchResult answer (λ _. SavesEach first limits mid result new) (λ error. (result ≡ Err error) × (new ≡ mid))

  -- the file has fewer messages than that, and the snapshot of the complete file was saved with this result
  abbrev pub SavesLast : ℕ → Reading R → S → Result (Unit {0}) E → S → Type 0
  SavesLast most first old result new =
      (now : Reading R) × (m : Content) × (cursor : DayCursor) × IsRead remaining failures (counted None) first now m cursor × (cursor.count < most)
      × saves old (counted None) first now cursor result new

  -- the snapshot after this number of messages was saved (true), or the last one was (false)
  abbrev pub SavesNext : ℕ → Reading R → S → Result Bool E → S → Type 0
  SavesNext most first old (Ok true) new = SavesPart (counted (Some most)) first old (Ok tt) new
  SavesNext most first old (Ok false) new = SavesLast most first old (Ok tt) new
  SavesNext most first old (Err error) new = SavesAt (counted (Some most)) first old (Err error) new ⊎ SavesLast most first old (Err error) new

  -- The snapshots at this many points, the last of which is the end of the file or an error. Each is that many messages after the one before.
  abbrev pub SavesEvery : ℕ → ℕ → Reading R → ℕ → S → Result Bool E → S → Type 0
  SavesEvery step zero first count old result new = ⊥
  SavesEvery step (suc points) first count old result new =
      (answer : Result Bool E) × (mid : S) × SavesNext (min (count + step) (2 ^ 64 - 1)) first old answer mid
      × Continues answer (SavesEvery step points first (min (count + step) (2 ^ 64 - 1)) mid result new) ((result ≡ Ok true) × (new ≡ mid))
      (λ error. (result ≡ Err error) × (new ≡ mid))

  -- The snapshots at the requested points of a file: at the ends of parts, or one per this many messages, but at least per message.
  abbrev pub SavesPoints : Points → Reading R → S → Result Bool E → S → Type 0
  SavesPoints (At parts) first old result new = SavesEach first parts.limits.items old result new
  SavesPoints (Every step) first old result new = (points : ℕ) × SavesEvery (max step 1) points first 0 old result new
