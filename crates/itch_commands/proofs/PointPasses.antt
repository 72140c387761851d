-- A pass that reads on, over the market of a point.
use Rattle.std.proofs.Common.{◌≡◌, ℕ, ◌-◌, ◌^◌, ◌≤◌, List, true, false, Option, None, Some, Ok, Err, refl, sym, subst, ◌∙◌}
use Rattle.itch_frame.specs.Reading.{Reading}
use Rattle.itch_frame.specs.declared.tally.Failures.{Failures}
use Rattle.itch_day.specs.Limits.{counted}
use Rattle.itch_day.specs.DayCursors.{RefusesTracked, TakesTracked}
use Rattle.itch_day.specs.Parts.{GoesOnTo, ReadsPart}
use Rattle.itch_day.specs.declared.limit.Limit.{Limit}
use Rattle.itch_day.specs.declared.stop.PartStop.{PartStop as Part}
use Rattle.itch_day.specs.declared.tracked.Tracked.{Tracked}
use Rattle.itch_day.proofs.Joined.{joined_to}
use Rattle.itch_market.specs.Content.{Content}
use Rattle.itch_market.specs.Takings.{RefusesMessage, TakesMessage}
use Rattle.itch_market.specs.declared.refused.Refused.{Refused}
use Rattle.itch_commands.specs.Points.{ReadsMore, ReadsTo, Stands, begun}
use Rattle.itch_commands.specs.declared.fault.Source.{Source}
use Rattle.itch_commands.specs.declared.fault.ToolFault.{ToolFault}
use Rattle.itch_commands.specs.declared.fault.ToolFault.TheVariants as tool
use Rattle.itch_commands.proofs.PointReadings.{count_on, more_fails, more_read, more_short, short_stands, stands_on}

module _ {R : Type 0} (remaining : R → Option (List ℕ)) (failures : R → Failures) (limit : Limit) (old new : Reading R) (count : ℕ) (s t : Tracked Content) (stop : Part Refused)
    (reads : ReadsPart remaining failures (TakesTracked TakesMessage) (RefusesTracked RefusesMessage) limit old new s.cursor.count count s stop t) where
  -- the cursor counts the messages
  pub counted_then : t.cursor.count ≡ count
  counted_then = count_on remaining failures limit old new s.cursor.count count s t stop reads refl

  -- the part that was read on to is read from the beginning
  pub stands_then : (first : Reading R) (before : Limit) (at : Part Refused) → Stands remaining failures before first old s at → GoesOnTo before at s.cursor.count limit
      → Stands remaining failures limit first new t stop
  stands_then first before at stands to =
      stands_on remaining failures limit first new count t stop counted_then
      (joined_to remaining failures (TakesTracked TakesMessage) (RefusesTracked RefusesMessage) before limit first old new 0 s.cursor.count count begun s t at stop to stands reads)

module _ {R : Type 0} (remaining : R → Option (List ℕ)) (failures : R → Failures) (most : ℕ) (asked : Limit) (is : asked ≡ counted (Some most)) (first now : Reading R) (tracked : Tracked Content)
    (few : tracked.cursor.count ≤ 10 ^ 19 - 1) (stop : Part Refused) (stands : Stands remaining failures asked first now tracked stop) where
  there : Stands remaining failures (counted (Some most)) first now tracked stop
  there = subst (λ l. Stands remaining failures l first now tracked stop) is stands

  -- that many messages were read
  pub more_there : (limit : Limit) → limit ≡ asked → (count : ℕ) → ReadsTo remaining failures asked first now stop (Ok count) tracked → ReadsMore remaining failures most limit first now stop (Ok true) tracked
  more_there limit same count reads =
      subst (λ l. ReadsMore remaining failures most l first now stop (Ok true) tracked) (sym (same ∙ is))
      (more_read remaining failures most first now tracked few stop count there (subst (λ l. ReadsTo remaining failures l first now stop (Ok count) tracked) is reads))

  -- or the reading failed
  pub fails_there : (limit : Limit) → limit ≡ asked → (fault : ToolFault) → ReadsTo remaining failures asked first now stop (Err fault) tracked
      → ReadsMore remaining failures most limit first now stop (Err fault) tracked
  fails_there limit same fault reads =
      subst (λ l. ReadsMore remaining failures most l first now stop (Err fault) tracked) (sym (same ∙ is))
      (more_fails remaining failures most first now tracked few stop fault (subst (λ l. ReadsTo remaining failures l first now stop (Err fault) tracked) is reads))

  -- or the file has fewer
  module _ (limit : Limit) (whole : limit ≡ counted None) (fault : ToolFault) (at : Source) (count : ℕ) (short : fault ≡ tool.Short at count)
      (reads : ReadsTo remaining failures asked first now stop (Err fault) tracked) where
    fails : ReadsTo remaining failures (counted (Some most)) first now stop (Err fault) tracked
    fails = subst (λ l. ReadsTo remaining failures l first now stop (Err fault) tracked) is reads

    pub short_there : ReadsMore remaining failures most limit first now stop (Ok false) tracked
    short_there =
        subst (λ l. ReadsMore remaining failures most l first now stop (Ok false) tracked) (sym whole)
        (more_short remaining failures most first now tracked few stop there fault at count short fails)

    pub whole_there : Stands remaining failures limit first now tracked stop
    whole_there =
        subst (λ l. Stands remaining failures l first now tracked stop) (sym whole)
        (short_stands remaining failures most first now tracked few stop there fault at count short fails)
