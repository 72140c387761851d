-- Reading a day file on from point to point, and the results.
use Rattle.std.specs.Prelude.{◌≡◌, ℕ, ◌<◌, ⊤, Bool, true, false, List, map, Option, Some, None, Result, Ok, Err}
use Rattle.std.specs.List.{AllByRecursion}
use Rattle.itch_codec.specs.Messages.{message_of}
use Rattle.itch_frame.specs.Reading.{Reading}
use Rattle.itch_frame.specs.declared.tally.Failures.{Failures}
use Rattle.itch_day.specs.Limits.{counted}
use Rattle.itch_day.specs.DayCursors.{IsDayCursor, RefusesTracked, TakesTracked, first_cursor}
use Rattle.itch_day.specs.Parts.{GoesOn, ReadsPart}
use Rattle.itch_day.specs.declared.limit.Limit.{Limit}
use Rattle.itch_day.specs.declared.cursor.DayCursor.{DayCursor}
use Rattle.itch_day.specs.declared.tracked.Tracked.{Tracked}
use Rattle.itch_day.specs.declared.stop.PartStop.{PartStop}
use Rattle.itch_day.specs.declared.stop.PartStop.TheVariants.{End, Frame, Full, Late, Refused as Denied, TooMany}
use Rattle.itch_market.specs.Content.{Content, empty, laid}
use Rattle.itch_market.specs.Replays.{Fits}
use Rattle.itch_market.specs.Runs.{run}
use Rattle.itch_day.specs.Passing.{left_by}
use Rattle.itch_market.specs.Takings.{RefusesMessage, TakesMessage}
use Rattle.itch_market.specs.declared.refused.Refused.{Refused}
use Rattle.itch_commands.specs.Readings.{ReadsDay}
use Rattle.itch_commands.specs.declared.fault.Source.{Source}
use Rattle.itch_commands.specs.declared.fault.Source.TheVariants.{Only}
use Rattle.itch_commands.specs.declared.fault.ToolFault.{ToolFault}
use Rattle.itch_commands.specs.declared.fault.ToolFault.TheVariants as tool

-- the messages before the first at a time or later
abbrev pub up_to : ℕ → Limit
up_to time = record { after = None; until = Some time }

-- the part of no messages, which a pass has read at first: any part continues it
abbrev pub at_first : Limit
at_first = record { after = Some 0; until = Some 0 }

-- the requested part was read, if the reading stopped so: a file that ends is all of it only if no number of messages was requested
abbrev pub Reaches : Limit → PartStop Refused → Type 0
Reaches limit Full = ⊤
Reaches limit Late = ⊤
Reaches limit End = limit.after ≡ None
Reaches limit (Frame fault) = ⊥
Reaches limit TooMany = ⊥
Reaches limit (Denied why) = ⊥

-- the market and the cursor at the beginning of a day
abbrev pub begun : Tracked Content
begun = record { sink = empty; cursor = first_cursor }

module _ {R : Type 0} (remaining : R → Option (List ℕ)) (failures : R → Failures) where
  -- The part of a file that a limit ends was read, up to this stop, with this market and cursor afterwards. The message that stopped it is
  -- the next one of the reader of blocks.
  abbrev pub Stands : Limit → Reading R → Reading R → Tracked Content → PartStop Refused → Type 0
  Stands limit first now tracked stop =
      ReadsPart remaining failures (TakesTracked TakesMessage) (RefusesTracked RefusesMessage) limit first now 0 tracked.cursor.count begun stop tracked

  -- the part of a file that a limit ends was read, with this market afterwards
  pub record IsRead (limit : Limit) (first now : Reading R) (m : Content) (cursor : DayCursor) : Type 0 where
    pub payloads : List (List ℕ)
    pub day : ReadsDay remaining failures Only limit first now (Ok payloads)
    pub fits : AllByRecursion Fits payloads
    pub market : m ≡ laid (run (map message_of payloads))
    pub tracked : IsDayCursor cursor payloads

  -- The outcome of reading on up to the end of a part: that of one reading of that part, once the message that stopped it is passed. The
  -- market and the cursor are those of the part's messages, and the reading can continue, even if the file ended before.
  abbrev pub ReadsOn : Limit → Reading R → Reading R → Result ℕ ToolFault → Tracked Content → Type 0
  ReadsOn limit first now (Ok count) tracked =
      (count ≡ tracked.cursor.count)
      × ((stop : PartStop Refused) × GoesOn stop × Stands limit first now tracked stop × IsRead limit first (left_by stop now) tracked.sink tracked.cursor)
  ReadsOn limit first now (Err fault) tracked =
      (stop : PartStop Refused) × Stands limit first now tracked stop × ReadsDay remaining failures Only limit first (left_by stop now) (Err fault)
      × ((at : Source) → (count : ℕ) → fault ≡ tool.Short at count → (count ≡ tracked.cursor.count) × (stop ≡ End))

  -- The outcome of a pass that reads on up to the end of a part, and stops so: that of one reading of that part, once the message that stopped
  -- it is passed. If the part was read, the market and the cursor are those of its messages.
  abbrev pub ReadsTo : Limit → Reading R → Reading R → PartStop Refused → Result ℕ ToolFault → Tracked Content → Type 0
  ReadsTo limit first now stop (Ok count) tracked =
      (count ≡ tracked.cursor.count) × Reaches limit stop × IsRead limit first (left_by stop now) tracked.sink tracked.cursor
  ReadsTo limit first now stop (Err fault) tracked =
      ReadsDay remaining failures Only limit first (left_by stop now) (Err fault)
      × ((at : Source) → (count : ℕ) → fault ≡ tool.Short at count → (count ≡ tracked.cursor.count) × (stop ≡ End))

  -- The outcome of a pass that reads on up to this number of messages, with the part that it has then requested. They were read (true), or there
  -- were fewer, and the complete file was read (false).
  abbrev pub ReadsMore : ℕ → Limit → Reading R → Reading R → PartStop Refused → Result Bool ToolFault → Tracked Content → Type 0
  ReadsMore most limit first now stop (Ok true) tracked =
      (limit ≡ counted (Some most)) × (tracked.cursor.count ≡ most) × Reaches limit stop × IsRead limit first (left_by stop now) tracked.sink tracked.cursor
  ReadsMore most limit first now stop (Ok false) tracked =
      (limit ≡ counted None) × (tracked.cursor.count < most) × Reaches limit stop × IsRead limit first (left_by stop now) tracked.sink tracked.cursor
  ReadsMore most limit first now stop (Err fault) tracked =
      (limit ≡ counted (Some most)) × ReadsDay remaining failures Only (counted (Some most)) first (left_by stop now) (Err fault)

  -- The outcome of reading on up to a time: that of one reading of that part. A message at this time or later follows (true), or the whole
  -- file was read (false).
  abbrev pub ReadsUntil : ℕ → Reading R → Reading R → Result Bool ToolFault → Tracked Content → Type 0
  ReadsUntil time first now (Ok true) tracked =
      Stands (up_to time) first now tracked Late × IsRead (up_to time) first (left_by {F = Refused} Late now) tracked.sink tracked.cursor
  ReadsUntil time first now (Ok false) tracked =
      Stands (up_to time) first now tracked End × IsRead (up_to time) first (left_by {F = Refused} End now) tracked.sink tracked.cursor
  ReadsUntil time first now (Err fault) tracked =
      (stop : PartStop Refused) × ReadsDay remaining failures Only (up_to time) first (left_by stop now) (Err fault)
