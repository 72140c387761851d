-- Known facts about the day file that a command has read.
use Rattle.std.proofs.Common.{◌≡◌, ℕ, List, Option, Ok, Err, sym, subst}
use Rattle.itch_frame.specs.Reading.{Reading, bytes_left}
use Rattle.itch_frame.specs.declared.tally.Failures.{Failures}
use Rattle.itch_market.specs.Content.{Content, empty}
use Rattle.itch_market.proofs.DayMessages.{Applied, part_read, halts_decided, ends_decided}
use Rattle.itch_market.specs.declared.stop.Stop.TheVariants.{End}
use Rattle.itch_commands.specs.declared.fault.ToolFault.{ToolFault}
use Rattle.itch_commands.specs.declared.fault.ToolFault.TheVariants as tool
use Rattle.itch_commands.specs.declared.fault.Source.{Source}
use Rattle.itch_day.specs.declared.limit.Limit.{Limit}
use Rattle.itch_commands.specs.Readings.{LeavesDay, ReadsMarket, CountsRead, ReadsDay}

-- known facts about the part of a day file that a command has read
pub read_done : (file : Source) (limit : Limit) (bytes new : Option (List ℕ)) (start : Content) (count : ℕ) (n : Content) → start ≡ empty
    → ReadsMarket file limit start bytes new (Ok count) n → Applied limit bytes new count n
read_done file limit bytes new start count n first reads = part_read limit bytes new start count n first reads

module _ {R : Type 0} (remaining : R → Option (List ℕ)) (failures : R → Failures) (file : Source) (limit : Limit) (old new : Reading R) where
  -- the result of reading a day file
  pub day_done : (count : ℕ) (n : Content) (applied : Applied limit (bytes_left remaining old) (bytes_left remaining new) count n)
      → failures new.reader ≡ failures old.reader → LeavesDay (Ok count) limit old new → ReadsDay remaining failures file limit old new (Ok applied.payloads)
  day_done count n applied uncounted left = (
    applied.taken,
    applied.part,
    applied.leaves,
    uncounted,
    subst (λ k. LeavesDay (Ok k) limit old new) (sym applied.counted) left,
  )

  -- or the reason why it was refused
  pub day_fails : (fault : ToolFault) (start n : Content) → start ≡ empty → ReadsMarket file limit start (bytes_left remaining old) (bytes_left remaining new) (Err fault) n
      → CountsRead {X = ℕ} (Err fault) (failures old.reader) (failures new.reader) → LeavesDay (Err fault) limit old new → ReadsDay remaining failures file limit old new (Err fault)
  day_fails fault start n first reads counts left =
      by_fault fault (subst (λ m. ReadsMarket file limit m (bytes_left remaining old) (bytes_left remaining new) (Err fault) n) first reads) counts left where
        by_fault : (f : ToolFault) → ReadsMarket file limit empty (bytes_left remaining old) (bytes_left remaining new) (Err f) n
            → CountsRead {X = ℕ} (Err f) (failures old.reader) (failures new.reader) → LeavesDay (Err f) limit old new → ReadsDay remaining failures file limit old new (Err f)
        by_fault (tool.Stopped at end) (same, stop, halts) counted leaves =
            (same, stop, (n, halts), halts_decided limit (bytes_left remaining old) (bytes_left remaining new) end.count end.stop n halts, counted, leaves)
        by_fault (tool.Short at count) (same, some, halts) counted leaves = (
          same,
          (some, halts.0),
          (n, halts),
          ends_decided (bytes_left remaining old) count (halts_decided limit (bytes_left remaining old) (bytes_left remaining new) count End n halts),
          counted,
          leaves,
        )
        by_fault (tool.Snap at f) h counted leaves = absurd h
        by_fault tool.UnknownLocate h counted leaves = absurd h
        by_fault tool.UnknownStock h counted leaves = absurd h
        by_fault (tool.Write error) h counted leaves = absurd h
        by_fault tool.OutOfMemory h counted leaves = absurd h
        by_fault (tool.Open file error) h counted leaves = absurd h
        by_fault (tool.UnmetExpectation unmet) h counted leaves = absurd h
        by_fault (tool.FeedMismatch mismatch) h counted leaves = absurd h
        by_fault tool.BadLocates h counted leaves = absurd h
        by_fault tool.TooMany h counted leaves = absurd h
