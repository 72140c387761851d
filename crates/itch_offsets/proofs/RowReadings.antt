-- Reading a day file to the next row.
use Rattle.std.proofs.Common.{◌≡◌, ℕ, Bool, List, [], Option, Result, Ok, Err, sym, ap, subst, ◌∙◌, arith}
use Rattle.std.specs.Prelude.{OnOk}
use Rattle.itch_frame.specs.Blocks.{blocks}
use Rattle.itch_frame.specs.Reading.{Reading}
use Rattle.itch_frame.specs.declared.fault.FrameFault.TheVariants.{Read, Truncated, Write, TooLong}
use Rattle.itch_frame.specs.declared.tally.Failures.{Failures}
use Rattle.itch_day.specs.DayCursors.{RefusesTracked, TakesTracked}
use Rattle.itch_day.specs.Parts.{ReadsPart, StopsAt}
use Rattle.itch_day.specs.declared.limit.Limit.{Limit}
use Rattle.itch_day.specs.declared.cursor.DayCursor.{DayCursor}
use Rattle.itch_day.specs.declared.tracked.Tracked.{Tracked}
use Rattle.itch_day.specs.declared.stop.PartStop.{PartStop as Part}
use Rattle.itch_day.specs.declared.stop.PartStop.TheVariants as part
use Rattle.itch_day.proofs.DayCursors.{count-cursor_after, tracked_after, unmarked_all}
use Rattle.itch_commands.specs.declared.fault.ToolFault.{ToolFault}
use Rattle.itch_offsets.specs.Passes.{ReadsRow, RefusesEntry, TakesEntry, cleared, entries, row_answer, row_part}
use Rattle.itch_offsets.proofs.Entries.{kept_of_all}

on_ok : {A E : Type 0} (result : Result A E) (P : Type 0) → P → OnOk result P
on_ok (Ok value) P holds = holds
on_ok (Err why) P holds = tt

module _ {R : Type 0} (remaining : R → Option (List ℕ)) where
  -- unless a message was refused, the blocks kept when the reading stops are those kept of the messages
  kept_at : (limit whole : Limit) (count k : ℕ) (r : Reading R) (s : Tracked (List ℕ)) (stop : Part ToolFault) (t : Tracked (List ℕ)) (result : Result Bool ToolFault)
      → StopsAt remaining (RefusesTracked RefusesEntry) limit count r s stop t → result ≡ row_answer whole k stop → OnOk result (t.sink ≡ s.sink)
  kept_at limit whole count k r s part.Full t result (same, all) is = on_ok result (t.sink ≡ s.sink) (ap (λ (m : Tracked (List ℕ)). m.sink) same)
  kept_at limit whole count k r s part.Late t result (same, before, late) is = on_ok result (t.sink ≡ s.sink) (ap (λ (m : Tracked (List ℕ)). m.sink) same)
  kept_at limit whole count k r s part.End t result (same, before, end) is = on_ok result (t.sink ≡ s.sink) (ap (λ (m : Tracked (List ℕ)). m.sink) same)
  kept_at limit whole count k r s (part.Frame (Truncated held)) t result (same, before, cut, is_held, open_end) is = on_ok result (t.sink ≡ s.sink) (ap (λ (m : Tracked (List ℕ)). m.sink) same)
  kept_at limit whole count k r s (part.Frame (Read error)) t result (same, before, going) is = on_ok result (t.sink ≡ s.sink) (ap (λ (m : Tracked (List ℕ)). m.sink) same)
  kept_at limit whole count k r s (part.Frame (Write sent error)) t result never is = absurd never
  kept_at limit whole count k r s (part.Frame TooLong) t result never is = absurd never
  kept_at limit whole count k r s part.TooMany t result (same, before, many) is = on_ok result (t.sink ≡ s.sink) (ap (λ (m : Tracked (List ℕ)). m.sink) same)
  kept_at limit whole count k r s (part.Refused why) t result stops is = subst (λ (x : Result Bool ToolFault). OnOk x (t.sink ≡ s.sink)) (sym is) tt

  on_then : (result : Result Bool ToolFault) (xs ys zs : List ℕ) → OnOk result (xs ≡ ys) → ys ≡ zs → OnOk result (xs ≡ zs)
  on_then (Ok value) xs ys zs holds same = holds ∙ same
  on_then (Err why) xs ys zs holds same = tt

  module _ (failures : R → Failures) (limit : Limit) (old new : Reading R) (before : DayCursor) (count : ℕ) (stop : Part ToolFault) (after : Tracked (List ℕ))
      (reads : ReadsPart remaining failures (TakesTracked TakesEntry) (RefusesTracked RefusesEntry) (row_part limit before.count) old new before.count count
      (cleared before) stop after) where
    -- the cursor counts the messages
    pub row_counted : after.cursor.count ≡ count
    row_counted =
        let tracked = ap (λ (k : DayCursor). k.count) (tracked_after remaining failures TakesEntry RefusesEntry (row_part limit before.count) old new before.count count (cleared before) stop after reads) in
        omega (arith, tracked, count-cursor_after before reads.payloads, reads.taken.counted)

    pub row_read : (result : Result Bool ToolFault) → result ≡ row_answer limit count stop → ReadsRow remaining failures limit old new before after result
    row_read result is =
        let both = kept_of_all [] before.count reads.payloads reads.last.sink
        (unmarked_all remaining failures TakesEntry RefusesEntry (cleared before) before.count reads.payloads reads.last reads.taken.taken).0 in
        record {
          stop = stop;
          reads = subst (λ k. ReadsPart remaining failures (TakesTracked TakesEntry) (RefusesTracked RefusesEntry) (row_part limit before.count) old new before.count k (cleared before) stop after)
              (sym row_counted) reads;
          answer = is ∙ ap (λ k. row_answer limit k stop) (sym row_counted);
          payloads = reads.payloads;
          bytes = reads.taken.bytes;
          full = reads.taken.full;
          clean = both.0;
          tracked = tracked_after remaining failures TakesEntry RefusesEntry (row_part limit before.count) old new before.count count (cleared before) stop after reads;
          kept = on_then result after.sink reads.last.sink (blocks (entries reads.payloads))
              (kept_at (row_part limit before.count) limit count count new reads.last stop after result reads.stops is) both.1;
        }
