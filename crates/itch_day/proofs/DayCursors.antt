-- A cursor and the messages before it.
use Rattle.std.proofs.Common.{◌≡◌, ℕ, ◌+◌, ◌-◌, ◌^◌, ◌≤◌, min, true, false, List, [], ◌∷◌, map, length, Option, None, Some, IfSome, refl, subst, ap, ◌∙◌, arith, length-append}
use Rattle.std.specs.List.{AllByRecursion}
use Rattle.std.proofs.lemmas.Bool.Decides.{nat_tests}
use Rattle.itch_codec.specs.Headers.{time_of}
use Rattle.itch_codec.specs.Messages.{fault, message_of}
use Rattle.itch_frame.specs.Blocks.{block, blocks}
use Rattle.itch_frame.specs.Reading.{Reading}
use Rattle.itch_frame.specs.declared.tally.Failures.{Failures}
use Rattle.itch_frame.specs.declared.fault.FrameFault.TheVariants.{Read, Truncated, Write, TooLong}
use Rattle.itch_day.specs.declared.limit.Limit.{Limit}
use Rattle.itch_day.specs.declared.cursor.DayCursor.{DayCursor}
use Rattle.itch_day.specs.declared.tracked.Tracked.{Tracked}
use Rattle.itch_day.specs.declared.stop.PartStop.{PartStop}
use Rattle.itch_day.specs.declared.stop.PartStop.TheVariants.{Full, Late, End, Frame, TooMany, Refused}
use Rattle.itch_day.specs.Limits.{IsEarly, is_from, is_late}
use Rattle.itch_day.specs.DayCursors.{IsDayCursor, RefusesTracked, TakesTracked, first_cursor, is_before, is_within, later, latest, cursor_after, cursor_past, time_by}
use Rattle.itch_day.specs.Parts.{ReadsPart, StopsAt}
use Rattle.itch_day.specs.Sinks.{TakesAll}

-- if the later of two times is before another time, both are
both_before : (until : ℕ) (before time : Option ℕ) → is_before (Some until) (later before time) ≡ true → (is_before (Some until) before ≡ true) × (is_from until time ≡ false)
both_before until None None is = (refl, refl)
both_before until None (Some time) is = (refl, grind (arith, nat_tests))
both_before until (Some before) None is = (is, refl)
both_before until (Some before) (Some time) is = (grind (arith, nat_tests), grind (arith, nat_tests))

-- if the latest time is before it, so is each message
each_early : (until : Option ℕ) (before : Option ℕ) (ps : List (List ℕ)) → is_before until (latest before (map message_of ps)) ≡ true
    → (is_before until before ≡ true) × AllByRecursion (λ p. is_late until (message_of p) ≡ false) ps
each_early None before [] is = (refl, tt)
each_early None before (p ∷ ps) is = (refl, (refl, (each_early None (later before (time_of (message_of p))) ps is).1))
each_early (Some until) before [] is = (is, tt)
each_early (Some until) before (p ∷ ps) is =
    let rest = each_early (Some until) (later before (time_of (message_of p))) ps is in
    let first = both_before until before (time_of (message_of p)) rest.0 in
    (first.0, (first.1, rest.1))

few_enough : (wanted : Option ℕ) (count : ℕ) → is_within wanted count ≡ true → IfSome wanted (λ most. count ≤ most)
few_enough None count is = tt
few_enough (Some wanted) count is = grind (arith, nat_tests)

-- the messages before a cursor that is in a part all belong to that part
pub in_part : (limit : Limit) (cursor : DayCursor) (ps : List (List ℕ)) → IsDayCursor cursor ps → is_within limit.after cursor.count ≡ true → is_before limit.until cursor.latest ≡ true
    → IfSome limit.after (λ most. length ps ≤ most) × AllByRecursion (IsEarly limit) ps
in_part limit cursor ps is within before = (
  subst (λ k. IfSome limit.after (λ most. k ≤ most)) is.count (few_enough limit.after cursor.count within),
  (each_early limit.until None ps (subst (λ t. is_before limit.until t ≡ true) is.latest before)).1,
)

-- the number of messages after these payloads
pub count-cursor_after : (cursor : DayCursor) (ps : List (List ℕ)) → DayCursor.count (cursor_after cursor ps) ≡ cursor.count + length ps
count-cursor_after cursor [] = omega arith
count-cursor_after cursor (p ∷ ps) = omega (arith, count-cursor_after (cursor_past cursor p) ps)

-- a cursor advances over payloads that are valid messages
record GoesOver (cursor : DayCursor) (ps : List (List ℕ)) (new : DayCursor) : Type 0 where
  pub count : new.count ≡ cursor.count + length ps
  pub offset : new.offset ≡ min (cursor.offset + length (blocks ps)) (2 ^ 64 - 1)
  pub times : new.latest ≡ latest cursor.latest (map message_of ps)

length-block : (p : List ℕ) → length (block p) ≡ length p + 2
length-block p = omega arith

goes_over : (cursor : DayCursor) (ps : List (List ℕ)) → cursor.offset ≤ 2 ^ 64 - 1 → AllByRecursion (λ p. fault p ≡ None) ps → GoesOver cursor ps (cursor_after cursor ps)
goes_over cursor [] within clean = record { count = omega arith; offset = omega (arith, within); times = refl }
goes_over cursor (p ∷ ps) within clean =
    let rest = goes_over (cursor_past cursor p) ps (omega arith) clean.1 in
    record {
      count = omega (arith, rest.count);
      offset = omega (arith, rest.offset, length-append (block p) (blocks ps), length-block p);
      times = rest.times ∙ ap (λ why. latest (later cursor.latest (time_by why p)) (map message_of ps)) clean.0;
    }

-- the cursor after the payloads at the beginning of a day
pub is_cursor : (ps : List (List ℕ)) → AllByRecursion (λ p. fault p ≡ None) ps → IsDayCursor (cursor_after first_cursor ps) ps
is_cursor ps clean =
    let over = goes_over first_cursor ps (omega arith) clean in record { count = omega (arith, over.count); offset = omega (arith, over.offset); latest = over.times }

module _ {R S F : Type 0} (remaining : R → Option (List ℕ)) (failures : R → Failures) (takes : S → ℕ → List ℕ → S → Type 0) (refuses : S → ℕ → List ℕ → F → S → Type 0) where
  pub unmarked_all : (s : Tracked S) (count : ℕ) (ps : List (List ℕ)) (t : Tracked S) → TakesAll (TakesTracked takes) s count ps t
      → TakesAll takes s.sink count ps t.sink × (t.cursor ≡ cursor_after s.cursor ps)
  unmarked_all s count [] t same = (ap (λ (m : Tracked S). m.sink) same, ap (λ (m : Tracked S). m.cursor) same)
  unmarked_all s count (p ∷ ps) t (mid, (took, tracked), rest) =
      let later = unmarked_all mid (count + 1) ps t rest in ((mid.sink, took, later.0), later.1 ∙ ap (λ m. cursor_after m ps) tracked)

  sink_same : (s t : Tracked S) → t ≡ s → t.sink ≡ s.sink
  sink_same s t same = ap (λ (m : Tracked S). m.sink) same

  cursor_same : (s t : Tracked S) → t ≡ s → t.cursor ≡ s.cursor
  cursor_same s t same = ap (λ (m : Tracked S). m.cursor) same

  pub unmarked_stop : (limit : Limit) (count : ℕ) (r : Reading R) (s : Tracked S) (stop : PartStop F) (t : Tracked S) → StopsAt remaining (RefusesTracked refuses) limit count r s stop t
      → StopsAt remaining refuses limit count r s.sink stop t.sink × (t.cursor ≡ s.cursor)
  unmarked_stop limit count r s Full t (same, all) = ((sink_same s t same, all), cursor_same s t same)
  unmarked_stop limit count r s Late t (same, before, late) = ((sink_same s t same, before, late), cursor_same s t same)
  unmarked_stop limit count r s End t (same, before, end) = ((sink_same s t same, before, end), cursor_same s t same)
  unmarked_stop limit count r s (Frame (Truncated held)) t (same, before, cut, is_held, open_end) = ((sink_same s t same, before, cut, is_held, open_end), cursor_same s t same)
  unmarked_stop limit count r s (Frame (Read error)) t (same, before, going) = ((sink_same s t same, before, going), cursor_same s t same)
  unmarked_stop limit count r s (Frame (Write sent error)) t never = absurd never
  unmarked_stop limit count r s (Frame TooLong) t never = absurd never
  unmarked_stop limit count r s TooMany t (same, before, many) = ((sink_same s t same, before, many), cursor_same s t same)
  unmarked_stop limit count r s (Refused why) t (before, (p, next, full, room, early, (refused, tracked))) = ((before, (p, next, full, room, early, refused)), tracked)

  -- reading a part into a sink with a cursor has the effect on the sink of reading it into the sink alone
  pub unmarked : (limit : Limit) (old new : Reading R) (before count : ℕ) (s : Tracked S) (stop : PartStop F) (t : Tracked S)
      → ReadsPart remaining failures (TakesTracked takes) (RefusesTracked refuses) limit old new before count s stop t
      → ReadsPart remaining failures takes refuses limit old new before count s.sink stop t.sink
  unmarked limit old new before count s stop t reads =
      let taken = reads.taken in
      record {
        payloads = reads.payloads;
        last = reads.last.sink;
        taken = record {
          bytes = taken.bytes;
          full = taken.full;
          early = taken.early;
          wanted = taken.wanted;
          taken = (unmarked_all s before reads.payloads reads.last taken.taken).0;
          counted = taken.counted;
        };
        stops = (unmarked_stop limit count new reads.last stop t reads.stops).0;
        leaves = reads.leaves;
        counts = reads.counts;
      }

  -- and the cursor advances over the payloads of the part
  pub tracked_after : (limit : Limit) (old new : Reading R) (before count : ℕ) (s : Tracked S) (stop : PartStop F) (t : Tracked S)
      → (reads : ReadsPart remaining failures (TakesTracked takes) (RefusesTracked refuses) limit old new before count s stop t) → t.cursor ≡ cursor_after s.cursor reads.payloads
  tracked_after limit old new before count s stop t reads =
      (unmarked_stop limit count new reads.last stop t reads.stops).1 ∙ (unmarked_all s before reads.payloads reads.last reads.taken.taken).1
