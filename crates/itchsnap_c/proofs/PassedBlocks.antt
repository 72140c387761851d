-- The blocks that are passed before a time.
use Rattle.std.proofs.Common.{◌≡◌, ◌⊎◌, inl, inr, ℕ, ◌+◌, ◌-◌, ◌*◌, ◌^◌, ◌≤◌, min, List, [], ◌∷◌, ◌++◌, length, Option, None, Some, IfSome, refl, sym, ap, ◌∙◌, subst, arith, length-append}
use Rattle.std.specs.List.{AllByRecursion}
use Rattle.std.specs.Io.KnownBytes.{Consumes, IsAtEnd, prepend_known}
use Rattle.itch_frame.specs.Blocks.{block, blocks, Ends, IsFull, Open}
use Rattle.itch_frame.specs.Counting.{failed}
use Rattle.itch_frame.specs.Reading.{Reading, bytes_left}
use Rattle.itch_frame.specs.declared.fault.FrameFault.TheVariants.{Read, Truncated, Write, TooLong}
use Rattle.itch_frame.specs.declared.tally.Failures.{Failures}
use Rattle.itch_day.specs.Limits.{IsNotLate}
use Rattle.itch_day.specs.DayCursors.{RefusesTracked, TakesTracked, first_cursor, cursor_after, cursor_past}
use Rattle.itch_day.specs.Parts.{Counts, ReadsPart, StopsAt}
use Rattle.itch_day.specs.declared.limit.Limit.{Limit}
use Rattle.itch_day.specs.declared.cursor.DayCursor.{DayCursor}
use Rattle.itch_day.specs.declared.tracked.Tracked.{Tracked}
use Rattle.itch_day.specs.declared.stop.PartStop.{PartStop}
use Rattle.itch_day.specs.declared.stop.PartStop.TheVariants.{Full, Late, End, Frame, TooMany, Refused}
use Rattle.itch_day.proofs.DayCursors.{tracked_after}
use Rattle.itchsnap_c.specs.Times.{Finds, IsPassed, before}

length-block : (p : List ℕ) → length (block p) ≡ length p + 2
length-block p = omega arith

-- the end of the blocks before a cursor
offset_after : (cursor : DayCursor) (ps : List (List ℕ)) → cursor.offset ≤ 2 ^ 64 - 1 → DayCursor.offset (cursor_after cursor ps) ≡ min (cursor.offset + length (blocks ps)) (2 ^ 64 - 1)
offset_after cursor [] within = omega (arith, within)
offset_after cursor (p ∷ ps) within =
    let rest = offset_after (cursor_past cursor p) ps (omega arith) in omega (arith, rest, length-append (block p) (blocks ps), length-block p)

many_bytes : (ps : List (List ℕ)) → AllByRecursion IsFull ps → 3 * length ps ≤ length (blocks ps)
many_bytes [] full = omega arith
many_bytes (p ∷ ps) full =
    let rest = many_bytes ps full.1 in
    let some = full.0.0 in
    omega (arith, rest, some, length-append (block p) (blocks ps), length-block p)

each_passed : (limit : Limit) (ps : List (List ℕ)) → AllByRecursion IsFull ps → AllByRecursion (IsNotLate limit) ps → AllByRecursion (IsPassed limit) ps
each_passed limit [] full early = tt
each_passed limit (p ∷ ps) full early = ((full.0, early.0), each_passed limit ps full.1 early.1)

no_number : {n : ℕ} → None ≡ Some n → ⊥
no_number {n} h = cc

-- the rest begins with the block that is held
record Begins (p rest : List ℕ) : Type 0 where
  pub more : List ℕ
  pub is : rest ≡ block p ++ more

begins : (held p rest : List ℕ) (o : Option (List ℕ)) → held ≡ block p → prepend_known held o ≡ Some rest → Begins p rest
begins held p rest None same is = absurd (never is) where
  never : None ≡ Some rest → ⊥
  never h = cc
begins held p rest (Some more) same is = record { more = more; is = sym (one is) ∙ ap (λ h. h ++ more) same } where
  one : {xs ys : List ℕ} → Some xs ≡ Some ys → xs ≡ ys
  one {xs} {ys} h = cc

abbrev pub Nothing : {S F : Type 0} → S → ℕ → List ℕ → F → S → Type 0
Nothing s number payload why t = ⊥

-- All messages are passed up to the first late one, if no read of the bytes fails.
module _ {R S F : Type 0} (remaining : R → Option (List ℕ)) (failures : R → Failures) (takes : S → ℕ → List ℕ → S → Type 0) (none : Failures) (error_free : none.last ≡ None)
    (never_fails : (r : R) → failures r ≡ none) (bytes : List ℕ) (short : length bytes ≤ 2 ^ 64 - 1) (time : ℕ) (old new : Reading R) (known : bytes_left remaining old ≡ Some bytes) (count : ℕ)
    (s t : Tracked S) (first : s.cursor ≡ first_cursor) (stop : PartStop F)
    (reads : ReadsPart remaining failures (TakesTracked takes) (RefusesTracked Nothing) (before time) old new 0 count s stop t) where
  record Left : Type 0 where
    pub rest : List ℕ
    pub is : bytes_left remaining new ≡ Some rest
    pub whole : bytes ≡ blocks reads.payloads ++ rest

  left_of : (o : Option (List ℕ)) → bytes_left remaining new ≡ o → Consumes (Some bytes) o (blocks reads.payloads) → Left
  left_of None is never = absurd never
  left_of (Some rest) is whole = record { rest = rest; is = is; whole = whole }

  left : Left
  left = left_of (bytes_left remaining new) refl (subst (λ o. Consumes o (bytes_left remaining new) (blocks reads.payloads)) known reads.taken.bytes)

  within : length (blocks reads.payloads) ≤ length bytes
  within = omega (arith, ap length left.whole, length-append (blocks reads.payloads) left.rest)

  offset_is : t.cursor.offset ≡ length (blocks reads.payloads)
  offset_is =
      let after = ap DayCursor.offset (tracked_after remaining failures takes Nothing (before time) old new 0 count s stop t reads ∙ ap (λ m. cursor_after m reads.payloads) first) in
      let size = offset_after first_cursor reads.payloads (omega arith) in
      omega (arith, after, size, within, short)

  pub late_found : stop ≡ Late → Finds (before time) bytes (Some t.cursor.offset)
  late_found is = by_stop (subst (λ w. StopsAt remaining (RefusesTracked Nothing) (before time) count new reads.last w t) is reads.stops) where
    by_stop : StopsAt {F = F} remaining (RefusesTracked Nothing) (before time) count new reads.last Late t → Finds (before time) bytes (Some t.cursor.offset)
    by_stop (same, wanted, (p, next, full, few, late)) =
        let starts = begins new.held p left.rest (remaining new.reader) next.0.1 left.is in (
          reads.payloads,
          left.rest,
          record { whole = left.whole; each = each_passed (before time) reads.payloads reads.taken.full reads.taken.early },
          (p, starts.more, starts.is, full, late),
          offset_is,
        )

  ended : (w : PartStop F) → (w ≡ Late → ⊥) → StopsAt remaining (RefusesTracked Nothing) (before time) count new reads.last w t → Counts w (failures old.reader) (failures new.reader)
      → Ends left.rest ⊎ Open left.rest
  ended Full other (same, (most, is, all)) counts = absurd (no_number is)
  ended Late other stops counts = absurd (other refl)
  ended End other (same, wanted, inl (at, held, at_end)) counts = inl (inl (subst IsAtEnd left.is at_end))
  ended End other (same, wanted, inr next) counts =
      let starts = begins new.held [] left.rest (remaining new.reader) next.0.1 left.is in inl (inr (starts.more, starts.is))
  ended (Frame (Truncated held)) other (same, wanted, cut, is_held, some) counts = inr (subst (λ o. IfSome o (λ b. Open b × (held ≡ length b))) left.is some).0
  ended (Frame (Read error)) other (same, wanted, going) counts = absurd (clash (sym error_free ∙ ap Failures.last (sym (never_fails new.reader) ∙ counts))) where
    clash : None ≡ Failures.last (failed error (failures old.reader)) → ⊥
    clash h = cc
  ended (Frame (Write sent error)) other never counts = absurd never
  ended (Frame TooLong) other never counts = absurd never
  ended TooMany other (same, wanted, (p, next, full, many)) counts =
      let least = many_bytes reads.payloads reads.taken.full in
      absurd (omega (arith, many, reads.taken.counted, least, within, short))
  ended (Refused why) other (wanted, (p, next, full, room, early, (never, tracked))) counts = absurd never

  pub none_found : (stop ≡ Late → ⊥) → Finds (before time) bytes None
  none_found other = (
    reads.payloads,
    left.rest,
    record { whole = left.whole; each = each_passed (before time) reads.payloads reads.taken.full reads.taken.early },
    ended stop other reads.stops reads.counts,
  )
