-- A part of a day that a market takes: the market and the reader of blocks afterwards.
use Rattle.std.proofs.Common.{◌≡◌, ℕ, ◌-◌, ◌^◌, ◌<◌, ◌≤◌, ◌==◌, Bool, true, false, List, [], ◌∷◌, map, length, zero, suc, Option, None, Some, IfSome, inl, inr, refl, sym, ap, subst, ◌∙◌, arith, eq-eqb, IsSome}
use Rattle.std.proofs.lemmas.Bool.{ne_eqb}
use Rattle.std.specs.List.{AllByRecursion}
use Rattle.std.specs.Io.KnownBytes.{Consumes}
use Rattle.std.proofs.KnownBytes.{Keeps-refl}
use Rattle.itch_codec.specs.Messages.{fault, message_of}
use Rattle.itch_frame.specs.Blocks.{IsFull, blocks}
use Rattle.itch_frame.specs.Reading.{Reading, bytes_left, passed}
use Rattle.itch_frame.specs.declared.tally.Failures.{Failures}
use Rattle.itch_frame.specs.declared.fault.FrameFault.{FrameFault}
use Rattle.itch_frame.specs.declared.fault.FrameFault.TheVariants.{Read, Truncated, Write, TooLong}
use Rattle.itch_day.specs.declared.limit.Limit.{Limit}
use Rattle.itch_day.specs.declared.stop.PartStop.{PartStop as Part}
use Rattle.itch_day.specs.declared.stop.PartStop.TheVariants as part
use Rattle.itch_day.specs.Limits.{IsBefore, IsEarly, IsNotLate, IsWithin, counted as wanted, is_late}
use Rattle.itch_day.specs.Parts.{Leaves, ReadsPart, StopsAt}
use Rattle.itch_day.specs.Passing.{left_by}
use Rattle.itch_market.specs.Content.{Content, laid}
use Rattle.itch_market.specs.DayParts.{HaltsEarly, HaltsPart, IsEnough, LeavesPartOf, PartOf, TakesEarly}
use Rattle.itch_market.specs.GoodMarkets.{IsGood}
use Rattle.itch_market.specs.Runs.{after}
use Rattle.itch_market.specs.Replays.{CountsFirst, Halts, LeavesReaderFirst, Refuses, ReplaysFirst, Takes}
use Rattle.itch_market.specs.Takings.{RefusesMessage, TakesMessage, reason_of}
use Rattle.itch_market.specs.declared.refused.Refused.{Refused}
use Rattle.itch_market.specs.declared.refused.Refused.TheVariants as is
use Rattle.itch_market.specs.declared.stop.Stop.{Stop}
use Rattle.itch_market.specs.declared.stop.Stop.TheVariants as stop
use Rattle.itch_market.proofs.Causes.{none_clean, refuses-laid}
use Rattle.itch_market.proofs.AppliedMessages.{AreApplied, are_applied}
use Rattle.itch_market.proofs.LeftReaders.{late_left, stop_counts, stop_left}
use Rattle.itch_day.proofs.PassedBlocks.{ends_here, passed_off}

-- a message that is not late is early
is_early : (limit : Limit) (p : List ℕ) → fault p ≡ None → IsNotLate limit p → IsEarly limit p
is_early limit p clean not_late = by_test (is_late limit.until (message_of p)) refl where
  by_test : (late : Bool) → is_late limit.until (message_of p) ≡ late → IsEarly limit p
  by_test true is = absurd (not_late (clean, is))
  by_test false is = is

are_early : (limit : Limit) (ps : List (List ℕ)) → AllByRecursion (λ p. fault p ≡ None) ps → AllByRecursion (IsNotLate limit) ps → AllByRecursion (IsEarly limit) ps
are_early limit [] clean early = tt
are_early limit (p ∷ ps) clean early = (is_early limit p clean.0 early.0, are_early limit ps clean.1 early.1)

-- the requested number was taken
pub full_count : (most count n : ℕ) (after : Option ℕ) → after ≡ Some most → (0 < n → IfSome after (λ k. count ≤ k)) → n ≡ count → (wanted : ℕ) × (after ≡ Some wanted) × (wanted ≤ count) → count ≡ most
full_count most count n after is within counted (wanted, has, all) = by_count n refl where
  same : wanted ≡ most
  same = let e : Some wanted ≡ Some most = sym has ∙ is in cc

  by_count : (k : ℕ) → k ≡ n → count ≡ most
  by_count zero none = omega (arith, none, counted, all, same)
  by_count (suc k) some =
      let few : count ≤ most = subst (λ o. IfSome o (λ k. count ≤ k)) is (within (omega (arith, some))) in omega (arith, few, all, same)

module _ {R : Type 0} (remaining : R → Option (List ℕ)) (limit : Limit) (old new : Reading R) (count : ℕ) (m last n : Content) (ps : List (List ℕ))
    (applied : AreApplied m ps last) (bytes : Consumes (bytes_left remaining old) (bytes_left remaining new) (blocks ps)) (full : AllByRecursion IsFull ps) (early : AllByRecursion (IsNotLate limit) ps)
    (counts : length ps ≡ count) (few : count ≤ 10 ^ 19 - 1) where
  pub takes_early : n ≡ last → TakesEarly limit m (bytes_left remaining old) (bytes_left remaining new) count ps n
  takes_early same = (
    record { bytes = bytes; full = full; none = applied.none; fits = applied.fits; left = same ∙ applied.left },
    counts,
    few,
    are_early limit ps (none_clean m ps applied.none) early,
  )

  halts_so : (to : Option (List ℕ)) (why : Stop) → n ≡ last → IsBefore limit count → HaltsEarly limit (count == 10 ^ 19 - 1) (after m (map message_of ps)) (bytes_left remaining new) to why
      → HaltsPart limit m (bytes_left remaining old) to count why n
  halts_so to why same before halts = (before, ps, bytes_left remaining new, takes_early same, halts)

  room : count < 10 ^ 19 - 1 → (count == 10 ^ 19 - 1) ≡ false
  room some = ne_eqb count (10 ^ 19 - 1) (λ same. omega (arith, some, same))

  in_frame : (fault : FrameFault) → StopsAt remaining RefusesMessage limit count new last (part.Frame fault) n → HaltsPart limit m (bytes_left remaining old) (bytes_left remaining new) count (stop.Frame fault) n
  in_frame (Truncated held) (same, before, cut, is_held, some) = halts_so (bytes_left remaining new) (stop.Frame (Truncated held)) same before some
  in_frame (Read error) (same, before, going) = halts_so (bytes_left remaining new) (stop.Frame (Read error)) same before (Keeps-refl (bytes_left remaining new))
  in_frame (Write sent error) never = absurd never
  in_frame TooLong never = absurd never

  part_of : (why : Part Refused) → StopsAt remaining RefusesMessage limit count new last why n → (0 < length ps → IsWithin limit count)
      → PartOf limit m (bytes_left remaining old) (bytes_left remaining (left_by why new)) count (reason_of why) n
  part_of part.Full (same, (most, wanted, all)) within =
      let is : count ≡ most = full_count most count (length ps) limit.after wanted within counts (most, wanted, all) in
      (ps, bytes_left remaining new, takes_early same, inl (wanted ∙ ap Some (sym is), refl))
  part_of part.Late (same, before, (p, next, some, few_before, late)) within =
      (ps, bytes_left remaining new, takes_early same, inr (inl (before, (p, (some, passed_off new remaining p next), late))))
  part_of part.End (same, before, end) within = halts_so (bytes_left remaining (passed new)) stop.End same before (ends_here new remaining end)
  part_of (part.Frame fault) stops within = in_frame fault stops
  part_of part.TooMany (same, before, (p, next, some, many)) within =
      halts_so (bytes_left remaining (passed new)) stop.TooManyMessages same before (p, (some, passed_off new remaining p next), eq-eqb count (10 ^ 19 - 1) many)
  part_of (part.Refused (is.Codec f)) (before, (p, next, some, few_before, not_late, (same, faulty))) within =
      halts_so (bytes_left remaining (passed new)) (stop.Codec f) same before (p, (some, passed_off new remaining p next), room few_before, faulty)
  part_of (part.Refused (is.Rule reason)) (before, (p, next, some, few_before, not_late, (same, refuses))) within =
      halts_so (bytes_left remaining (passed new)) (stop.Rule reason) same before (
        p,
        (some, passed_off new remaining p next),
        room few_before,
        refuses-laid (after m (map message_of ps)) p reason applied.good (subst (λ x. Refuses x p reason) applied.left refuses),
        is_early limit p refuses.0 not_late,
      )

-- the effect of reading a part of a day into a market, for any limit
pub is_part : {R : Type 0} (remaining : R → Option (List ℕ)) (failures : R → Failures) (limit : Limit) (old new : Reading R) (begun mark : ℕ) (m n : Content) (why : Part Refused) → IsGood m → laid m ≡ m → begun ≡ 0
    → ReadsPart remaining failures TakesMessage RefusesMessage limit old new begun mark m why n → mark ≤ 10 ^ 19 - 1
    → PartOf limit m (bytes_left remaining old) (bytes_left remaining (left_by why new)) mark (reason_of why) n
is_part remaining failures limit old new begun mark m n why good in_place first reads few =
    let ps = reads.payloads in
    let counted : length ps ≡ mark = omega (arith, reads.taken.counted, first) in
    part_of remaining limit old new mark m reads.last n ps (are_applied m m reads.last begun ps good (sym in_place) reads.taken.taken) reads.taken.bytes reads.taken.full reads.taken.early counted few why
    reads.stops reads.taken.wanted

-- a message can be late only if a time is given
late_given : (until : Option ℕ) (p : List ℕ) → is_late until (message_of p) ≡ true → IsSome until
late_given None p late = cc
late_given (Some time) p late = refl

module _ {R : Type 0} (remaining : R → Option (List ℕ)) (failures : R → Failures) (limit : Limit) (old new : Reading R) (count : ℕ) (last n : Content) where
  -- the reader of blocks afterwards
  pub part_left : (why : Part Refused) → StopsAt remaining RefusesMessage limit count new last why n → Leaves old count why new → LeavesPartOf limit old count (reason_of why) (left_by why new)
  part_left part.Full (same, (most, wanted, all)) passes = inl (subst IsSome (sym wanted) refl, (passes.unread, passes.given))
  part_left part.Late (same, before, (p, next, some, few, (clean, late))) stays =
      inr (late_given limit.until p late, late_left remaining failures RefusesMessage limit old new count count last n (same, before, (p, next, some, few, (clean, late))) stays)
  part_left part.End stops stays = stop_left remaining failures RefusesMessage limit old new count count last n part.End (λ late. absurd (cc)) stops stays
  part_left (part.Frame fault) stops stays = stop_left remaining failures RefusesMessage limit old new count count last n (part.Frame fault) (λ late. absurd (cc)) stops stays
  part_left part.TooMany stops stays = stop_left remaining failures RefusesMessage limit old new count count last n part.TooMany (λ late. absurd (cc)) stops stays
  part_left (part.Refused (is.Codec f)) stops stays =
      stop_left remaining failures RefusesMessage limit old new count count last n (part.Refused (is.Codec f)) (λ late. absurd (cc)) stops stays
  part_left (part.Refused (is.Rule reason)) stops stays =
      stop_left remaining failures RefusesMessage limit old new count count last n (part.Refused (is.Rule reason)) (λ late. absurd (cc)) stops stays

-- the reader after a part, for any limit
pub is_part_left : {R : Type 0} (remaining : R → Option (List ℕ)) (failures : R → Failures) (limit : Limit) (old new : Reading R) (begun mark : ℕ) (m n : Content) (why : Part Refused) → begun ≡ 0
    → ReadsPart remaining failures TakesMessage RefusesMessage limit old new begun mark m why n
    → LeavesPartOf limit old mark (reason_of why) (left_by why new) × CountsFirst (reason_of why) (failures old.reader) (failures (Reading.reader (left_by why new)))
is_part_left remaining failures limit old new begun mark m n why first reads =
    let counted : length reads.payloads ≡ mark = omega (arith, reads.taken.counted, first) in (
      part_left remaining failures limit old new mark reads.last n why reads.stops (subst (λ k. Leaves old k why new) counted reads.leaves),
      stop_counts remaining failures RefusesMessage limit old new mark mark reads.last n why reads.stops reads.counts,
    )

-- a part of a day with a requested number of messages is a replay of the first ones
halts_plain : (limit : Limit) (full : Bool) (m : Content) (old new : Option (List ℕ)) (why : Stop) → HaltsEarly limit full m old new why → Halts full m old new why
halts_plain limit full m old new stop.End halts = halts
halts_plain limit full m old new (stop.Frame fault) halts = halts
halts_plain limit full m old new (stop.Codec f) halts = halts
halts_plain limit full m old new (stop.Rule why) (p, off, room, refuses, early) = (p, off, room, refuses)
halts_plain limit full m old new stop.TooManyMessages halts = halts

pub replays_first : (most : ℕ) (m : Content) (old new : Option (List ℕ)) (count : ℕ) (why : Option Stop) (n : Content) → PartOf (wanted (Some most)) m old new count why n → ReplaysFirst most m old new count why n
replays_first most m old new count (Some why) n (before, ps, mid, (takes, counted, few, early), halts) =
    (before, (ps, mid, takes, counted, few, halts_plain (wanted (Some most)) (count == 10 ^ 19 - 1) (after m (map message_of ps)) mid new why halts))
replays_first most m old new count None n (ps, mid, (takes, counted, few, early), enough) = by_end enough where
  by_end : IsEnough (wanted (Some most)) count mid new → ReplaysFirst most m old new count None n
  by_end (inl (is, same)) = (let e : Some most ≡ Some count = is in cc, few, ps, subst (λ to. Takes m old to ps n) (sym same) takes, counted)
  by_end (inr (inl (before, (p, off, (clean, late))))) = absurd (let never : false ≡ true = late in cc)
  by_end (inr (inr (is, end))) = absurd (let never : Some most ≡ None = is in cc)

none_given : (until : Option ℕ) → until ≡ None → IsSome until → ⊥
none_given None same some = cc
none_given (Some time) same some = cc

pub leaves_first : {R : Type 0} (most : ℕ) (old new : Reading R) (count : ℕ) (why : Option Stop) → LeavesPartOf (wanted (Some most)) old count why new → LeavesReaderFirst old count why new
leaves_first most old new count (Some why) leaves = leaves
leaves_first most old new count None (inl (some, leaves)) = leaves
leaves_first most old new count None (inr (some, leaves)) = absurd (none_given None refl some)
