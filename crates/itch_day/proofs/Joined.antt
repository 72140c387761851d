-- Two parts of a day, read one after another, are one part.
use Rattle.std.proofs.Common.{◌≡◌, ◌≢◌, ℕ, ◌+◌, ◌<◌, ◌≤◌, nat_le, true, List, [], ◌∷◌, ◌++◌, length, zero, suc, ◌⊎◌, inl, inr, Option, None, Some, refl, sym, ap, subst, ◌∙◌, arith, length-append}
use Rattle.std.specs.List.{AllByRecursion}
use Rattle.std.specs.Io.KnownBytes.{Consumes}
use Rattle.std.proofs.KnownBytes.{Consumes-trans}
use Rattle.std.proofs.lemmas.Bool.Decides.{nat_tests}
use Rattle.itch_codec.specs.Messages.{fault, message_of}
use Rattle.itch_codec.specs.Headers.{time_of}
use Rattle.itch_frame.specs.Blocks.{blocks, IsFull}
use Rattle.itch_frame.specs.Reading.{Reading, bytes_left}
use Rattle.itch_frame.specs.declared.reader.BlockStage.{BlockStage}
use Rattle.itch_frame.specs.declared.reader.BlockStage.TheVariants.{Ended, Cut}
use Rattle.itch_frame.specs.declared.tally.Failures.{Failures}
use Rattle.itch_frame.proofs.BlockLemmas.{blocks-append, each-append}
use Rattle.itch_day.specs.declared.limit.Limit.{Limit}
use Rattle.itch_day.specs.declared.stop.PartStop.{PartStop}
use Rattle.itch_day.specs.declared.stop.PartStop.TheVariants.{Full, Late, End, Frame, TooMany, Refused}
use Rattle.itch_day.specs.Limits.{IsBefore, IsNotLate, IsNoEarlier, IsWithin, is_from, is_late}
use Rattle.itch_day.specs.Sinks.{TakesAll}
use Rattle.itch_day.proofs.Progress.{takes_both}
use Rattle.itch_day.specs.Parts.{Counts, GoesOn, GoesOnTo, Leaves, Passes, ReadsPart, StopsAt}

le_earlier : (before until time : ℕ) → before ≤ until → nat_le until time ≡ true → nat_le before time ≡ true
le_earlier before until time later late = grind (arith, nat_tests)

from_earlier : (before until : ℕ) (time : Option ℕ) → before ≤ until → is_from until time ≡ true → is_from before time ≡ true
from_earlier before until None later late = cc
from_earlier before until (Some time) later late = le_earlier before until time later late

-- a payload that is late for a later time is late for an earlier one
later_late : (before until : Option ℕ) (payload : List ℕ) → IsNoEarlier before until → is_late until (message_of payload) ≡ true → is_late before (message_of payload) ≡ true
later_late before None payload later late = cc
later_late None (Some until) payload later late = absurd later
later_late (Some before) (Some until) payload later late = from_earlier before until (time_of (message_of payload)) later late

-- payloads that are not late are not late for a later time
pub still_early : (one other : Limit) (ps : List (List ℕ)) → IsNoEarlier one.until other.until → AllByRecursion (IsNotLate one) ps → AllByRecursion (IsNotLate other) ps
still_early one other [] later early = tt
still_early one other (p ∷ ps) later early = (λ late. early.0 (late.0, later_late one.until other.until p later late.1), still_early one other ps later early.1)

-- the reader of blocks after two parts: the second part did not stop at once if it requests no more than the first one took
module _ {R F : Type 0} (old mid new : Reading R) (first : PartStop F) (n k : ℕ) (goes_on : GoesOn first) (left : Leaves old n first mid) where
  -- after the end of the messages, none was taken
  first_stage : (stage : BlockStage) → (n ≡ 0 → mid ≡ old) → (0 < n → old.stage ≢ stage) → old.stage ≡ stage → (n ≡ 0) × (mid ≡ old)
  first_stage stage unread given is = by_count n refl where
    by_count : (count : ℕ) → count ≡ n → (n ≡ 0) × (mid ≡ old)
    by_count zero same = (sym same, unread (sym same))
    by_count (suc count) same = absurd (given (omega (arith, same)) is)

  first_left : (old.stage ≡ Ended → (n ≡ 0) × (mid ≡ old)) × (old.stage ≡ Cut → (n ≡ 0) × (mid ≡ old))
  first_left = by_stop first goes_on left where
    by_stop : (stop : PartStop F) → GoesOn stop → Leaves old n stop mid → (old.stage ≡ Ended → (n ≡ 0) × (mid ≡ old)) × (old.stage ≡ Cut → (n ≡ 0) × (mid ≡ old))
    by_stop Full on passes = (first_stage Ended passes.unread (λ some. (passes.given some).2), first_stage Cut passes.unread (λ some. (passes.given some).3))
    by_stop Late on stays = stays
    by_stop End on stays = stays
    by_stop (Frame fault) on stays = absurd on
    by_stop TooMany on stays = absurd on
    by_stop (Refused why) on stays = absurd on

  -- so none was taken in the second part either
  both_stage : (stage : BlockStage) → (old.stage ≡ stage → (n ≡ 0) × (mid ≡ old)) → (mid.stage ≡ stage → (k ≡ 0) × (new ≡ mid)) → old.stage ≡ stage → (n + k ≡ 0) × (new ≡ old)
  both_stage stage one other is =
      let (none, same) = one is in
      let (no_more, still) = other (ap (λ (r : Reading R). r.stage) same ∙ is) in
      (omega (arith, none, no_more), still ∙ same)

  both_left : (mid.stage ≡ Ended → (k ≡ 0) × (new ≡ mid)) × (mid.stage ≡ Cut → (k ≡ 0) × (new ≡ mid)) → (old.stage ≡ Ended → (n + k ≡ 0) × (new ≡ old)) × (old.stage ≡ Cut → (n + k ≡ 0) × (new ≡ old))
  both_left stays = (both_stage Ended first_left.0 stays.0, both_stage Cut first_left.1 stays.1)

  still_not : (stage : BlockStage) → (old.stage ≡ stage → (n ≡ 0) × (mid ≡ old)) → mid.stage ≢ stage → old.stage ≢ stage
  still_not stage one not is = not (ap (λ (r : Reading R). r.stage) (one is).1 ∙ is)

  more_passed : 0 < k → Passes mid k new → Passes old (n + k) new
  more_passed more passes =
      let (held, given, unended, uncut) = passes.given more in
      record { unread = λ none. absurd (omega (arith, none, more)); given = λ some. (held, given, still_not Ended first_left.0 unended, still_not Cut first_left.1 uncut) }

  -- the requested number was passed: the first part did not stop earlier, or there are more
  both_passed : (0 < k) ⊎ (first ≡ Full) → Passes mid k new → Passes old (n + k) new
  both_passed (inl more) passes = more_passed more passes
  both_passed (inr full) passes = by_count k refl where
    by_count : (count : ℕ) → count ≡ k → Passes old (n + k) new
    by_count zero same =
        let passed : Passes old n mid = subst (λ s. Leaves old n s mid) full left in
        let unmoved : new ≡ mid = passes.unread (sym same) in
        let none : n ≡ n + k = omega (arith, same) in
        subst (λ r. Passes old (n + k) r) (sym unmoved) (subst (λ c. Passes old c mid) none passed)
    by_count (suc count) same = more_passed (omega (arith, same)) passes

  pub leaves_both : (second : PartStop F) → (second ≡ Full → (0 < k) ⊎ (first ≡ Full)) → Leaves mid k second new → Leaves old (n + k) second new
  leaves_both Full more passes = both_passed (more refl) passes
  leaves_both Late more stays = both_left stays
  leaves_both End more stays = both_left stays
  leaves_both (Frame fault) more stays = both_left stays
  leaves_both TooMany more stays = both_left stays
  leaves_both (Refused why) more stays = both_left stays

-- no read failed in a part that another one may follow
pub none_failed : {F : Type 0} (stop : PartStop F) (old new : Failures) → GoesOn stop → Counts stop old new → new ≡ old
none_failed Full old new on same = same
none_failed Late old new on same = same
none_failed End old new on same = same
none_failed (Frame fault) old new on same = absurd on
none_failed TooMany old new on same = absurd on
none_failed (Refused why) old new on same = absurd on

module _ {R T F : Type 0} (remaining : R → Option (List ℕ)) (failures : R → Failures) (takes : T → ℕ → List ℕ → T → Type 0) (refuses : T → ℕ → List ℕ → F → T → Type 0) (one other : Limit) where
  -- the stop of the first part leaves the sink unchanged, if another part may follow
  last_sink : (count : ℕ) (r : Reading R) (t u : T) (stop : PartStop F) → GoesOn stop → StopsAt remaining refuses one count r t stop u → u ≡ t
  last_sink count r t u Full on stops = stops.0
  last_sink count r t u Late on stops = stops.0
  last_sink count r t u End on stops = stops.0
  last_sink count r t u (Frame fault) on stops = absurd on
  last_sink count r t u TooMany on stops = absurd on
  last_sink count r t u (Refused why) on stops = absurd on

  -- no more messages are requested than were taken, so none more were taken, unless the first part stopped for the same reason
  more_or_full : (count after : ℕ) (n : ℕ) (r : Reading R) (t u : T) (first second : PartStop F) → (first ≡ Full) ⊎ IsBefore other count → after ≡ count + n → StopsAt remaining refuses other after r t second u
      → second ≡ Full → (0 < n) ⊎ (first ≡ Full)
  more_or_full count after n r t u first second (inl full) is stops last = inr full
  more_or_full count after n r t u first second (inr before) is stops last = inl (some (subst (λ s. StopsAt remaining refuses other after r t s u) last stops).1) where
    some : (most : ℕ) × (other.after ≡ Some most) × (most ≤ after) → 0 < n
    some (most, wanted, within) =
        let P : Option ℕ → Type 0 = λ a. IsBefore (record { after = a; until = other.until }) count in
        let below : count < most = subst P wanted before in omega (arith, below, within, is)

  -- the two parts have the effect of one reading of the second part, from where the first one began
  pub joined : (old mid new : Reading R) (before cursor tracked : ℕ) (t u v : T) (first second : PartStop F) → GoesOn first → IsNoEarlier one.until other.until → IsWithin other cursor
      → (first ≡ Full) ⊎ IsBefore other cursor
      → ReadsPart remaining failures takes refuses one old mid before cursor t first u → ReadsPart remaining failures takes refuses other mid new cursor tracked u second v
      → ReadsPart remaining failures takes refuses other old new before tracked t second v
  joined old mid new before cursor tracked t u v first second on later within more begun then_on =
      let ps = begun.payloads in
      let qs = then_on.payloads in
      let counted : cursor ≡ before + length ps = begun.taken.counted in
      let counted_on : tracked ≡ cursor + length qs = then_on.taken.counted in
      let kept : u ≡ begun.last = last_sink cursor mid begun.last u first on begun.stops in
      record {
        payloads = ps ++ qs;
        last = then_on.last;
        taken = record {
          bytes = subst (Consumes (bytes_left remaining old) (bytes_left remaining new)) (sym (blocks-append ps qs))
              (Consumes-trans (bytes_left remaining old) (bytes_left remaining mid) (bytes_left remaining new) (blocks ps) (blocks qs) begun.taken.bytes then_on.taken.bytes);
          full = each-append IsFull ps qs begun.taken.full then_on.taken.full;
          early = each-append (IsNotLate other) ps qs (still_early one other ps later begun.taken.early) then_on.taken.early;
          wanted = λ some. within_both qs (then_on.taken.wanted) counted_on;
          taken = takes_both takes t begun.last then_on.last before cursor ps qs begun.taken.taken counted (subst (λ x. TakesAll takes x cursor qs then_on.last) kept then_on.taken.taken);
          counted = omega (arith, counted, counted_on, length-append ps qs);
        };
        stops = then_on.stops;
        leaves = subst (λ c. Leaves old c second new) (sym (length-append ps qs))
            (leaves_both old mid new first (length ps) (length qs) on begun.leaves second (more_or_full cursor tracked (length qs) new then_on.last v first second more counted_on then_on.stops) then_on.leaves);
        counts = subst (λ f. Counts second f (failures new.reader)) (none_failed first (failures old.reader) (failures mid.reader) on begun.counts) then_on.counts;
      } where
        within_both : (qs : List (List ℕ)) → (0 < length qs → IsWithin other tracked) → tracked ≡ cursor + length qs → IsWithin other tracked
        within_both [] wanted is = subst (λ c. IsWithin other c) (let same : cursor ≡ tracked = omega (arith, is) in same) within
        within_both (q ∷ qs) wanted is = wanted (omega arith)

  -- the same in the form for callers
  pub joined_to : (old mid new : Reading R) (before cursor tracked : ℕ) (t u v : T) (first second : PartStop F) → GoesOnTo one first cursor other
      → ReadsPart remaining failures takes refuses one old mid before cursor t first u → ReadsPart remaining failures takes refuses other mid new cursor tracked u second v
      → ReadsPart remaining failures takes refuses other old new before tracked t second v
  joined_to old mid new before cursor tracked t u v first second to = joined old mid new before cursor tracked t u v first second to.goes_on to.later to.within to.more
