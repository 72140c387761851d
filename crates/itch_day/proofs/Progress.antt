-- The effect of reading a part so far, and one more block.
use Rattle.std.proofs.Common.{◌≡◌, ◌≢◌, ℕ, ◌+◌, ◌-◌, ◌^◌, ◌<◌, ◌≤◌, List, [], ◌∷◌, ◌++◌, length, zero, suc, Option, None, Some, Ok, Err, refl, sym, ap, subst, ◌∙◌, arith, length-append}
use Rattle.std.proofs.KnownBytes.{Consumes-nil, Consumes-kept, Consumes-trans}
use Rattle.std.specs.Io.KnownBytes.{Consumes}
use Rattle.itch_frame.specs.Blocks.{blocks, IsFull}
use Rattle.itch_frame.specs.Reading.{Reading, bytes_left, StaysAsEnded}
use Rattle.itch_frame.specs.declared.reader.BlockStage.{BlockStage}
use Rattle.itch_frame.specs.declared.reader.BlockStage.TheVariants.{Ended, Cut}
use Rattle.itch_frame.specs.declared.tally.Failures.{Failures}
use Rattle.itch_frame.proofs.BlockLemmas.{blocks-append, consumed_more, each-append, each-push}
use Rattle.itch_day.specs.declared.limit.Limit.{Limit}
use Rattle.itch_day.specs.declared.stop.PartStop.{PartStop}
use Rattle.itch_day.specs.declared.stop.PartStop.TheVariants.{Full, Late, End, Frame, TooMany, Refused}
use Rattle.itch_day.specs.Limits.{IsBefore, IsNotLate, IsWithin, most_of}
use Rattle.itch_day.specs.Sinks.{TakesAll}
use Rattle.itch_day.specs.Parts.{Counts, Leaves, Passes, ReadsPart, Steps, StopsAt, TakesSome}

-- fewer messages than possible are fewer than requested
pub before_most : (limit : Limit) (count : ℕ) → count < most_of limit.after → IsBefore limit count
before_most limit count within = by_after limit.after within where
  by_after : (after : Option ℕ) → count < most_of after → IsBefore (record { after = after; until = limit.until }) count
  by_after None within = tt
  by_after (Some most) within = within

-- the maximum number of messages is the requested number, since no day has more
pub full_at : (wanted : Option ℕ) (count : ℕ) → most_of wanted ≤ count → count ≤ 10 ^ 19 - 1 → (most : ℕ) × (wanted ≡ Some most) × (most ≤ count)
full_at None count all few = absurd (omega (arith, all, few))
full_at (Some most) count all few = (most, refl, all)

-- one more than a number below the requested one
pub within_more : (limit : Limit) (count more : ℕ) → IsBefore limit count → more ≡ count + 1 → IsWithin limit more
within_more limit count more before is = by_after limit.after before where
  by_after : (after : Option ℕ) → IsBefore (record { after = after; until = limit.until }) count → IsWithin (record { after = after; until = limit.until }) more
  by_after None before = tt
  by_after (Some most) before = omega (arith, before, is)

-- one more payload is taken
pub takes_push : {T : Type 0} (takes : T → ℕ → List ℕ → T → Type 0) (t : T) (count : ℕ) (ps : List (List ℕ)) (u : T) (p : List ℕ) (v : T) (number : ℕ)
    → TakesAll takes t count ps u → number ≡ count + length ps + 1 → takes u number p v → TakesAll takes t count (ps ++ p ∷ []) v
takes_push takes t count [] u p v number same is next =
    let first : number ≡ count + 1 = omega (arith, is) in
    (v, subst (λ x. takes x (count + 1) p v) same (subst (λ k. takes u k p v) first next), refl)
takes_push takes t count (q ∷ ps) u p v number (mid, first, rest) is next =
    (mid, first, takes_push takes mid (count + 1) ps u p v number rest (omega (arith, is)) next)

-- payloads taken in two parts are taken in one
pub takes_both : {T : Type 0} (takes : T → ℕ → List ℕ → T → Type 0) (t u v : T) (count more : ℕ) (ps qs : List (List ℕ)) → TakesAll takes t count ps u → more ≡ count + length ps → TakesAll takes u more qs v
    → TakesAll takes t count (ps ++ qs) v
takes_both takes t u v count more [] qs same is next =
    let first : more ≡ count = omega (arith, is) in
    subst (λ x. TakesAll takes x count qs v) same (subst (λ k. TakesAll takes u k qs v) first next)
takes_both takes t u v count more (p ∷ ps) qs (mid, first, rest) is next =
    (mid, first, takes_both takes mid u v (count + 1) more ps qs rest (omega (arith, is)) next)

-- no more were taken than requested, by the last part that took some
within_both : (limit : Limit) (cursor tracked : ℕ) (ps qs : List (List ℕ)) → (0 < length ps → IsWithin limit cursor) → (0 < length qs → IsWithin limit tracked) → tracked ≡ cursor + length qs
    → 0 < length (ps ++ qs) → IsWithin limit tracked
within_both limit cursor tracked ps [] first second is some =
    let same : tracked ≡ cursor = omega (arith, is) in
    subst (λ (n : ℕ). IsWithin limit n) (sym same) (first (omega (arith, some, length-append ps [])))
within_both limit cursor tracked ps (q ∷ qs) first second is some = second (omega arith)

module _ {R : Type 0} (old mid new : Reading R) where
  -- a stage in which no message is returned was not the first one
  not_first : (stage : BlockStage) (count : ℕ) → (count ≡ 0 → mid ≡ old) → (0 < count → old.stage ≢ stage) → mid.stage ≢ stage → old.stage ≢ stage
  not_first stage zero unread given is first = is (ap (λ (r : Reading R). r.stage) (unread refl) ∙ first)
  not_first stage (suc count) unread given is first = given (omega arith) first

  -- one more message
  pub passes_on : (count more : ℕ) → Passes old count mid → (new.held ≡ []) × (new.stage ≡ BlockStage.Given) × (mid.stage ≢ Ended) × (mid.stage ≢ Cut) → more ≡ count + 1 → Passes old more new
  passes_on count more passes leaves is = record {
    unread = λ none. absurd (omega (arith, none, is));
    given = λ some. (
      leaves.0,
      leaves.1,
      not_first Ended count passes.unread (λ some. (passes.given some).2) leaves.2,
      not_first Cut count passes.unread (λ some. (passes.given some).3) leaves.3,
    );
  }

  -- some more messages, possibly none
  pub passes_both : (count more : ℕ) → Passes old count mid → Passes mid more new → Passes old (count + more) new
  passes_both count zero first second =
      let P : Reading R → Type 0 = Passes old (count + 0) in
      let same : count ≡ count + 0 = omega arith in
      subst P (sym (second.unread refl)) (subst (λ (n : ℕ). Passes old n mid) same first)
  passes_both count (suc more) first second = record {
    unread = λ none. absurd (omega (arith, none));
    given = λ some. let later = second.given (omega arith) in (
      later.0,
      later.1,
      not_first Ended count first.unread (λ some. (first.given some).2) later.2,
      not_first Cut count first.unread (λ some. (first.given some).3) later.3,
    );
  }

  -- in a stage in which no message is returned, there was none before
  still_first : (stage : BlockStage) (count : ℕ) → (count ≡ 0 → mid ≡ old) → (0 < count → old.stage ≢ stage) → (mid.stage ≡ stage → new ≡ mid) → old.stage ≡ stage → (count ≡ 0) × (new ≡ old)
  still_first stage zero unread given stays is = (refl, stays (ap (λ (r : Reading R). r.stage) (unread refl) ∙ is) ∙ unread refl)
  still_first stage (suc count) unread given stays is = absurd (given (omega arith) is)

  pub stays_first : (count : ℕ) → Passes old count mid → StaysAsEnded mid new → (old.stage ≡ Ended → (count ≡ 0) × (new ≡ old)) × (old.stage ≡ Cut → (count ≡ 0) × (new ≡ old))
  stays_first count passes stays = (
    still_first Ended count passes.unread (λ some. (passes.given some).2) stays.0,
    still_first Cut count passes.unread (λ some. (passes.given some).3) stays.1,
  )

-- the reader after a stop other than `Full`
pub leaves_at : {R T F : Type 0} (remaining : R → Option (List ℕ)) (refuses : T → ℕ → List ℕ → F → T → Type 0) (limit : Limit) (old new : Reading R) (count : ℕ) (k : ℕ) (t u : T) (stop : PartStop F)
    → IsBefore limit k → StopsAt remaining refuses limit k new t stop u
    → (old.stage ≡ Ended → (count ≡ 0) × (new ≡ old)) × (old.stage ≡ Cut → (count ≡ 0) × (new ≡ old)) → Leaves old count stop new
leaves_at remaining refuses limit old new count k t u Full before stops stays = absurd (too_many stops.1) where
  too_many : (most : ℕ) × (limit.after ≡ Some most) × (most ≤ k) → ⊥
  too_many (most, is, within) =
      let P : Option ℕ → Type 0 = λ after. IsBefore (record { after = after; until = limit.until }) k in
      let below : k < most = subst P is before in omega (arith, below, within)
leaves_at remaining refuses limit old new count k t u Late before stops stays = stays
leaves_at remaining refuses limit old new count k t u End before stops stays = stays
leaves_at remaining refuses limit old new count k t u (Frame fault) before stops stays = stays
leaves_at remaining refuses limit old new count k t u TooMany before stops stays = stays
leaves_at remaining refuses limit old new count k t u (Refused why) before stops stays = stays

-- a counted failure after a reading without failures
pub counts_on : {F : Type 0} (stop : PartStop F) (old mid new : Failures) → mid ≡ old → Counts stop mid new → Counts stop old new
counts_on stop old mid new same counts = subst (λ f. Counts stop f new) same counts

module _ {R T F : Type 0} (remaining : R → Option (List ℕ)) (failures : R → Failures) (takes : T → ℕ → List ℕ → T → Type 0) (refuses : T → ℕ → List ℕ → F → T → Type 0) (limit : Limit) where
  -- no message is taken at first
  pub going_first : (r : Reading R) (cursor : ℕ) (t : T) → TakesSome remaining failures takes limit r r cursor cursor t t
  going_first r cursor t = record {
    payloads = [];
    taken = record { bytes = Consumes-nil (bytes_left remaining r); full = tt; early = tt; wanted = λ some. absurd (omega arith); taken = refl; counted = omega arith };
    passes = record { unread = λ _. refl; given = λ some. absurd (omega arith) };
    uncounted = refl;
  }

  -- then one more is taken
  pub going_on : (old mid new : Reading R) (before cursor tracked : ℕ) (t u v : T) → TakesSome remaining failures takes limit old mid before cursor t u → IsBefore limit cursor → Steps remaining failures takes refuses limit mid new cursor tracked u (Ok tt) v
      → TakesSome remaining failures takes limit old new before tracked t v
  going_on old mid new before cursor tracked t u v going few (p, off, full, (room, early, next, past), held, given, unended, uncut, uncounted) =
      let ps = going.payloads in
      let so_far = going.taken in
      record {
        payloads = ps ++ p ∷ [];
        taken = record {
          bytes = consumed_more (bytes_left remaining old) (bytes_left remaining mid) (bytes_left remaining new) ps p so_far.bytes off;
          full = each-push IsFull ps p so_far.full full;
          early = each-push (IsNotLate limit) ps p so_far.early early;
          wanted = λ some. within_more limit cursor tracked few past;
          taken = takes_push takes t before ps u p v (cursor + 1) so_far.taken (ap (λ k. k + 1) so_far.counted) next;
          counted = omega (arith, past, so_far.counted, length-append ps (p ∷ []));
        };
        passes = passes_on old mid new (length ps) (length (ps ++ p ∷ [])) going.passes (held, given, unended, uncut) (length-append ps (p ∷ []));
        uncounted = uncounted ∙ going.uncounted;
      }

  -- then some more are taken, possibly none
  pub going_both : (old mid new : Reading R) (before cursor tracked : ℕ) (t u v : T) → TakesSome remaining failures takes limit old mid before cursor t u
      → TakesSome remaining failures takes limit mid new cursor tracked u v → TakesSome remaining failures takes limit old new before tracked t v
  going_both old mid new before cursor tracked t u v first second =
      let ps = first.payloads in
      let qs = second.payloads in
      record {
        payloads = ps ++ qs;
        taken = record {
          bytes = subst (Consumes (bytes_left remaining old) (bytes_left remaining new)) (sym (blocks-append ps qs))
              (Consumes-trans (bytes_left remaining old) (bytes_left remaining mid) (bytes_left remaining new) (blocks ps) (blocks qs) first.taken.bytes second.taken.bytes);
          full = each-append IsFull ps qs first.taken.full second.taken.full;
          early = each-append (IsNotLate limit) ps qs first.taken.early second.taken.early;
          wanted = λ some. within_both limit cursor tracked ps qs first.taken.wanted second.taken.wanted second.taken.counted some;
          taken = takes_both takes t u v before cursor ps qs first.taken.taken first.taken.counted second.taken.taken;
          counted = omega (arith, first.taken.counted, second.taken.counted, length-append ps qs);
        };
        passes = subst (λ n. Passes old n new) (sym (length-append ps qs)) (passes_both old mid new (length ps) (length qs) first.passes second.passes);
        uncounted = second.uncounted ∙ first.uncounted;
      }

  -- and there the part stops
  pub going_stops : (old mid new : Reading R) (before cursor tracked : ℕ) (t u v : T) (stop : PartStop F) → TakesSome remaining failures takes limit old mid before cursor t u → IsBefore limit cursor
      → Steps remaining failures takes refuses limit mid new cursor tracked u (Err stop) v → ReadsPart remaining failures takes refuses limit old new before tracked t stop v
  going_stops old mid new before cursor tracked t u v stop going few (same, keeps, stops, stays, counts) =
      let so_far = going.taken in
      record {
        payloads = going.payloads;
        last = u;
        taken = record {
          bytes = Consumes-kept (bytes_left remaining old) (bytes_left remaining mid) (bytes_left remaining new) (blocks going.payloads) so_far.bytes keeps;
          full = so_far.full;
          early = so_far.early;
          wanted = λ some. subst (λ (m : ℕ). IsWithin limit m) (sym same) (so_far.wanted some);
          taken = so_far.taken;
          counted = same ∙ so_far.counted;
        };
        stops = subst (λ (m : ℕ). StopsAt remaining refuses limit m new u stop v) (sym same) stops;
        leaves = leaves_at remaining refuses limit old new (length going.payloads) cursor u v stop few stops (stays_first old mid new (length going.payloads) going.passes stays);
        counts = counts_on stop (failures old.reader) (failures mid.reader) (failures new.reader) going.uncounted counts;
      }

  -- or the requested number was taken
  pub going_full : (old now : Reading R) (before cursor : ℕ) (t u : T) → TakesSome remaining failures takes limit old now before cursor t u → most_of limit.after ≤ cursor → cursor ≤ 10 ^ 19 - 1
      → ReadsPart remaining failures takes refuses limit old now before cursor t Full u
  going_full old now before cursor t u going all few = record {
    payloads = going.payloads;
    last = u;
    taken = going.taken;
    stops = (refl, full_at limit.after cursor all few);
    leaves = going.passes;
    counts = going.uncounted;
  }
