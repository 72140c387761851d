-- The result of reading a feed determines facts about a feed whose bytes are known.
use Rattle.std.proofs.Common.{◌≡◌, ℕ, ◌+◌, ◌-◌, ◌^◌, ◌<◌, ◌≤◌, ◌==◌, nat_lt, min, Bool, true, false, cond, List, [], ◌∷◌, ◌++◌, map, length, Option, None, Some, IfSome, refl, sym, ap, subst, ◌∙◌, inl, inr, arith, length-append, append-nil, eq-eqb}
use Rattle.std.specs.List.{AllByRecursion}
use Rattle.std.proofs.lemmas.Bool.{ne_eqb, eqb-true}
use Rattle.std.proofs.lemmas.Bool.Decides.{nat_tests}
use Rattle.std.proofs.lemmas.List.{drop-append-le, length-drop, length-map, map-append}
use Rattle.itch_frame.specs.Blocks.{block, blocks, Ends, Open, IsFull, Day}
use Rattle.itch_frame.specs.declared.fault.FrameFault.TheVariants.{Read, Truncated, Write, TooLong}
use Rattle.itch_market.specs.Content.{Content}
use Rattle.itch_market.specs.declared.stop.Stop.{Stop}
use Rattle.itch_market.specs.declared.stop.Stop.TheVariants.{End, Frame, Codec, Rule, TooManyMessages}
use Rattle.itch_market.specs.Stops.{cause_by, cause, cause_at, end_of, last_stop}
use Rattle.itch_market.specs.FirstPlaces.{IsFirst}
use Rattle.itch_market.specs.Replays.{NoCause, TakesOff, IsDecided}
use Rattle.itch_market.proofs.Causes.{cause_after, cause_before}
use Rattle.itch_market.proofs.ReplayedFiles.{refused}
use Rattle.itch_market.proofs.ReplayStops.{after_day, chosen, passed_over, ends_stop, open_stops}
use Rattle.itch_commands.specs.declared.feed_part.FeedPart.{FeedPart}
use Rattle.itch_commands.specs.Joining.{Start, from_number, joined_market, TakesFeed, IsOfMessage, HaltsFeed, EndsFeed, feed_cause_at, feed_stop_at, StopsFeed}

module _ (b : ℕ) (start : Start) where
  abbrev most : ℕ
  most = 10 ^ 19 - 1 - b

  at_last : (ps : List (List ℕ)) (rest : List ℕ) (k : ℕ) → k ≡ min most (length ps) → feed_stop_at b start ps rest k ≡ Some (last_stop most ps rest)
  at_last ps rest k last = chosen (k == min most (length ps)) (Some (last_stop most ps rest)) (feed_cause_at b start ps k) (eq-eqb k (min most (length ps)) last)

  before_last : (ps : List (List ℕ)) (rest : List ℕ) (k : ℕ) → k < min most (length ps) → feed_stop_at b start ps rest k ≡ feed_cause_at b start ps k
  before_last ps rest k early =
      passed_over (k == min most (length ps)) (Some (last_stop most ps rest)) (feed_cause_at b start ps k) (ne_eqb k (min most (length ps)) (λ same. omega arith))

  -- none of the payloads that were taken stops it
  none_before : (done more : List (List ℕ)) (k : ℕ) → NoCause start.0 (from_number b start.1 done) → k < length done → feed_cause_at b start (done ++ more) k ≡ None
  none_before done more k none within = by_number (nat_lt (b + k + 1) start.1) refl where
    by_number : (t : Bool) → nat_lt (b + k + 1) start.1 ≡ t → cond t None (cause_at start.0 (from_number b start.1 (done ++ more)) (k - (start.1 - 1 - b))) ≡ None
    by_number true below = refl
    by_number false above =
        let low : start.1 ≤ b + k + 1 = grind (arith, nat_tests) in
        let room : start.1 - 1 - b ≤ length done = omega (arith, low, within) in
        let size : length (from_number b start.1 done) ≡ length done - (start.1 - 1 - b) = length-drop (start.1 - 1 - b) done in
        let inside : k - (start.1 - 1 - b) < length (from_number b start.1 done) = omega (arith, low, within, size) in
        ap (λ qs. cause_at start.0 qs (k - (start.1 - 1 - b))) (drop-append-le (start.1 - 1 - b) done more room)
        ∙ cause_before start.0 (from_number b start.1 done) more (k - (start.1 - 1 - b)) inside ∙ none (k - (start.1 - 1 - b)) inside

  -- the next payload is checked against the market after them
  next_cause : (done : List (List ℕ)) (p : List ℕ) (more : List (List ℕ)) → start.1 ≤ b + length done + 1 → feed_cause_at b start (done ++ p ∷ more) (length done) ≡ cause (joined_market b start done) p
  next_cause done p more low =
      let above : nat_lt (b + length done + 1) start.1 ≡ false = grind (arith, nat_tests) in
      let room : start.1 - 1 - b ≤ length done = omega (arith, low) in
      let size : length done - (start.1 - 1 - b) ≡ length (from_number b start.1 done) = sym (length-drop (start.1 - 1 - b) done) in
      passed_over (nat_lt (b + length done + 1) start.1) None (cause_at start.0 (from_number b start.1 (done ++ p ∷ more)) (length done - (start.1 - 1 - b))) above
      ∙ ap (λ qs. cause_at start.0 qs (length done - (start.1 - 1 - b))) (drop-append-le (start.1 - 1 - b) done (p ∷ more) room)
      ∙ ap (cause_at start.0 (from_number b start.1 done ++ p ∷ more)) size
      ∙ cause_after start.0 (from_number b start.1 done) p more

  -- all payloads are taken
  first_end : (ps : List (List ℕ)) (rest : List ℕ) → length ps ≤ most → NoCause start.0 (from_number b start.1 ps) → IsFirst (feed_stop_at b start ps rest) (length ps) (end_of rest)
  first_end ps rest few none = record {
    here =
        at_last ps rest (length ps) (omega arith)
        ∙ ap Some (passed_over (nat_lt most (length ps)) TooManyMessages (end_of rest) (grind (arith, nat_tests)));
    before = λ k early. before_last ps rest k (omega arith) ∙ ap (λ qs. feed_cause_at b start qs k) (sym (append-nil ps)) ∙ none_before ps [] k none early;
  }

  -- a payload is not taken
  first_fault : (done : List (List ℕ)) (p : List ℕ) (more : List (List ℕ)) (rest : List ℕ) (why : Stop) → length done < most → NoCause start.0 (from_number b start.1 done)
      → start.1 ≤ b + length done + 1 → cause (joined_market b start done) p ≡ Some why → IsFirst (feed_stop_at b start (done ++ p ∷ more) rest) (length done) why
  first_fault done p more rest why few none low is =
      let longer : length done < length (done ++ p ∷ more) = omega (arith, length-append done (p ∷ more)) in
      record {
        here = before_last (done ++ p ∷ more) rest (length done) (omega arith) ∙ next_cause done p more low ∙ is;
        before = λ k early. before_last (done ++ p ∷ more) rest k (omega arith) ∙ none_before done (p ∷ more) k none early;
      }

  -- the greatest number was taken, and there is one more
  first_over : (done : List (List ℕ)) (p : List ℕ) (more : List (List ℕ)) (rest : List ℕ) → length done ≡ most → NoCause start.0 (from_number b start.1 done)
      → IsFirst (feed_stop_at b start (done ++ p ∷ more) rest) (length done) TooManyMessages
  first_over done p more rest many none =
      let longer : length done < length (done ++ p ∷ more) = omega (arith, length-append done (p ∷ more)) in
      record {
        here =
            at_last (done ++ p ∷ more) rest (length done) (omega arith)
            ∙ ap Some (chosen (nat_lt most (length (done ++ p ∷ more))) TooManyMessages (end_of rest) (grind (arith, nat_tests)));
        before = λ k early. before_last (done ++ p ∷ more) rest k (omega arith) ∙ none_before done (p ∷ more) k none early;
      }

module _ (read : List ℕ → List ℕ) (b : ℕ) (start : Start) where
  none_ends : (bytes : List ℕ) (ps : List (List ℕ)) (rest : List ℕ) → Day bytes ps rest → length ps ≤ 10 ^ 19 - 1 - b → NoCause start.0 (from_number b start.1 (map read ps))
      → StopsFeed read b start bytes (length ps) (end_of rest)
  none_ends bytes ps rest day few none =
      let size : length (map read ps) ≡ length ps = length-map ps read in
      record {
        payloads = ps;
        rest = rest;
        day = day;
        first =
            subst (λ k. IsFirst (feed_stop_at b start (map read ps) rest) k (end_of rest)) size
            (first_end b start (map read ps) rest (omega (arith, size, few)) none);
      }

  -- the payloads as they are read, with one that stops the reading
  stopped_at : (done : List (List ℕ)) (p : List ℕ) (more : List (List ℕ)) (rest : List ℕ) (why : Stop) → IsFirst (feed_stop_at b start (map read done ++ read p ∷ map read more) rest) (length (map read done)) why
      → IsFirst (feed_stop_at b start (map read (done ++ p ∷ more)) rest) (length done) why
  stopped_at done p more rest why first =
      subst (λ k. IsFirst (feed_stop_at b start (map read (done ++ p ∷ more)) rest) k why) (length-map done read)
      (subst (λ qs. IsFirst (feed_stop_at b start qs rest) (length (map read done)) why) (sym (map-append read done (p ∷ more))) first)

  one_stops : (bytes unread : List ℕ) (done : List (List ℕ)) (p : List ℕ) (why : Stop) → bytes ≡ blocks done ++ (block p ++ unread) → AllByRecursion IsFull done → IsFull p
      → length done < 10 ^ 19 - 1 - b → NoCause start.0 (from_number b start.1 (map read done)) → start.1 ≤ b + length done + 1 → cause (joined_market b start (map read done)) (read p) ≡ Some why
      → StopsFeed read b start bytes (length done) why
  one_stops bytes unread done p why whole full_done full few none low is = found (after_day bytes unread done p whole full_done full) where
    size : length (map read done) ≡ length done
    size = length-map done read

    found : (more : List (List ℕ)) × (rest : List ℕ) × Day bytes (done ++ p ∷ more) rest → StopsFeed read b start bytes (length done) why
    found (more, rest, day) = record {
      payloads = done ++ p ∷ more;
      rest = rest;
      day = day;
      first =
          stopped_at done p more rest why
          (first_fault b start (map read done) (read p) (map read more) rest why (omega (arith, size, few)) none (omega (arith, size, low)) is);
    }

  full_stops : (bytes unread : List ℕ) (done : List (List ℕ)) (p : List ℕ) → bytes ≡ blocks done ++ (block p ++ unread) → AllByRecursion IsFull done → IsFull p → length done ≡ 10 ^ 19 - 1 - b
      → NoCause start.0 (from_number b start.1 (map read done)) → StopsFeed read b start bytes (length done) TooManyMessages
  full_stops bytes unread done p whole full_done full many none = found (after_day bytes unread done p whole full_done full) where
    found : (more : List (List ℕ)) × (rest : List ℕ) × Day bytes (done ++ p ∷ more) rest → StopsFeed read b start bytes (length done) TooManyMessages
    found (more, rest, day) = record {
      payloads = done ++ p ∷ more;
      rest = rest;
      day = day;
      first =
          stopped_at done p more rest TooManyMessages
          (first_over b start (map read done) (read p) (map read more) rest (length-map done read ∙ many) none);
    }

-- the rest of the feed follows the payloads that were taken
module _ (read : List ℕ → List ℕ) (part : FeedPart) (start : Start) (b c : List ℕ) (ps : List (List ℕ)) (takes : TakesFeed read part start (Some b) (Some c) ps) where
  abbrev Stops : Stop → Type 0
  Stops = StopsFeed read part.before start b (length ps)

  few : length ps ≤ 10 ^ 19 - 1 - part.before
  few = omega (arith, takes.few)

  not_full : (part.before + length ps + 1 == 10 ^ 19) ≡ false → length ps < 10 ^ 19 - 1 - part.before
  not_full room = is_less part.before (length ps) takes.few room where
    is_less : (b l : ℕ) → b + l + 1 ≤ 10 ^ 19 → (b + l + 1 == 10 ^ 19) ≡ false → l < 10 ^ 19 - 1 - b
    is_less b l few room = grind (arith, nat_tests)

  is_full : (part.before + length ps + 1 == 10 ^ 19) ≡ true → length ps ≡ 10 ^ 19 - 1 - part.before
  is_full full = let same : part.before + length ps + 1 ≡ 10 ^ 19 = eqb-true (part.before + length ps + 1) (10 ^ 19) full in omega (arith, same)

  one_more : (new : Option (List ℕ)) (p : List ℕ) → TakesOff (Some c) new p → (unread : List ℕ) × (b ≡ blocks ps ++ (block p ++ unread))
  one_more None p off = absurd off.1
  one_more (Some d) p off = (d, takes.bytes ∙ ap (λ t. blocks ps ++ t) off.1)

  ended : Ends c → Stops End
  ended ends = subst Stops (ends_stop c ends) (none_ends read part.before start b ps c (record { whole = takes.bytes; each = takes.full; last = inl ends }) few takes.taken)

  cut : Open c → Stops (Frame (Truncated (length c)))
  cut open_block = subst Stops (open_stops c open_block) (none_ends read part.before start b ps c (record { whole = takes.bytes; each = takes.full; last = inr open_block }) few takes.taken)

  abbrev so_far : Content
  so_far = joined_market part.before start (map read ps)

  decided_by : (new : Option (List ℕ)) (why : Stop) → (IsOfMessage why → start.1 ≤ part.before + length ps + 1) → HaltsFeed read part.limit (part.before + length ps + 1 == 10 ^ 19) so_far (Some c) new why
      → IsDecided why → Stops why
  decided_by new End low (inl at_end) decided = ended (inl at_end)
  decided_by None End low (inr empty) decided = absurd empty
  decided_by (Some d) End low (inr empty) decided = ended (inr (d, empty))
  decided_by new (Frame (Truncated held)) low (open_block, count) decided = subst (λ h. Stops (Frame (Truncated h))) (sym count) (cut open_block)
  decided_by new (Frame (Read error)) low halts decided = absurd decided
  decided_by new (Frame (Write sent error)) low halts decided = absurd halts
  decided_by new (Frame TooLong) low halts decided = absurd halts
  decided_by new (Codec f) low (p, off, room, is) decided =
      let more = one_more new p off in
      one_stops read part.before start b more.0 ps p (Codec f) more.1 takes.full off.0 (not_full room) takes.taken (low tt) (ap (λ o. cause_by o so_far (read p)) is)
  decided_by new (Rule why) low (p, off, room, refuses, in_time) decided =
      let more = one_more new p off in
      one_stops read part.before start b more.0 ps p (Rule why) more.1 takes.full off.0 (not_full room) takes.taken (low tt) (refused so_far (read p) why decided refuses)
  decided_by new TooManyMessages low (p, off, full) decided =
      let more = one_more new p off in
      full_stops read part.before start b more.0 ps p more.1 takes.full off.0 (is_full full) takes.taken

-- the stop is that of the feed
pub feed_decided : (read : List ℕ → List ℕ) (part : FeedPart) (start : Start) (old new : Option (List ℕ)) (ps : List (List ℕ)) (why : Stop) → EndsFeed read part start old new ps why
    → IfSome old (λ b. IsDecided why → StopsFeed read part.before start b (length ps) why)
feed_decided read part start None new ps why ends = tt
feed_decided read part start (Some b) new ps why (before, None, takes, low, halts) = absurd takes.bytes
feed_decided read part start (Some b) new ps why (before, Some c, takes, low, halts) = λ decided. decided_by read part start b c ps takes new why low halts decided
