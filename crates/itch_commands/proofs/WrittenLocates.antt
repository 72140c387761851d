-- The list of a set's locates, run by run.
use Rattle.std.proofs.Common.{◌≡◌, ℕ, ◌<◌, ◌≤◌, ◌+◌, ◌≢◌, ◌==◌, Bool, true, false, nat_lt, not, ◌||◌, List, [], ◌∷◌, ◌++◌, None, Some, Result, Ok, Err, IfOk, refl, sym, ap, ap₂, subst, ◌∙◌, append_assoc, arith}
use Rattle.std.specs.List.{AllByRecursion, list_any}
use Rattle.std.proofs.lemmas.Bool.Decides.{nat_tests}
use Rattle.std.proofs.lemmas.List.Folds.{list_any-append}
use Rattle.itch_book.proofs.Lists.{by_test, All-weaker_rec, All-append_rec}
use Rattle.itch_market.specs.Wanted.{Wanted, has}
use Rattle.itch_commands.specs.Locates.{AreApart, IsListText, is_in, list_text, range_text}
use Rattle.itch_commands.specs.Runs.{IsWritten, before_next, comma}

-- a consequence of the value of a result
pub ok_so : {X E : Type 0} (P Q : X → Type 0) (r : Result X E) → ((x : X) → P x → Q x) → IfOk r P → IfOk r Q
ok_so P Q (Ok x) so is = so x is
ok_so P Q (Err e) so is = tt

pub written_first : (set : Wanted) → IsWritten set [] true None 0
written_first set = record { ranges = []; spelled = refl; between = refl; apart = tt; before = tt; start = omega arith; members = λ l less. absurd (omega arith) }

one_more_text : (rs : List (ℕ × ℕ)) (r : ℕ × ℕ) → list_text (rs ++ r ∷ []) ≡ list_text rs ++ (before_next rs ++ range_text r)
one_more_text [] r = refl
one_more_text (q ∷ []) r = refl
one_more_text (q ∷ (p ∷ ps)) r =
    ap (λ t. range_text q ++ (44 ∷ t)) (one_more_text (p ∷ ps) r) ∙ sym (append_assoc (range_text q) (44 ∷ list_text (p ∷ ps)) (before_next (p ∷ ps) ++ range_text r))

one_more_apart : (rs : List (ℕ × ℕ)) (r : ℕ × ℕ) → AreApart rs → AllByRecursion (λ q. q.1 + 1 < r.0) rs → r.0 ≤ r.1 → AreApart (rs ++ r ∷ [])
one_more_apart [] r apart before rises = rises
one_more_apart (q ∷ []) r apart before rises = (apart, before.0, rises)
one_more_apart (q ∷ (p ∷ ps)) r apart before rises = (apart.0, apart.1, one_more_apart (p ∷ ps) r apart.2 before.1 rises)

one_more_between : (rs : List (ℕ × ℕ)) (r : ℕ × ℕ) → 44 ∷ [] ≡ before_next (rs ++ r ∷ [])
one_more_between [] r = refl
one_more_between (q ∷ qs) r = refl

or_false : (b : Bool) → (b || false) ≡ b
or_false true = refl
or_false false = refl

or_true : (b : Bool) → (b || true) ≡ true
or_true true = refl
or_true false = refl

-- no range that ends before has a locate
none_there : (rs : List (ℕ × ℕ)) (l : ℕ) → AllByRecursion (λ r. r.1 < l) rs → list_any (is_in l) rs ≡ false
none_there [] l below = refl
none_there (r ∷ rs) l below =
    let out : is_in l r ≡ false = let less : r.1 < l = below.0 in grind (arith, nat_tests) in
    ap₂ ◌||◌ out (none_there rs l below.1)

-- a locate below the next one after this, or this one
below_more : {P : Type 0} (l next : ℕ) → l < next + 1 → (l ≡ next → P) → (l < next → P) → P
below_more l next less same other = by_test (l == next)
    (λ is. same (let e : l ≡ next = grind (arith, nat_tests) in e))
    (λ no. other (let d : l ≢ next = grind (arith, nat_tests) in omega arith))

module _ (set : Wanted) (text : List ℕ) (is_first : Bool) (next : ℕ) where
  -- a locate that is not in the set, while no run has begun
  pub passed_over : IsWritten set text is_first None next → false ≡ has set next → IsWritten set text is_first None (next + 1)
  passed_over so_far out = record {
    ranges = so_far.ranges;
    spelled = so_far.spelled;
    between = so_far.between;
    apart = so_far.apart;
    before = All-weaker_rec (λ r. r.1 + 1 < next) (λ r. r.1 + 1 < next + 1) (λ r less. omega (arith, less)) so_far.ranges so_far.before;
    start = omega arith;
    members = λ l less. below_more l next less
        (λ same. let below = All-weaker_rec (λ r. r.1 + 1 < next) (λ r. r.1 < next) (λ r less. omega (arith, less)) so_far.ranges so_far.before in
        subst (λ k. has set k ≡ (list_any (is_in k) so_far.ranges || false)) (sym same) (sym out ∙ sym (or_false (list_any (is_in next) so_far.ranges) ∙ none_there so_far.ranges next below)))
        (λ before. so_far.members l before);
  }

  -- a run begins
  pub run_begins : IsWritten set text is_first None next → true ≡ has set next → IsWritten set text is_first (Some next) (next + 1)
  run_begins so_far within = record {
    ranges = so_far.ranges;
    spelled = so_far.spelled;
    between = so_far.between;
    apart = so_far.apart;
    before = so_far.before;
    start = omega arith;
    members = λ l less. below_more l next less
        (λ same. let here : not (nat_lt next next) ≡ true = grind (arith, nat_tests) in
        subst (λ k. has set k ≡ (list_any (is_in k) so_far.ranges || not (nat_lt k next))) (sym same)
        (sym within ∙ sym (ap (λ b. list_any (is_in next) so_far.ranges || b) here ∙ or_true (list_any (is_in next) so_far.ranges))))
        (λ before. let off : not (nat_lt l next) ≡ false = grind (arith, nat_tests) in
        so_far.members l before ∙ ap (λ b. list_any (is_in l) so_far.ranges || b) (sym off));
  }

  -- the run continues
  pub run_goes_on : (begin : ℕ) → IsWritten set text is_first (Some begin) next → true ≡ has set next → IsWritten set text is_first (Some begin) (next + 1)
  run_goes_on begin so_far within = record {
    ranges = so_far.ranges;
    spelled = so_far.spelled;
    between = so_far.between;
    apart = so_far.apart;
    before = so_far.before;
    start = omega (arith, so_far.start);
    members = λ l less. below_more l next less
        (λ same. let here : not (nat_lt next begin) ≡ true = let after : begin < next = so_far.start in grind (arith, nat_tests) in
        subst (λ k. has set k ≡ (list_any (is_in k) so_far.ranges || not (nat_lt k begin))) (sym same)
        (sym within ∙ sym (ap (λ b. list_any (is_in next) so_far.ranges || b) here ∙ or_true (list_any (is_in next) so_far.ranges))))
        (λ before. so_far.members l before);
  }

  module _ (begin last : ℕ) (so_far : IsWritten set text is_first (Some begin) next) (ends : last + 1 ≡ next) where
    abbrev more : List (ℕ × ℕ)
    more = so_far.ranges ++ (begin, last) ∷ []

    spelled_on : text ++ (comma is_first ++ range_text (begin, last)) ≡ list_text more
    spelled_on = ap₂ (λ t s. t ++ (s ++ range_text (begin, last))) so_far.spelled so_far.between ∙ sym (one_more_text so_far.ranges (begin, last))

    apart_on : AreApart more
    apart_on = one_more_apart so_far.ranges (begin, last) so_far.apart so_far.before (omega (arith, so_far.start))

    below_next : AllByRecursion (λ r. r.1 < next) more
    below_next =
        let begun : begin < next = so_far.start in
        All-append_rec (λ r. r.1 < next) so_far.ranges ((begin, last) ∷ []) (All-weaker_rec (λ r. r.1 + 1 < begin) (λ r. r.1 < next) (λ r less. omega (arith, less, begun)) so_far.ranges so_far.before) (omega arith, tt)

    members_on : (l : ℕ) → l < next → has set l ≡ list_any (is_in l) more
    members_on l less =
        let here : (is_in l (begin, last) || false) ≡ not (nat_lt l begin) = grind (arith, nat_tests) in
        so_far.members l less ∙ ap (λ b. list_any (is_in l) so_far.ranges || b) (sym here) ∙ sym (list_any-append (is_in l) so_far.ranges ((begin, last) ∷ []))

    -- it ends before a locate that is not in the set
    pub run_ends : (new : List ℕ) → new ≡ text ++ (comma is_first ++ range_text (begin, last)) → false ≡ has set next → IsWritten set new false None (next + 1)
    run_ends new is out = record {
      ranges = more;
      spelled = is ∙ spelled_on;
      between = one_more_between so_far.ranges (begin, last);
      apart = apart_on;
      before = All-weaker_rec (λ r. r.1 < next) (λ r. r.1 + 1 < next + 1) (λ r less. omega (arith, less)) more below_next;
      start = omega arith;
      members = λ l less. below_more l next less
          (λ same. subst (λ k. has set k ≡ (list_any (is_in k) more || false)) (sym same) (sym out ∙ sym (or_false (list_any (is_in next) more) ∙ none_there more next below_next)))
          (λ before. members_on l before ∙ sym (or_false (list_any (is_in l) more)));
    }

    -- it ends with the last locate
    pub last_run : (new : List ℕ) → new ≡ text ++ (comma is_first ++ range_text (begin, last)) → next ≡ 65536 → IsListText set new
    last_run new is all = (more, is ∙ spelled_on, apart_on, λ l less. members_on l (omega arith))

-- no run has begun after the last locate
pub no_last_run : (set : Wanted) (text : List ℕ) (is_first : Bool) → IsWritten set text is_first None 65536 → IsListText set text
no_last_run set text is_first so_far = (so_far.ranges, so_far.spelled, so_far.apart, λ l less. so_far.members l less ∙ or_false (list_any (is_in l) so_far.ranges))
