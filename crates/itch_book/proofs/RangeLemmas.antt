-- The first and the last place in a range of prices.
use Rattle.std.proofs.Common.{◌≡◌, ℕ, ◌^◌, ◌<◌, ◌≤◌, ◌==◌, nat_lt, true, false, List, Option, Some, None, IsSome, option_map, refl, sym, ap, ◌∙◌, subst, arith}
use Rattle.std.specs.declared.cmp.Ordering.{Ordering}
use Rattle.std.specs.Ordering.{nat_cmp, ordering_then, is_gt, is_lt}
use Rattle.std.specs.declared.cmp.Ordering.TheVariants.{Less, Equal, Greater}
use Rattle.std.specs.declared.ops.Bound.{Bound}
use Rattle.std.specs.declared.ops.Bound.TheVariants.{Included, Excluded}
use Rattle.std.specs.BTreeMap.{BTreeMap, get}
use Rattle.std.specs.BTreeMap.Range.{IsInRange, IsRangeOf}
use Rattle.std.specs.Map.Iter.{TakesFirst, TakesLast, deref_pair}
use denote.Ref.{Bor}
use Rattle.std.proofs.lemmas.Bool.{false≢true}
use Rattle.std.proofs.lemmas.Bool.Decides.{nat_tests}
use Rattle.itch_codec.specs.declared.orders.Side.{Side}
use Rattle.itch_codec.specs.declared.orders.Side.TheVariants.{Buy, Sell}
use Rattle.itch_book.specs.Orders.{is_better, is_worse}
use Rattle.itch_book.specs.Indexed.{Place, place_cmp, queue_at, IsNextLevel, IsNextOr, level_entry}
use Rattle.itch_book.proofs.Lists.{by_test}

same_locate : (l p q : ℕ) → place_cmp (l, p) (l, q) ≡ nat_cmp p q
same_locate l p q = ap (λ o. ordering_then o (nat_cmp p q)) (itself l)
  where
    itself : (m : ℕ) → nat_cmp m m ≡ Equal
    itself m = grind (arith, nat_tests)

not_above : (p q : ℕ) → p ≤ q → is_gt (nat_cmp p q) ≡ false
not_above p q h = by_test (nat_lt p q) (λ e. simp e refl) (λ e. let f : (p == q) ≡ true = grind (arith, nat_tests) in simp (e, f) refl)

is_below : (p q : ℕ) → p < q → nat_cmp p q ≡ Less
is_below p q h = let e : nat_lt p q ≡ true = grind (arith, nat_tests) in simp e refl

below_is : (p q : ℕ) → nat_cmp p q ≡ Less → p < q
below_is p q h = by_test (nat_lt p q) (λ e. grind (arith, nat_tests)) (λ e. by_test (p == q)
    (λ f. let no : Equal ≡ Less = simp (e, f) at h in absurd (let no_one : ⊥ = cc in no_one))
    (λ f. let no : Greater ≡ Less = simp (e, f) at h in absurd (let no_one : ⊥ = cc in no_one)))

not_above_is : (p q : ℕ) → is_gt (nat_cmp p q) ≡ false → p ≤ q
not_above_is p q h = by_test (nat_lt p q) (λ e. grind (arith, nat_tests)) (λ e. by_test (p == q)
    (λ f. grind (arith, nat_tests))
    (λ f. let no : true ≡ false = simp (e, f) at h in absurd (false≢true (sym no))))

not_below_is : (p q : ℕ) → is_lt (nat_cmp p q) ≡ false → q ≤ p
not_below_is p q h = by_test (nat_lt p q) (λ e. let no : true ≡ false = simp e at h in absurd (false≢true (sym no))) (λ e. grind (arith, nat_tests))

less_not_above : (o : Ordering) → o ≡ Less → is_gt o ≡ false
less_not_above o h = ap is_gt h

-- a place that is not before another one does not have a lower locate
locate_le : (a b : Place) → is_gt (place_cmp a b) ≡ false → a.0 ≤ b.0
locate_le a b h = by_test (nat_lt a.0 b.0) (λ e. grind (arith, nat_tests)) (λ e. by_test (a.0 == b.0)
    (λ f. grind (arith, nat_tests))
    (λ f. let no : true ≡ false = simp (e, f) at h in absurd (false≢true (sym no))))

-- between two places of a locate
between : (l a b : ℕ) (e : Place) → is_gt (place_cmp (l, a) e) ≡ false → is_gt (place_cmp e (l, b)) ≡ false → l ≡ e.0
between l a b e h k = let x = locate_le (l, a) e h in let y = locate_le e (l, b) k in omega (arith, x, y)

at_locate : (l : ℕ) (e : Place) → l ≡ e.0 → e ≡ (l, e.1)
at_locate l e h = λ i. (sym h i, e.1)

-- the prices of a locate within two bounds are those worse than the last
pub record IsSpan (l : ℕ) (s : Side) (last : Option ℕ) (lo hi : Bound Place) : Type 0 where
  pub holds : (p : ℕ) → p < 2 ^ 32 → is_worse s last p ≡ true → IsInRange place_cmp lo hi (l, p)
  pub locate : (e : Place) → IsInRange place_cmp lo hi e → l ≡ e.0
  pub worse : (p : ℕ) → IsInRange place_cmp lo hi (l, p) → is_worse s last p ≡ true

pub span_all : (l : ℕ) (s : Side) → IsSpan l s None (Included (l, 0)) (Included (l, 4294967295))
span_all l s = record {
  holds = λ p h k. (ap is_gt (same_locate l 0 p) ∙ not_above 0 p (omega arith), ap is_gt (same_locate l p 4294967295) ∙ not_above p 4294967295 (omega arith));
  locate = λ e h. between l 0 4294967295 e h.0 h.1;
  worse = λ p h. refl;
}

pub span_below : (l last : ℕ) → IsSpan l Buy (Some last) (Included (l, 0)) (Excluded (l, last))
span_below l last = record {
  holds = λ p h k. (ap is_gt (same_locate l 0 p) ∙ not_above 0 p (omega arith), same_locate l p last ∙ is_below p last (grind (arith, nat_tests)));
  locate = λ e h. between l 0 last e h.0 (less_not_above (place_cmp e (l, last)) h.1);
  worse = λ p h. let lt = below_is p last (sym (same_locate l p last) ∙ h.1) in grind (arith, nat_tests);
}

pub span_above : (l last : ℕ) → IsSpan l Sell (Some last) (Excluded (l, last)) (Included (l, 4294967295))
span_above l last = record {
  holds = λ p h k. (same_locate l last p ∙ is_below last p (grind (arith, nat_tests)), ap is_gt (same_locate l p 4294967295) ∙ not_above p 4294967295 (omega arith));
  locate = λ e h. between l last 4294967295 e (less_not_above (place_cmp (l, last) e) h.0) h.1;
  worse = λ p h. let lt = below_is last p (sym (same_locate l last p) ∙ h.0) in grind (arith, nat_tests);
}

module _ (m : BTreeMap Place ℕ) (l : ℕ) (last : Option ℕ) (lo hi : Bound Place) (r t : List (Place × ℕ)) (range : IsRangeOf place_cmp lo hi m r) where
  here_at : (s : Side) (e : Place × ℕ) → IsSpan l s last lo hi → IsInRange place_cmp lo hi e.0 → get place_cmp m e.0 ≡ Some e.1 → ((p : ℕ) → p < 2 ^ 32 → is_worse s last p ≡ true → IsSome (queue_at m.entries l p) → is_better s p e.0.1 ≡ false) → IsNextLevel (queue_at m.entries l) s last (level_entry e)
  here_at s e span inside there best =
      let is : e.0 ≡ (l, e.0.1) = at_locate l e.0 (span.locate e.0 inside) in
      record {
        here = subst (λ (a : Place). get place_cmp m a ≡ Some e.1) is there;
        worse = span.worse e.0.1 (subst (IsInRange place_cmp lo hi) is inside);
        best = best;
      }

  pub last_of_range : (found : Option (Bor Place × Bor ℕ)) → IsSpan l Buy last lo hi → TakesLast deref_pair r found t → IsNextOr (queue_at m.entries l) Buy last (option_map level_entry (option_map deref_pair found))
  last_of_range None span took = λ p h k. range.5 took.0 (l, p) (span.holds p h k)
  last_of_range (Some x) span took =
      let e = deref_pair x in
      let inside = range.3 e t took in
      let is : e.0 ≡ (l, e.0.1) = at_locate l e.0 (span.locate e.0 inside.0) in
      here_at Buy e span inside.0 inside.1 (λ p h k some.
      let up = range.4 e t took (l, p) (span.holds p h k) some in
      let le = not_below_is e.0.1 p (sym (ap is_lt (ap (λ (a : Place). place_cmp a (l, p)) is ∙ same_locate l e.0.1 p)) ∙ up) in
      grind (arith, nat_tests))

  pub first_of_range : (found : Option (Bor Place × Bor ℕ)) → IsSpan l Sell last lo hi → TakesFirst deref_pair r found t → IsNextOr (queue_at m.entries l) Sell last (option_map level_entry (option_map deref_pair found))
  first_of_range None span took = λ p h k. range.5 took.0 (l, p) (span.holds p h k)
  first_of_range (Some x) span took =
      let e = deref_pair x in
      let inside : IsInRange place_cmp lo hi e.0 × (get place_cmp m e.0 ≡ Some e.1) = rw took at range.1 in
      let is : e.0 ≡ (l, e.0.1) = at_locate l e.0 (span.locate e.0 inside.0) in
      here_at Sell e span inside.0 inside.1 (λ p h k some.
      let least = range.2 (l, p) (span.holds p h k) some in
      let up : is_gt (place_cmp e.0 (l, p)) ≡ false = rw took at least in
      let le = not_above_is e.0.1 p (sym (ap is_gt (ap (λ (a : Place). place_cmp a (l, p)) is ∙ same_locate l e.0.1 p)) ∙ up) in
      grind (arith, nat_tests))
