-- A table that contains the references of orders, and that leads to the place of each order after it is written.
use Rattle.std.proofs.Common.{◌≡◌, ℕ, zero, suc, ◌<◌, ◌≤◌, ◌+◌, true, false, cond, eqb, List, [], ◌∷◌, length, get_or, Option, Some, None, is_some, IsSome, refl, sym, ap, ◌∙◌, subst, arith, inl, inr}
use Rattle.std.specs.List.{list_any, IsDistinct}
use Rattle.std.specs.List.Sorted.{IsPermutation}
use Rattle.std.proofs.lemmas.Bool.{false≢true, cases_eq}
use Rattle.std.proofs.lemmas.Bool.Decides.{nat_tests}
use Rattle.std.proofs.lemmas.Grind.{get_or_default_zero}
use Rattle.std.proofs.lemmas.List.{length-map}
use Rattle.std.proofs.lemmas.List.Folds.{list_any_at}
use Rattle.std.proofs.lemmas.List.Sorted.{IsPermutation-map, list_any-IsPermutation, length_permutation}
use Rattle.std.proofs.lemmas.Map.Keys.{apart_from_distinct, IsDistinct-from_apart, IsDistinct-IsPermutation}
use Rattle.itch_book.specs.Table.{Links, at}
use Rattle.itch_book.specs.declared.arrived.Arrived.{Arrived}
use Rattle.itch_book.specs.Referred.{reference_of, references_of, IsPlaced, IsKnown, IsReferred}
use Rattle.itch_book.proofs.Lists.{by_test}
use Rattle.itch_book.proofs.ReferredLemmas.{same_number, is_number, other_number, none_some, one_some}

flips : (j k : ℕ) → eqb j k ≡ eqb k j
flips j k = grind (arith, nat_tests)

-- the position of a key
pub record Stands (k : ℕ) (ks : List ℕ) : Type 0 where
  pub place : ℕ
  pub within : place < length ks
  pub here : get_or ks place 0 ≡ k

stands : (k : ℕ) (ks : List ℕ) → list_any (eqb k) ks ≡ true → Stands k ks
stands k [] h = absurd (false≢true h)
stands k (j ∷ ks) h =
    by_test (eqb k j)
    (λ e. record { place = 0; within = omega arith; here = sym (is_number k j e) })
    (λ e. let there : Stands k ks = stands k ks (simp e at h) in let below = there.within in record { place = suc there.place; within = omega arith; here = there.here })

-- a table that leads to places contains the keys
pub placed_known : (f : ℕ → Option ℕ) (ks : List ℕ) → IsPlaced f ks → IsKnown f ks
placed_known f ks is = record { distinct = IsDistinct-from_apart eqb ks apart; known = λ k. by k (f k) refl }
  where
    apart : (i j d : ℕ) → i < j → j < length ks → eqb (get_or ks i d) (get_or ks j d) ≡ false
    apart i j d h l = other_number (get_or ks i d) (get_or ks j d) (λ s.
        let first = is.leads i (omega arith) in
        let second = is.leads j l in
        let one : get_or ks i 0 ≡ get_or ks j 0 = sym (get_or_default_zero ks i d (omega arith)) ∙ s ∙ get_or_default_zero ks j d l in
        let same : i ≡ j = one_some (f (get_or ks j 0)) i j (subst (λ n. f n ≡ Some i) one first) second in
        let no : ⊥ = omega arith in no)

    by : (k : ℕ) (o : Option ℕ) → f k ≡ o → is_some (f k) ≡ list_any (eqb k) ks
    by k None e =
        by_test (list_any (eqb k) ks)
        (λ t. let there = stands k ks t in absurd (none_some (f k) there.place e (subst (λ n. f n ≡ Some there.place) there.here (is.leads there.place there.within))))
        (λ t. ap is_some e ∙ sym t)
    by k (Some i) e =
        let back = is.back k i e in
        ap is_some e ∙ sym (list_any_at (eqb k) ks i 0 back.0 (subst (λ n. eqb k n ≡ true) (sym back.1) (same_number k)))

-- in any order of the keys
pub moved_known : (f : ℕ → Option ℕ) (ks us : List ℕ) → IsPermutation ks us → IsKnown f ks → IsKnown f us
moved_known f ks us s is = record {
  distinct = IsDistinct-IsPermutation eqb flips ks us s is.distinct;
  known = λ k. is.known k ∙ list_any-IsPermutation (eqb k) ks us s;
}

-- the first n keys lead to their places, and the set of keys does not change
pub record IsLed (f : ℕ → Option ℕ) (ks : List ℕ) (n : ℕ) : Type 0 where
  pub leads : (i : ℕ) → i < n → f (get_or ks i 0) ≡ Some i
  pub known : (k : ℕ) → is_some (f k) ≡ list_any (eqb k) ks

pub led_none : (f : ℕ → Option ℕ) (ks : List ℕ) → IsKnown f ks → IsLed f ks 0
led_none f ks is = record { leads = λ i h. absurd (omega arith); known = is.known }

pub led_more : (f g : ℕ → Option ℕ) (ks : List ℕ) (n k : ℕ) → IsDistinct eqb ks → IsLed f ks n → n < length ks → get_or ks n 0 ≡ k → ((q : ℕ) → g q ≡ cond (eqb k q) (Some n) (f q)) → IsLed g ks (n + 1)
led_more f g ks n k distinct is h here sets = record { leads = leads; known = known }
  where
    leads : (i : ℕ) → i < n + 1 → g (get_or ks i 0) ≡ Some i
    leads i l = elim (cases_eq i n) [
      | inl same ↦ subst (λ m. g (get_or ks m 0) ≡ Some m) (sym same) (ap g here ∙ sets k ∙ ap (λ b. cond b (Some n) (f k)) (same_number k))
      | inr differ ↦ (let below : i < n = omega arith in
          let other : eqb k (get_or ks i 0) ≡ false = flips k (get_or ks i 0) ∙ subst (λ m. eqb (get_or ks i 0) m ≡ false) here (apart_from_distinct eqb ks i n 0 distinct below h) in
          sets (get_or ks i 0) ∙ ap (λ b. cond b (Some n) (f (get_or ks i 0))) other ∙ is.leads i below)
    ]

    known : (q : ℕ) → is_some (g q) ≡ list_any (eqb q) ks
    known q =
        by_test (eqb k q)
        (λ e. ap is_some (sets q ∙ ap (λ b. cond b (Some n) (f q)) e) ∙ sym (list_any_at (eqb q) ks n 0 h (subst (λ m. eqb q m ≡ true) (sym here) (flips q k ∙ e))))
        (λ e. ap is_some (sets q ∙ ap (λ b. cond b (Some n) (f q)) e) ∙ is.known q)

pub led_all : (f : ℕ → Option ℕ) (ks : List ℕ) (n : ℕ) → IsLed f ks n → length ks ≤ n → IsPlaced f ks
led_all f ks n is all = record {
  leads = λ i h. is.leads i (omega arith);
  back = λ k i e.
      let there = stands k ks (sym (is.known k) ∙ ap is_some e) in
      let led = subst (λ m. f m ≡ Some there.place) there.here (is.leads there.place (let inside = there.within in omega arith)) in
      subst (λ j. (j < length ks) × (get_or ks j 0 ≡ k)) (one_some (f k) there.place i led e) (there.within, there.here);
}

-- the reference of the order at a place
pub reference_at : (xs : List Arrived) (i : ℕ) (x : Arrived) → i < length xs → x ≡ get_or xs i x → get_or (references_of xs) i 0 ≡ x.order.reference
reference_at [] i x h e = absurd (omega arith)
reference_at (y ∷ ys) zero x h e = ap reference_of (sym e)
reference_at (y ∷ ys) (suc i) x h e = reference_at ys i x (omega arith) e

pub many : (xs : List Arrived) → length (references_of xs) ≡ length xs
many xs = length-map xs reference_of

-- a key that still has to be written has a link
pub known_at : (f : ℕ → Option ℕ) (ks : List ℕ) (n k : ℕ) → IsLed f ks n → n < length ks → get_or ks n 0 ≡ k → IsSome (f k)
known_at f ks n k is h here = is.known k ∙ list_any_at (eqb k) ks n 0 h (subst (λ m. eqb k m ≡ true) (sym here) (same_number k))

-- orders that were moved
pub sorted_known : (places : Links) (xs ys : List Arrived) → IsReferred places xs → IsPermutation xs ys → IsKnown (at places) (references_of ys)
sorted_known places xs ys is s = moved_known (at places) (references_of xs) (references_of ys) (IsPermutation-map reference_of xs ys s) (placed_known (at places) (references_of xs) is.placed)

pub sorted_few : (places : Links) (xs ys : List Arrived) → IsReferred places xs → IsPermutation xs ys → length ys < 4294967296
sorted_few places xs ys is s = let few = is.few in let same = length_permutation xs ys s in omega arith
