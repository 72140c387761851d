-- Finite maps with numeric keys, after keys are removed.
use Rattle.std.proofs.Common.{T, is_lt, Less, Bool, true, false, ◌≡◌, ℕ, ◌-◌, ◌<◌, ◌≤◌, nat_lt, not, cond, List, [], ◌∷◌, length, Option, Some, None, is_some, refl, sym, ap, ◌∙◌, nat_cmp, eqb, arith, map}
use Rattle.std.specs.Cmp.{nat_cmp_total, eq_by_cmp_equiv}
use Rattle.std.specs.FinMap as finite
use Rattle.std.specs.FinMap.{nat_cmp-IsAntisymmetric}
use Rattle.std.specs.FinMap.Entries.{below_all, is_sorted}
use Rattle.std.specs.Map.{keys_of}
use Rattle.std.specs.List.{AllByRecursion}
use Rattle.std.specs.List.Sorted.{IsStrictlySortedBy}
use Rattle.std.proofs.lemmas.Map.Made.{length-le_from_is_member}
use Rattle.std.proofs.lemmas.Map.Keys.{IsDistinct-from_sorted}
use Rattle.itch_market.proofs.Maps.{key_tests}
use Rattle.itch_market.proofs.Trees.{both, less}

length-map : {A B : Type 0} (f : A → B) (xs : List A) → length (map f xs) ≡ length xs
length-map f [] = refl
length-map f (x ∷ xs) = omega (arith, length-map f xs)

module _ {X : Type 0} where
  below_rise : (k : ℕ) (es : List (ℕ × X)) → T (below_all nat_cmp k es) → AllByRecursion (λ q. nat_cmp k q ≡ Less) (keys_of es)
  below_rise k [] below = tt
  below_rise k (e ∷ es) below = let parts = both (is_lt (nat_cmp k e.0)) (below_all nat_cmp k es) below in (less (nat_cmp k e.0) parts.0, below_rise k es parts.1)

  entries_rise : (es : List (ℕ × X)) → T (is_sorted nat_cmp es) → IsStrictlySortedBy nat_cmp (keys_of es)
  unfolding IsStrictlySortedBy
  entries_rise [] sorted = tt
  entries_rise (e ∷ es) sorted =
      let parts = both (below_all nat_cmp e.0 es) (is_sorted nat_cmp es) sorted in
      (below_rise e.0 es parts.0, entries_rise es parts.1)

  -- the keys of a map ascend
  keys_rise : (m : finite.FinMap nat_cmp X) → IsStrictlySortedBy nat_cmp (finite.keys m)
  keys_rise m = entries_rise (finite.entries m) (finite.entries_sorted m)

  pub get-remove : (m : finite.FinMap nat_cmp X) (k q : ℕ) → finite.get (finite.remove m k) q ≡ cond (eqb q k) None (finite.get m q)
  get-remove m k q = finite.get-remove nat_cmp_total m k q ∙ ap (λ b. cond b None (finite.get m q)) (key_tests q k)

  pub get-from : (m : finite.FinMap nat_cmp X) (n q : ℕ) → finite.get (finite.retain_keys m (λ i. not (nat_lt i n))) q ≡ cond (not (nat_lt q n)) (finite.get m q) None
  get-from m n q = finite.get-retain_keys m (λ i. not (nat_lt i n)) q (λ x same. ap (λ i. not (nat_lt i n)) (sym (nat_cmp-IsAntisymmetric q x same)))

  -- a map without additional keys is no longer
  pub len_within : (m n : finite.FinMap nat_cmp X) → ((q : ℕ) → is_some (finite.get n q) ≡ true → is_some (finite.get m q) ≡ true) → finite.len n ≤ finite.len m
  len_within m n within =
      let laws = eq_by_cmp_equiv nat_cmp_total in
      let shorter : length (finite.keys n) ≤ length (finite.keys m) =
      length-le_from_is_member laws (finite.keys n) (finite.keys m) (IsDistinct-from_sorted nat_cmp (finite.keys n) (keys_rise n))
      (λ q has. sym (finite.contains_key-keys m q) ∙ within q (finite.contains_key-keys n q ∙ has)) in
      omega (arith, finite.len-entries n, finite.len-entries m, length-map (λ (e : ℕ × X). e.0) (finite.entries n), length-map (λ (e : ℕ × X). e.0) (finite.entries m))

  -- nor is a map without a key
  pub len_removed : (m : finite.FinMap nat_cmp X) (k : ℕ) → finite.len (finite.remove m k) ≤ finite.len m
  len_removed m k = len_within m (finite.remove m k) (λ q has. was_there (eqb q k) (finite.get m q) (ap is_some (sym (get-remove m k q)) ∙ has)) where
    was_there : (b : Bool) (o : Option X) → is_some (cond b None o) ≡ true → is_some o ≡ true
    was_there true o has = cc
    was_there false o has = has

  -- nor a map without the keys below a number
  pub len_from : (m : finite.FinMap nat_cmp X) (n : ℕ) → finite.len (finite.retain_keys m (λ i. not (nat_lt i n))) ≤ finite.len m
  len_from m n = len_within m (finite.retain_keys m (λ i. not (nat_lt i n))) (λ q has. was_there (nat_lt q n) (finite.get m q) (ap is_some (sym (get-from m n q)) ∙ has)) where
    was_there : (b : Bool) (o : Option X) → is_some (cond (not b) o None) ≡ true → is_some o ≡ true
    was_there true o has = cc
    was_there false o has = has

  -- a map is shorter after an existing key is removed
  pub len_less : (m : finite.FinMap nat_cmp X) (k : ℕ) (x : X) → finite.get m k ≡ Some x → finite.len (finite.remove m k) < finite.len m
  len_less m k x there =
      let some : (finite.len m ≡ 0 → ⊥) = λ none. let e : None ≡ Some x = sym (finite.get-empty nat_cmp k) ∙ ap (λ w. finite.get w k) (sym (finite.empty_of_len m none)) ∙ there in cc in
      let less : finite.len (finite.remove m k) ≡ cond (is_some (finite.get m k)) (finite.len m - 1) (finite.len m) = finite.len-remove nat_cmp_total m k in
      let fewer : finite.len (finite.remove m k) ≡ finite.len m - 1 = less ∙ ap (λ o. cond (is_some o) (finite.len m - 1) (finite.len m)) there in
      omega arith
