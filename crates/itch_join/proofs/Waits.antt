-- A tree of payloads as a finite map.
use Rattle.std.proofs.Common.{◌≡◌, ℕ, suc, ◌≤◌, ◌<◌, ◌^◌, nat_lt, Bool, true, false, not, cond, List, [], ◌∷◌, map, length, Option, Some, None, slice_get, refl, sym, ap, ◌∙◌, subst, nat_cmp, eqb, arith}
use Rattle.std.specs.Option.{option_map}
use Rattle.std.specs.Ordering.{eq_by_cmp, is_gt}
use Rattle.std.specs.Cmp.{nat_cmp_total, eq_by_cmp_equiv}
use Rattle.std.specs.FinMap as finite
use Rattle.std.specs.Map.{lookup, keys_of}
use Rattle.std.specs.List.{All, filter}
use Rattle.std.specs.BTreeMap.Range.{IsLeBy}
use Rattle.std.specs.Option.{IsSome, IfSome}
use Rattle.std.specs.List.Sorted.{IsStrictlySortedBy}
use Rattle.std.specs.BTreeMap as tree
use Rattle.std.specs.BTreeMap.{BTreeMap}
use Rattle.std.specs.declared.vec.Vec.{Vec}
use Rattle.std.proofs.lemmas.Bool.Decides.{nat_tests}
use Rattle.std.proofs.lemmas.Map.Entries.{lookup-filter-keys}
use Rattle.itch_market.proofs.Maps.{same_map, entries_of_rising, get-insert}
use Rattle.itch_join.specs.Waits.{entry_of, waits_of, AreNumbers}
use Rattle.itch_join.proofs.Maps.{get-remove, get-from}

mapped : {A B : Type 0} (f : A → B) (b : Bool) (x : A) (o : Option A) → cond b (Some (f x)) (option_map f o) ≡ option_map f (cond b (Some x) o)
mapped f true x o = refl
mapped f false x o = refl

none_mapped : {A B : Type 0} (f : A → B) (b : Bool) (o : Option A) → option_map f (cond b None o) ≡ cond b None (option_map f o)
none_mapped f true o = refl
none_mapped f false o = refl

kept_mapped : {A B : Type 0} (f : A → B) (b : Bool) (o : Option A) → option_map f (cond b o None) ≡ cond b (option_map f o) None
kept_mapped f true o = refl
kept_mapped f false o = refl

alike : (n q k : ℕ) → tree.is_at (nat_cmp q) k ≡ true → not (nat_lt k n) ≡ not (nat_lt q n)
alike n q k same = let e : k ≡ q = grind (arith, nat_tests) in ap (λ i. not (nat_lt i n)) e

module _ {A : Type 0} where
  abbrev pub bytes_of : Vec ℕ A → List ℕ
  bytes_of v = v.items

  found : (es : List (ℕ × Vec ℕ A)) (q : ℕ) → finite.find nat_cmp q (map entry_of es) ≡ option_map bytes_of (lookup (tree.is_at (nat_cmp q)) es)
  found [] q = refl
  found (e ∷ es) q = ap (cond (eq_by_cmp nat_cmp q e.0) (Some e.1.items)) (found es q) ∙ mapped bytes_of (eq_by_cmp nat_cmp q e.0) e.1 (lookup (tree.is_at (nat_cmp q)) es)

  pub get_waits : (m : BTreeMap ℕ (Vec ℕ A)) (q : ℕ) → finite.get (waits_of m) q ≡ option_map bytes_of (tree.get nat_cmp m q)
  get_waits m q = finite.get-from_entries nat_cmp_total (map entry_of m.entries) q ∙ found m.entries q

  pub waits_insert : (m n : BTreeMap ℕ (Vec ℕ A)) (k : ℕ) (v : Vec ℕ A) → tree.Updates nat_cmp m n k (Some v) → waits_of n ≡ finite.insert (waits_of m) k v.items
  waits_insert m n k v updates =
      same_map _ _ (λ q. get_waits n q ∙ ap (option_map bytes_of) (updates.0 q ∙ ap (λ b. cond b (Some v) (tree.get nat_cmp m q)) ((eq_by_cmp_equiv nat_cmp_total).symm k q))
      ∙ sym (mapped bytes_of (eq_by_cmp nat_cmp q k) v (tree.get nat_cmp m q))
      ∙ ap (cond (eq_by_cmp nat_cmp q k) (Some v.items)) (sym (get_waits m q)) ∙ sym (finite.get-insert nat_cmp_total (waits_of m) k v.items q))

  pub waits_remove : (m n : BTreeMap ℕ (Vec ℕ A)) (k : ℕ) → tree.Updates nat_cmp m n k None → waits_of n ≡ finite.remove (waits_of m) k
  waits_remove m n k updates =
      same_map _ _ (λ q. get_waits n q ∙ ap (option_map bytes_of) (updates.0 q ∙ ap (λ b. cond b None (tree.get nat_cmp m q)) ((eq_by_cmp_equiv nat_cmp_total).symm k q))
      ∙ none_mapped bytes_of (eq_by_cmp nat_cmp q k) (tree.get nat_cmp m q)
      ∙ ap (cond (eq_by_cmp nat_cmp q k) None) (sym (get_waits m q)) ∙ sym (finite.get-remove nat_cmp_total (waits_of m) k q))

  pub waits_from : (m n : BTreeMap ℕ (Vec ℕ A)) (next : ℕ) → n.entries ≡ filter (λ e. not (nat_lt e.0 next)) m.entries
      → waits_of n ≡ finite.retain_keys (waits_of m) (λ i. not (nat_lt i next))
  waits_from m n next left =
      same_map _ _ (λ q. get_waits n q
      ∙ ap (λ es. option_map bytes_of (lookup (tree.is_at (nat_cmp q)) es)) left
      ∙ ap (option_map bytes_of) (lookup-filter-keys (tree.is_at (nat_cmp q)) (λ k. not (nat_lt k next)) (not (nat_lt q next)) (alike next q) m.entries)
      ∙ kept_mapped bytes_of (not (nat_lt q next)) (tree.get nat_cmp m q)
      ∙ ap (λ o. cond (not (nat_lt q next)) o None) (sym (get_waits m q)) ∙ sym (get-from (waits_of m) next q))

  -- a number that is not below another one
  abbrev pub is_kept : ℕ → ℕ × Vec ℕ A → Bool
  is_kept next e = not (nat_lt e.0 next)

  -- all entries remain if the smallest number is not below
  pub all_kept : (next n : ℕ) → next ≤ n → (es : List (ℕ × Vec ℕ A)) → All (IsLeBy nat_cmp n) (keys_of es) → filter (is_kept next) es ≡ es
  all_kept next n low [] all = refl
  all_kept next n low (e ∷ es) all =
      let first : is_gt (nat_cmp n e.0) ≡ false = all 0 n (omega arith) in
      let high : n ≤ e.0 = grind (arith, nat_tests) in
      let stays : is_kept next e ≡ true = grind (arith, nat_tests) in
      ap (λ b. cond b (e ∷ filter (is_kept next) es) (filter (is_kept next) es)) stays ∙ ap (λ rest. e ∷ rest) (all_kept next n low es (λ k d h. all (suc k) d (omega (arith, h))))

  -- the first entry was dropped, and was below
  pub first_dropped : (next : ℕ) (o : Option (ℕ × Vec ℕ A)) (es rest : List (ℕ × Vec ℕ A)) (x : ℕ × Vec ℕ A) → IsSome o → IfSome o (λ p. es ≡ p ∷ rest) → slice_get es 0 ≡ Some x → x.0 < next
      → filter (is_kept next) rest ≡ filter (is_kept next) es
  first_dropped next None es rest x some is there low = cc
  first_dropped next (Some p) es rest x some is there low =
      let same : p ≡ x = let e = sym (ap (λ ps. slice_get ps 0) is) ∙ there in cc in
      let below : p.0 < next = subst (λ (y : ℕ × Vec ℕ A). y.0 < next) (sym same) low in
      let goes : is_kept next p ≡ false = grind (arith, nat_tests) in
      sym (ap (filter (is_kept next)) is ∙ ap (λ b. cond b (p ∷ filter (is_kept next) rest) (filter (is_kept next) rest)) goes)

  pub fewer : (o : Option (ℕ × Vec ℕ A)) (es rest : List (ℕ × Vec ℕ A)) → IsSome o → IfSome o (λ p. es ≡ p ∷ rest) → length rest < length es
  fewer None es rest some is = cc
  fewer (Some p) es rest some is = let e = ap length is in omega (arith, e)

  pub none_kept : (next : ℕ) (es : List (ℕ × Vec ℕ A)) → (0 < length es → ⊥) → es ≡ filter (is_kept next) es
  none_kept next [] none = refl
  none_kept next (e ∷ es) none = absurd (none (omega arith))

  same_keys : (es : List (ℕ × Vec ℕ A)) → keys_of (map entry_of es) ≡ keys_of es
  same_keys [] = refl
  same_keys (e ∷ es) = ap (λ ks. e.0 ∷ ks) (same_keys es)

  same_length : (es : List (ℕ × Vec ℕ A)) → length (map entry_of es) ≡ length es
  same_length [] = refl
  same_length (e ∷ es) = omega (arith, same_length es)

  pub waits_len : (m : BTreeMap ℕ (Vec ℕ A)) → tree.IsOrdered nat_cmp m → length m.entries ≡ finite.len (waits_of m)
  waits_len m ordered =
      sym (same_length m.entries)
      ∙ sym (ap length (entries_of_rising (map entry_of m.entries) (subst (IsStrictlySortedBy nat_cmp) (sym (same_keys m.entries)) ordered)))
      ∙ sym (finite.len-entries (waits_of m))

-- possible numbers of messages remain possible
none_waits : {P : Type 0} (p : List ℕ) → None ≡ Some p → P
none_waits p e = absurd (cc)

pub numbers_none : (w : finite.FinMap nat_cmp (List ℕ)) → w ≡ finite.empty → AreNumbers w
numbers_none w e i p there = none_waits p (sym (finite.get-empty nat_cmp i) ∙ ap (λ w. finite.get w i) (sym e) ∙ there)

pub numbers_insert : (w : finite.FinMap nat_cmp (List ℕ)) (k : ℕ) (v : List ℕ) → k < 10 ^ 19 → AreNumbers w → AreNumbers (finite.insert w k v)
numbers_insert w k v low are i p there = by_key (eqb i k) refl (sym (get-insert w k v i) ∙ there) where
  by_key : (b : Bool) → eqb i k ≡ b → cond b (Some v) (finite.get w i) ≡ Some p → i < 10 ^ 19
  by_key true e h = let same : i ≡ k = grind (arith, nat_tests) in omega arith
  by_key false e h = are i p h

pub numbers_remove : (w : finite.FinMap nat_cmp (List ℕ)) (k : ℕ) → AreNumbers w → AreNumbers (finite.remove w k)
numbers_remove w k are i p there = by_key (eqb i k) (sym (get-remove w k i) ∙ there) where
  by_key : (b : Bool) → cond b None (finite.get w i) ≡ Some p → i < 10 ^ 19
  by_key true h = none_waits p h
  by_key false h = are i p h

pub numbers_from : (w : finite.FinMap nat_cmp (List ℕ)) (n : ℕ) → AreNumbers w → AreNumbers (finite.retain_keys w (λ i. not (nat_lt i n)))
numbers_from w n are i p there = by_key (not (nat_lt i n)) (sym (get-from w n i) ∙ there) where
  by_key : (b : Bool) → cond b (finite.get w i) None ≡ Some p → i < 10 ^ 19
  by_key true h = are i p h
  by_key false h = none_waits p h
