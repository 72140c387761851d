-- Look-ups in a table of places, and its entries after an order was inserted, removed or replaced.
use Rattle.std.proofs.Common.{◌≡◌, ◌≢◌, ℕ, zero, suc, ◌<◌, ◌+◌, ◌-◌, ◌^◌, true, false, cond, eqb, List, [], ◌∷◌, ◌++◌, length, take, set, get_or, slice_get, Option, Some, None, IsSome, IsSomeAnd, refl, sym, ap, ◌∙◌, subst, arith, inl, inr}
use Rattle.std.specs.List.{swap_remove}
use Rattle.std.specs.List.Sorted.{IsPermutation}
use Rattle.std.specs.Map.{lookup, values_of, keys_of, set_value, remove_entry}
use Rattle.std.proofs.lemmas.Bool.{false≢true, cases_lt}
use Rattle.std.proofs.lemmas.Bool.Decides.{nat_tests}
use Rattle.std.proofs.lemmas.List.{take_more, take_all, get_or-map, length-map, get_or_append_left, map-append, map-set, length-set, length-append, get_or-set_same, get_or-set_other}
use Rattle.std.proofs.lemmas.Option.{slice_get-get_or, get_or_from_slice_get, slice_get_within}
use Rattle.std.proofs.lemmas.List.Sorted.{IsPermutation-refl, IsPermutation-sym, IsPermutation-cons, IsPermutation-map, IsPermutation-to_front, IsPermutation-trans, IsPermutation-append_left}
use Rattle.itch_book.specs.Table.{Links, at}
use Rattle.itch_book.specs.declared.arrived.Arrived.{Arrived}
use Rattle.itch_book.specs.Referred.{reference_of, under_references, references_of, IsAt, IsPlaced, IsReferred}
use Rattle.itch_book.proofs.Lists.{by_test}

pub same_number : (k : ℕ) → eqb k k ≡ true
same_number k = grind (arith, nat_tests)

pub is_number : (j k : ℕ) → eqb j k ≡ true → j ≡ k
is_number j k h = grind (arith, nat_tests)

-- numbers with different places
pub other_number : (j k : ℕ) → (j ≡ k → ⊥) → eqb j k ≡ false
other_number j k h = by_test (eqb j k) (λ e. absurd (h (is_number j k e))) (λ e. e)

pub none_some : (o : Option ℕ) (i : ℕ) → o ≡ None → o ≡ Some i → ⊥
none_some o i h e = let no : None ≡ Some i = sym h ∙ e in let no_one : ⊥ = cc in no_one

pub one_some : (o : Option ℕ) (i j : ℕ) → o ≡ Some i → o ≡ Some j → i ≡ j
one_some o i j h e = let both : Some i ≡ Some j = sym h ∙ e in cc

-- the values of the entries are the orders
pub orders_are : (xs : List Arrived) → values_of (under_references xs) ≡ xs
orders_are [] = refl
orders_are (x ∷ xs) = ap (λ t. x ∷ t) (orders_are xs)

-- and the keys their references
keys_are : (xs : List Arrived) → keys_of (under_references xs) ≡ references_of xs
keys_are [] = refl
keys_are (x ∷ xs) = ap (λ t. reference_of x ∷ t) (keys_are xs)

-- an order with the reference is at a place
pub stands_here : (k i : ℕ) (xs : List Arrived) → IsSomeAnd (slice_get xs i) (λ x. x.order.reference ≡ k) → IsAt (under_references xs) k i
stands_here k i [] h = absurd h
stands_here k zero (x ∷ xs) h = ap (λ n. Some n) h
stands_here k (suc i) (x ∷ xs) h = stands_here k i xs h

-- the first order with a reference is found
lookup_first : (k : ℕ) (xs : List Arrived) (i : ℕ) (d : Arrived) → i < length xs → ((j : ℕ) → j < i → eqb k (get_or (references_of xs) j 0) ≡ false) → get_or (references_of xs) i 0 ≡ k
    → lookup (eqb k) (under_references xs) ≡ Some (get_or xs i d)
lookup_first k [] i d h before e = absurd (omega arith)
lookup_first k (x ∷ xs) zero d h before e = let here : eqb k (reference_of x) ≡ true = subst (λ n. eqb k n ≡ true) (sym e) (same_number k) in simp here refl
lookup_first k (x ∷ xs) (suc i) d h before e =
    let other : eqb k (reference_of x) ≡ false = before 0 (omega arith) in
    simp other (lookup_first k xs i d (omega arith) (λ j l. before (suc j) (omega arith)) e)

lookup_never : (k : ℕ) (xs : List Arrived) → ((j : ℕ) → j < length xs → eqb k (get_or (references_of xs) j 0) ≡ false) → lookup (eqb k) (under_references xs) ≡ None
lookup_never k [] h = refl
lookup_never k (x ∷ xs) h =
    let other : eqb k (reference_of x) ≡ false = h 0 (omega arith) in
    simp other (lookup_never k xs (λ j l. h (suc j) (omega arith)))

-- and replaced
set_first : (k : ℕ) (xs : List Arrived) (i : ℕ) (y : Arrived) → i < length xs → ((j : ℕ) → j < i → eqb k (get_or (references_of xs) j 0) ≡ false) → get_or (references_of xs) i 0 ≡ k → reference_of y ≡ k
    → set_value (eqb k) (under_references xs) y ≡ under_references (set xs i y)
set_first k [] i y h before e own = absurd (omega arith)
set_first k (x ∷ xs) zero y h before e own =
    let here : eqb k (reference_of x) ≡ true = subst (λ n. eqb k n ≡ true) (sym e) (same_number k) in
    simp here (ap (λ n. (n, y) ∷ under_references xs) (e ∙ sym own))
set_first k (x ∷ xs) (suc i) y h before e own =
    let other : eqb k (reference_of x) ≡ false = before 0 (omega arith) in
    simp other (ap (λ t. (reference_of x, x) ∷ t) (set_first k xs i y (omega arith) (λ j l. before (suc j) (omega arith)) e own))

-- and removed, and the last order moves to its place
swap_later : (x : Arrived) (xs : List Arrived) (i : ℕ) (d : Arrived) → 0 < length xs → swap_remove (x ∷ xs) (suc i) d ≡ x ∷ swap_remove xs i d
swap_later x xs i d h =
    let e : length (x ∷ xs) - 1 ≡ suc (length xs - 1) = omega arith in
    ap (λ n. take n (set (x ∷ xs) (suc i) (get_or (x ∷ xs) n d))) e

swap_here : (x y : Arrived) (ys : List Arrived) (d : Arrived) → swap_remove (x ∷ y ∷ ys) 0 d ≡ get_or (y ∷ ys) (length ys) d ∷ take (length ys) (y ∷ ys)
swap_here x y ys d =
    let e : length (x ∷ y ∷ ys) - 1 ≡ suc (length ys) = omega arith in
    ap (λ n. take n (set (x ∷ y ∷ ys) 0 (get_or (x ∷ y ∷ ys) n d))) e

whole : (y : Arrived) (ys : List Arrived) (d : Arrived) → take (length ys) (y ∷ ys) ++ get_or (y ∷ ys) (length ys) d ∷ [] ≡ y ∷ ys
whole y ys d = sym (take_more (y ∷ ys) (length ys) d (omega arith)) ∙ take_all (length ys + 1) (y ∷ ys) (omega arith)

remove_first : (k : ℕ) (xs : List Arrived) (i : ℕ) (d : Arrived) → i < length xs → ((j : ℕ) → j < i → eqb k (get_or (references_of xs) j 0) ≡ false) → get_or (references_of xs) i 0 ≡ k
    → IsPermutation (remove_entry (eqb k) (under_references xs)) (under_references (swap_remove xs i d))
remove_first k [] i d h before e = absurd (omega arith)
remove_first k (x ∷ []) zero d h before e =
    let here : eqb k (reference_of x) ≡ true = subst (λ n. eqb k n ≡ true) (sym e) (same_number k) in
    let none : List (ℕ × Arrived) = [] in
    simp here (IsPermutation-refl none)
remove_first k (x ∷ y ∷ ys) zero d h before e =
    let here : eqb k (reference_of x) ≡ true = subst (λ n. eqb k n ≡ true) (sym e) (same_number k) in
    let last = get_or (y ∷ ys) (length ys) d in let front = take (length ys) (y ∷ ys) in
    let moved = IsPermutation-map (λ (z : Arrived). (reference_of z, z)) (front ++ last ∷ []) (last ∷ front) (IsPermutation-to_front front last) in
    let start : IsPermutation (under_references (y ∷ ys)) (under_references (last ∷ front)) = subst (λ t. IsPermutation (under_references t) (under_references (last ∷ front))) (whole y ys d) moved in
    simp here (subst (λ t. IsPermutation (under_references (y ∷ ys)) (under_references t)) (sym (swap_here x y ys d)) start)
remove_first k (x ∷ xs) (suc i) d h before e =
    let other : eqb k (reference_of x) ≡ false = before 0 (omega arith) in
    let rest = remove_first k xs i d (omega arith) (λ j l. before (suc j) (omega arith)) e in
    simp other (subst (λ t. IsPermutation ((reference_of x, x) ∷ remove_entry (eqb k) (under_references xs)) (under_references t)) (sym (swap_later x xs i d (omega arith)))
    (IsPermutation-cons (reference_of x, x) _ _ rest))

some_order : (xs : List Arrived) → 0 < length xs → (Arrived → ⊥) → ⊥
some_order [] h none = absurd (omega arith)
some_order (x ∷ xs) h none = none x

-- look-ups in a table
module _ (f : ℕ → Option ℕ) (xs : List Arrived) (is : IsPlaced f (references_of xs)) where
  long : length (references_of xs) ≡ length xs
  long = length-map xs reference_of

  -- no two orders have the same reference
  apart : (i j : ℕ) → i < length xs → j < length xs → get_or (references_of xs) i 0 ≡ get_or (references_of xs) j 0 → i ≡ j
  apart i j h l e = one_some (f (get_or (references_of xs) j 0)) i j (subst (λ n. f n ≡ Some i) e (is.leads i (subst (λ n. i < n) (sym long) h))) (is.leads j (subst (λ n. j < n) (sym long) l))

  pub within : (k i : ℕ) → f k ≡ Some i → i < length xs
  within k i e = subst (λ n. i < n) long (is.back k i e).0

  -- the table leads to a place if the order with the reference is there
  pub leads_here : (k i : ℕ) → f k ≡ Some i → IsAt (under_references xs) k i
  leads_here k i e = let back = is.back k i e in
      ap (λ (ks : List ℕ). slice_get ks i) (keys_are xs) ∙ slice_get-get_or (references_of xs) i 0 back.0 ∙ ap (λ n. Some n) back.1

  pub led_here : (k i : ℕ) → IsAt (under_references xs) k i → f k ≡ Some i
  led_here k i e =
      let there : slice_get (references_of xs) i ≡ Some k = sym (ap (λ (ks : List ℕ). slice_get ks i) (keys_are xs)) ∙ e in
      subst (λ n. f n ≡ Some i) (get_or_from_slice_get (references_of xs) i k 0 there) (is.leads i (slice_get_within (references_of xs) i k there))

  earlier : (k i : ℕ) → f k ≡ Some i → (j : ℕ) → j < i → eqb k (get_or (references_of xs) j 0) ≡ false
  earlier k i e j l = other_number k (get_or (references_of xs) j 0) (λ s.
      let there = within k i e in
      let one : i ≡ j = apart i j there (omega arith) ((is.back k i e).1 ∙ s) in omega arith)

  pub found : (k i : ℕ) (d : Arrived) → f k ≡ Some i → lookup (eqb k) (under_references xs) ≡ Some (get_or xs i d)
  found k i d e = lookup_first k xs i d (within k i e) (earlier k i e) (is.back k i e).1

  pub missing : (k : ℕ) → f k ≡ None → lookup (eqb k) (under_references xs) ≡ None
  missing k e = lookup_never k xs (λ j l. other_number k (get_or (references_of xs) j 0) (λ s. none_some (f k) j e (subst (λ n. f n ≡ Some j) (sym s) (is.leads j (subst (λ n. j < n) (sym long) l)))))

  pub led : (k : ℕ) → IsSome (lookup (eqb k) (under_references xs)) → IsSome (f k)
  led k h = by (f k) refl
    where
      by : (o : Option ℕ) → f k ≡ o → IsSome o
      by None e = let none = missing k e in let no : IsSome {T = Arrived} None = subst (λ o. IsSome o) none h in absurd (let no_one : ⊥ = cc in no_one)
      by (Some i) e = refl

  pub unknown : (k : ℕ) → lookup (eqb k) (under_references xs) ≡ None → f k ≡ None
  unknown k h = by (f k) refl
    where
      by : (o : Option ℕ) → f k ≡ o → o ≡ None
      by None e = refl
      by (Some i) e = absurd (some_order xs (let there = within k i e in omega arith) (λ x. let no : None ≡ Some (get_or xs i x) = sym h ∙ found k i x e in let no_one : ⊥ = cc in no_one))

  pub set_found : (k i : ℕ) (y : Arrived) → f k ≡ Some i → reference_of y ≡ k → set_value (eqb k) (under_references xs) y ≡ under_references (set xs i y)
  set_found k i y e own = set_first k xs i y (within k i e) (earlier k i e) (is.back k i e).1 own

  pub removed : (k i : ℕ) (d : Arrived) → f k ≡ Some i → IsPermutation (remove_entry (eqb k) (under_references xs)) (under_references (swap_remove xs i d))
  removed k i d e = remove_first k xs i d (within k i e) (earlier k i e) (is.back k i e).1

-- after an order was appended
pub put_placed : (f g : ℕ → Option ℕ) (ks : List ℕ) (k : ℕ) → IsPlaced f ks → f k ≡ None → ((q : ℕ) → g q ≡ cond (eqb k q) (Some (length ks)) (f q)) → IsPlaced g (ks ++ k ∷ [])
put_placed f g ks k is new puts = record {
  leads = λ i h. elim (cases_lt i (length ks)) [
    | inl below ↦ subst (λ n. g n ≡ Some i) (sym (get_or_append_left ks (k ∷ []) 0 i below))
        (puts (get_or ks i 0) ∙ ap (λ b. cond b (Some (length ks)) (f (get_or ks i 0))) (other_number k (get_or ks i 0) (λ s. none_some (f k) i new (subst (λ n. f n ≡ Some i) (sym s) (is.leads i below)))) ∙ is.leads i below)
    | inr above ↦ (let last : i ≡ length ks = let l = length-append ks (k ∷ []) in omega arith in
        subst (λ n. g (get_or (ks ++ k ∷ []) n 0) ≡ Some n) (sym last) (ap g (at_end ks k) ∙ puts k ∙ ap (λ b. cond b (Some (length ks)) (f k)) (same_number k)))
  ];
  back = λ q i h. by_test (eqb k q)
      (λ e. let here : length ks ≡ i = one_some (g q) (length ks) i (puts q ∙ ap (λ b. cond b (Some (length ks)) (f q)) e) h in
      subst (λ n. (n < length (ks ++ k ∷ [])) × (get_or (ks ++ k ∷ []) n 0 ≡ q)) here ((let l = length-append ks (k ∷ []) in omega arith), at_end ks k ∙ is_number k q e))
      (λ e. let was = is.back q i (sym (ap (λ b. cond b (Some (length ks)) (f q)) e) ∙ sym (puts q) ∙ h) in let below = was.0 in
      ((let l = length-append ks (k ∷ []) in omega arith), get_or_append_left ks (k ∷ []) 0 i below ∙ was.1));
}
  where
    at_end : (ks : List ℕ) (k : ℕ) → get_or (ks ++ k ∷ []) (length ks) 0 ≡ k
    at_end [] k = refl
    at_end (j ∷ ks) k = at_end ks k

-- after an order was removed, and the last one moved to its place
module _ (f g : ℕ → Option ℕ) (ks us : List ℕ) (k i : ℕ) (is : IsPlaced f ks) (there : f k ≡ Some i) (taken : (q : ℕ) → g q ≡ cond (eqb k q) None (f q)) (short : length us + 1 ≡ length ks)
    (others : (j : ℕ) → j ≢ i → j + 1 < length ks → get_or us j 0 ≡ get_or ks j 0) where
  one_key : (a b : ℕ) → a < length ks → b < length ks → get_or ks a 0 ≡ get_or ks b 0 → a ≡ b
  one_key a b h l e = one_some (f (get_or ks b 0)) a b (subst (λ n. f n ≡ Some a) e (is.leads a h)) (is.leads b l)

  key_here : get_or ks i 0 ≡ k
  key_here = (is.back k i there).1

  place_within : i < length ks
  place_within = (is.back k i there).0

  -- the other keys lead to the same places
  leads_other : (j : ℕ) → j ≢ i → j < length ks → g (get_or ks j 0) ≡ Some j
  leads_other j ne h = taken (get_or ks j 0)
      ∙ ap (λ b. cond b None (f (get_or ks j 0))) (other_number k (get_or ks j 0) (λ s. ne (one_key j i h place_within (sym s ∙ sym key_here)))) ∙ is.leads j h

  back_other : (q j : ℕ) → g q ≡ Some j → (j < length ks) × ((j ≢ i) × (get_or ks j 0 ≡ q))
  back_other q j h = by_test (eqb k q)
      (λ e. absurd (none_some (g q) j (taken q ∙ ap (λ b. cond b None (f q)) e) h))
      (λ e. let was = is.back q j (sym (ap (λ b. cond b None (f q)) e) ∙ sym (taken q) ∙ h) in
      (was.0, ((λ (s : j ≡ i). false≢true (sym e ∙ subst (λ n. eqb k n ≡ true) (sym key_here ∙ ap (λ n. get_or ks n 0) (sym s) ∙ was.1) (same_number k))), was.1)))

  pub last_placed : i + 1 ≡ length ks → IsPlaced g us
  last_placed last = record {
    leads = λ j h. let ne : j ≢ i = λ (s : j ≡ i). let no : ⊥ = omega arith in no in
        subst (λ n. g n ≡ Some j) (sym (others j ne (omega arith))) (leads_other j ne (omega arith));
    back = λ q j h. let was = back_other q j h in let below = was.0 in let ne = was.1.0 in
        let inside : j < length us = less_than j ne below in
        (inside, others j ne (omega arith) ∙ was.1.1);
  }
    where
      less_than : (j : ℕ) → j ≢ i → j < length ks → j < length us
      less_than j ne h = elim (cases_lt j (length us)) [ inl below ↦ below | inr above ↦ absurd (ne (omega arith)) ]

  pub moved_placed : (h : ℕ → Option ℕ) → i + 1 < length ks → get_or us i 0 ≡ get_or ks (length ks - 1) 0 → ((q : ℕ) → h q ≡ cond (eqb (get_or us i 0) q) (Some i) (g q)) → IsPlaced h us
  moved_placed h inner came puts = record {
    leads = λ j l. by_test (eqb j i)
        (λ e. let s : j ≡ i = is_number j i e in subst (λ n. h (get_or us n 0) ≡ Some n) (sym s) (puts (get_or us i 0) ∙ ap (λ b. cond b (Some i) (g (get_or us i 0))) (same_number (get_or us i 0))))
        (λ e. let ne : j ≢ i = λ (s : j ≡ i). false≢true (sym e ∙ subst (λ n. eqb j n ≡ true) s (same_number j)) in
        let same = others j ne (omega arith) in
        let apart : eqb (get_or us i 0) (get_or us j 0) ≡ false = other_number (get_or us i 0) (get_or us j 0) (λ s.
        let one : length ks - 1 ≡ j = one_key (length ks - 1) j (omega arith) (omega arith) (sym came ∙ s ∙ same) in let no : ⊥ = omega arith in no) in
        puts (get_or us j 0) ∙ ap (λ b. cond b (Some i) (g (get_or us j 0))) apart ∙ subst (λ n. g n ≡ Some j) (sym same) (leads_other j ne (omega arith)));
    back = λ q j l. by_test (eqb (get_or us i 0) q)
        (λ e. let s : i ≡ j = one_some (h q) i j (puts q ∙ ap (λ b. cond b (Some i) (g q)) e) l in
        subst (λ n. (n < length us) × (get_or us n 0 ≡ q)) s ((omega arith), is_number (get_or us i 0) q e))
        (λ e. let was = back_other q j (sym (ap (λ b. cond b (Some i) (g q)) e) ∙ sym (puts q) ∙ l) in let below = was.0 in let ne = was.1.0 in
        let not_last : j ≢ length ks - 1 = λ (s : j ≡ length ks - 1). false≢true (sym e ∙ subst (λ n. eqb (get_or us i 0) n ≡ true) (came ∙ ap (λ n. get_or ks n 0) (sym s) ∙ was.1.1) (same_number (get_or us i 0))) in
        let inside : j < length us = less_than j not_last below in
        (inside, others j ne (omega arith) ∙ was.1.1));
  }
    where
      less_than : (j : ℕ) → j ≢ length ks - 1 → j < length ks → j < length us
      less_than j ne l = elim (cases_lt j (length us)) [ inl below ↦ below | inr above ↦ absurd (ne (omega arith)) ]

-- replacing an order by another one with the same reference does not change the references
pub same_references : (xs : List Arrived) (i : ℕ) (y : Arrived) → i < length xs → get_or (references_of xs) i 0 ≡ reference_of y → references_of (set xs i y) ≡ references_of xs
same_references [] i y h e = refl
same_references (x ∷ xs) zero y h e = ap (λ n. n ∷ references_of xs) (sym e)
same_references (x ∷ xs) (suc i) y h e = ap (λ t. reference_of x ∷ t) (same_references xs i y (omega arith) e)

-- the orders and the table after each change
pub referred_same : (f g : Links) (xs : List Arrived) → IsReferred f xs → ((q : ℕ) → at g q ≡ at f q) → IsReferred g xs
referred_same f g xs is same = record {
  placed = record {
    leads = λ i h. same (get_or (references_of xs) i 0) ∙ is.placed.leads i h;
    back = λ k i h. is.placed.back k i (sym (same k) ∙ h);
  };
  few = is.few;
}

pub referred_put : (f g : Links) (xs : List Arrived) (x : Arrived) (n : ℕ) → IsReferred f xs → at f (reference_of x) ≡ None → n ≡ length xs → n < 4294967295
    → ((q : ℕ) → at g q ≡ cond (eqb (reference_of x) q) (Some n) (at f q)) → IsReferred g (xs ++ x ∷ [])
referred_put f g xs x n is new last few puts = record {
  placed = subst (IsPlaced (at g)) (sym (map-append reference_of xs (x ∷ [])))
      (put_placed (at f) (at g) (references_of xs) (reference_of x) is.placed new (λ q. puts q ∙ ap (λ m. cond (eqb (reference_of x) q) (Some m) (at f q)) (last ∙ sym (length-map xs reference_of))));
  few = let l = length-append xs (x ∷ []) in omega arith;
}

pub put_entries : (xs : List Arrived) (x : Arrived) → IsPermutation ((reference_of x, x) ∷ under_references xs) (under_references (xs ++ x ∷ []))
put_entries xs x = IsPermutation-sym _ _ (IsPermutation-map (λ (z : Arrived). (reference_of z, z)) (xs ++ x ∷ []) (x ∷ xs) (IsPermutation-to_front xs x))

pub referred_written : (f : Links) (xs : List Arrived) (y : Arrived) (i : ℕ) → IsReferred f xs → at f (reference_of y) ≡ Some i → IsReferred f (set xs i y)
referred_written f xs y i is there = record {
  placed = subst (IsPlaced (at f)) (sym (same_references xs i y (within (at f) xs is.placed (reference_of y) i there) (is.placed.back (reference_of y) i there).1)) is.placed;
  few = let l = length-set xs i y in let few = is.few in omega arith;
}

module _ (f g : Links) (xs us : List Arrived) (k i : ℕ) (gone : Arrived) (is : IsReferred f xs) (there : at f k ≡ Some i) (taken : (q : ℕ) → at g q ≡ cond (eqb k q) None (at f q)) (short : length us + 1 ≡ length xs)
    (others : (j : ℕ) (d : Arrived) → j ≢ i → j + 1 < length xs → get_or us j d ≡ get_or xs j d) where
  shorter : length (references_of us) + 1 ≡ length (references_of xs)
  shorter = let a = length-map us reference_of in let b = length-map xs reference_of in omega arith

  other_references : (j : ℕ) → j ≢ i → j + 1 < length (references_of xs) → get_or (references_of us) j 0 ≡ get_or (references_of xs) j 0
  other_references j ne h =
      let b = length-map xs reference_of in
      let inside : j + 1 < length xs = omega arith in
      get_or-map reference_of us j gone 0 (omega arith) ∙ ap reference_of (others j gone ne inside) ∙ sym (get_or-map reference_of xs j gone 0 (omega arith))

  fewer : length us < 2 ^ 32
  fewer = let few = is.few in omega arith

  pub last_referred : i + 1 ≡ length xs → IsReferred g us
  last_referred last = record {
    placed = last_placed (at f) (at g) (references_of xs) (references_of us) k i is.placed there taken shorter other_references (last ∙ sym (length-map xs reference_of));
    few = fewer;
  }

  module _ (inner : i + 1 < length xs) (came : (d : Arrived) → get_or us i d ≡ get_or xs (length xs - 1) d) (last : Arrived) (last_is : last ≡ get_or us i last) where
    its_reference : reference_of last ≡ get_or (references_of us) i 0
    its_reference = ap reference_of last_is ∙ sym (get_or-map reference_of us i last 0 (omega arith))

    came_reference : get_or (references_of us) i 0 ≡ get_or (references_of xs) (length (references_of xs) - 1) 0
    came_reference =
        get_or-map reference_of us i gone 0 (omega arith) ∙ ap reference_of (came gone)
        ∙ sym (get_or-map reference_of xs (length xs - 1) gone 0 (omega arith)) ∙ ap (λ n. get_or (references_of xs) (n - 1) 0) (sym (length-map xs reference_of))

    pub moved_known : IsSome (at g (reference_of last))
    moved_known =
        let b = length-map xs reference_of in
        let ne : length (references_of xs) - 1 ≢ i = λ (s : length (references_of xs) - 1 ≡ i). let no : ⊥ = omega arith in no in
        let led : at g (get_or (references_of xs) (length (references_of xs) - 1) 0) ≡ Some (length (references_of xs) - 1) =
        leads_other (at f) (at g) (references_of xs) (references_of us) k i is.placed there taken shorter other_references (length (references_of xs) - 1) ne (omega arith) in
        subst (λ o. IsSome o) (sym (ap (at g) (its_reference ∙ came_reference) ∙ led)) refl

    pub moved_referred : (h : Links) → ((q : ℕ) → at h q ≡ cond (eqb (reference_of last) q) (Some i) (at g q)) → IsReferred h us
    moved_referred h puts = record {
      placed = moved_placed (at f) (at g) (references_of xs) (references_of us) k i is.placed there taken shorter other_references (at h)
          (let b = length-map xs reference_of in omega arith) came_reference (λ q. puts q ∙ ap (λ n. cond (eqb n q) (Some i) (at g q)) its_reference);
      few = fewer;
    }

-- after an order replaced one with another reference
pub swap_placed : (f g : ℕ → Option ℕ) (ks : List ℕ) (old new i : ℕ) → IsPlaced f ks → f old ≡ Some i → f new ≡ None
    → ((q : ℕ) → g q ≡ cond (eqb old q) None (cond (eqb new q) (Some i) (f q))) → IsPlaced g (set ks i new)
swap_placed f g ks old new i is there fresh swaps = record {
  leads = λ j h. let low : j < length ks = let l = length-set ks i new in omega arith in
      by_test (eqb j i)
      (λ e. let s : j ≡ i = is_number j i e in
      subst (λ n. g (get_or (set ks n new) j 0) ≡ Some j) s
      (subst (λ n. g n ≡ Some j) (sym (get_or-set_same ks j new 0 low))
      (swaps new ∙ ap (λ b. cond b None (cond (eqb new new) (Some i) (f new))) (other_number old new not_old) ∙ ap (λ b. cond b (Some i) (f new)) (same_number new)
      ∙ ap (λ n. Some n) (sym s))))
      (λ e. let ne : j ≢ i = λ (s : j ≡ i). false≢true (sym e ∙ subst (λ n. eqb j n ≡ true) s (same_number j)) in
      let lead = is.leads j low in
      let k = get_or ks j 0 in
      let apart_old : eqb old k ≡ false = other_number old k (λ s. ne (one_some (f k) j i lead (subst (λ n. f n ≡ Some i) s there))) in
      let apart_new : eqb new k ≡ false = other_number new k (λ s. none_some (f k) j (subst (λ n. f n ≡ None) s fresh) lead) in
      subst (λ n. g n ≡ Some j) (sym (get_or-set_other ks i j new 0 ne))
      (swaps k ∙ ap (λ b. cond b None (cond (eqb new k) (Some i) (f k))) apart_old ∙ ap (λ b. cond b (Some i) (f k)) apart_new ∙ lead));
  back = λ q j h. by_test (eqb old q)
      (λ e. absurd (none_some (g q) j (swaps q ∙ ap (λ b. cond b None (cond (eqb new q) (Some i) (f q))) e) h))
      (λ e. let past : g q ≡ cond (eqb new q) (Some i) (f q) = swaps q ∙ ap (λ b. cond b None (cond (eqb new q) (Some i) (f q))) e in
      by_test (eqb new q)
      (λ e2. let s : i ≡ j = one_some (g q) i j (past ∙ ap (λ b. cond b (Some i) (f q)) e2) h in
      let low = (is.back old i there).0 in
      subst (λ n. (n < length (set ks i new)) × (get_or (set ks i new) n 0 ≡ q)) s
      ((let l = length-set ks i new in omega arith), get_or-set_same ks i new 0 low ∙ is_number new q e2))
      (λ e2. let was = is.back q j (sym (ap (λ b. cond b (Some i) (f q)) e2) ∙ sym past ∙ h) in
      let low = was.0 in
      let ne : j ≢ i = λ (s : j ≡ i). false≢true (sym e ∙ subst (λ n. eqb old n ≡ true) (sym (is.back old i there).1 ∙ ap (λ n. get_or ks n 0) (sym s) ∙ was.1) (same_number old)) in
      ((let l = length-set ks i new in omega arith), get_or-set_other ks i j new 0 ne ∙ was.1)));
}
  where
    not_old : (old ≡ new) → ⊥
    not_old s = none_some (f new) i fresh (subst (λ n. f n ≡ Some i) s there)

pub referred_swapped : (f g : Links) (xs : List Arrived) (y : Arrived) (old i : ℕ) → IsReferred f xs → at f old ≡ Some i → at f (reference_of y) ≡ None
    → ((q : ℕ) → at g q ≡ cond (eqb old q) None (cond (eqb (reference_of y) q) (Some i) (at f q))) → IsReferred g (set xs i y)
referred_swapped f g xs y old i is there fresh swaps = record {
  placed = subst (IsPlaced (at g)) (sym (map-set reference_of xs i y)) (swap_placed (at f) (at g) (references_of xs) old (reference_of y) i is.placed there fresh swaps);
  few = let l = length-set xs i y in let few = is.few in omega arith;
}

-- the entries are those without the old one, and the new one
swap_first : (k : ℕ) (xs : List Arrived) (i : ℕ) (y : Arrived) → i < length xs → ((j : ℕ) → j < i → eqb k (get_or (references_of xs) j 0) ≡ false) → get_or (references_of xs) i 0 ≡ k
    → IsPermutation ((reference_of y, y) ∷ remove_entry (eqb k) (under_references xs)) (under_references (set xs i y))
swap_first k [] i y h before e = absurd (omega arith)
swap_first k (x ∷ xs) zero y h before e =
    let here : eqb k (reference_of x) ≡ true = subst (λ n. eqb k n ≡ true) (sym e) (same_number k) in
    simp here (IsPermutation-refl ((reference_of y, y) ∷ under_references xs))
swap_first k (x ∷ xs) (suc i) y h before e =
    let other : eqb k (reference_of x) ≡ false = before 0 (omega arith) in
    let rest = swap_first k xs i y (omega arith) (λ j l. before (suc j) (omega arith)) e in
    let left = remove_entry (eqb k) (under_references xs) in
    simp other (IsPermutation-trans ((reference_of y, y) ∷ (reference_of x, x) ∷ left) ((reference_of x, x) ∷ (reference_of y, y) ∷ left) ((reference_of x, x) ∷ under_references (set xs i y))
    (IsPermutation-append_left left ((reference_of y, y) ∷ (reference_of x, x) ∷ []) ((reference_of x, x) ∷ (reference_of y, y) ∷ []) (IsPermutation-to_front ((reference_of y, y) ∷ []) (reference_of x, x)))
    (IsPermutation-cons (reference_of x, x) _ _ rest))

pub swapped : (f : ℕ → Option ℕ) (xs : List Arrived) → IsPlaced f (references_of xs) → (k i : ℕ) (y : Arrived) → f k ≡ Some i
    → IsPermutation ((reference_of y, y) ∷ remove_entry (eqb k) (under_references xs)) (under_references (set xs i y))
swapped f xs is k i y e = swap_first k xs i y (within f xs is k i e) (earlier f xs is k i e) (is.back k i e).1

-- after the new key was inserted, the old key still leads to its place
pub led_still : (f g : ℕ → Option ℕ) (old new i : ℕ) → f old ≡ Some i → ((q : ℕ) → g q ≡ cond (eqb new q) (Some i) (f q)) → g old ≡ Some i
led_still f g old new i there puts =
    by_test (eqb new old)
    (λ e. puts old ∙ ap (λ b. cond b (Some i) (f old)) e)
    (λ e. puts old ∙ ap (λ b. cond b (Some i) (f old)) e ∙ there)
