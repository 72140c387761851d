-- Lists in which each element is related to all elements after it.
use Rattle.std.proofs.Common.{◌≡◌, ℕ, zero, suc, ◌≤◌, ◌<◌, ◌==◌, Bool, true, false, cond, List, [], ◌∷◌, length, filter, slice_get, Some, IsPermutation, ◌⊎◌, ◌↔◌, inl, inr, refl, sym, ap, ◌∙◌, subst, arith}
use Rattle.std.specs.List.{AllByRecursion}
use Rattle.std.specs.Cmp.{IsStrictWeakOrder}
use Rattle.std.proofs.lemmas.Bool.{cond_both, cases_order}
use Rattle.std.proofs.lemmas.Bool.Decides.{nat_tests}
use Rattle.std.proofs.lemmas.List.Sorted.{IsPermutation-refl, IsPermutation-sym, IsPermutation-cons, IsPermutation-trans, IsPermutation-middle, sum_by-IsPermutation, All-permutation}
use Rattle.std.proofs.lemmas.List.Sums.{length-filter}
use Rattle.std.proofs.lemmas.List.Elements.{All-from_recursion, recursion_from_All}
use Rattle.itch_book.specs.StableLists.{earlier_in, in_order, IsInOrder}
use Rattle.itch_book.proofs.Lists.{by_test, All-weaker_rec, All-filter_rec, All-both_rec, passes_filter, filter_none}
use Rattle.itch_book.proofs.StableLemmas.{All-earlier_in, All-in_order, IsInOrder-in_order}

abbrev pub Rises : {A : Type 0} → (A → A → Type 0) → List A → Type 0
Rises R [] = Unit {0}
Rises R (x ∷ xs) = AllByRecursion (R x) xs × Rises R xs

pub Rises-weaker : {A : Type 0} (P : A → Type 0) (R S : A → A → Type 0) → ((x y : A) → P x → P y → R x y → S x y) → (xs : List A) → AllByRecursion P xs → Rises R xs → Rises S xs
Rises-weaker P R S step [] all h = tt
Rises-weaker P R S step (x ∷ xs) all h =
    (All-weaker_rec (λ y. P y × R x y) (S x) (λ y k. step x y all.0 k.0 k.1) xs (All-both_rec P (R x) xs all.1 h.0), Rises-weaker P R S step xs all.1 h.1)

pub Rises-filter : {A : Type 0} (R : A → A → Type 0) (p : A → Bool) (xs : List A) → Rises R xs → Rises R (filter p xs)
Rises-filter R p [] h = tt
Rises-filter R p (x ∷ xs) h =
    cond_both (p x) (x ∷ filter p xs) (filter p xs) (Rises R) (λ e. (All-filter_rec (R x) p xs h.0, Rises-filter R p xs h.1)) (λ e. Rises-filter R p xs h.1)

each_place : {A : Type 0} (P : A → Type 0) (xs : List A) → ((j : ℕ) (y : A) → slice_get xs j ≡ Some y → P y) → AllByRecursion P xs
each_place P [] h = tt
each_place P (x ∷ xs) h = (h 0 x refl, each_place P xs (λ j y e. h (suc j) y e))

at_place : {A : Type 0} (P : A → Type 0) (xs : List A) (j : ℕ) (y : A) → AllByRecursion P xs → slice_get xs j ≡ Some y → P y
at_place P [] j y h e = absurd (let no_one : ⊥ = cc in no_one)
at_place P (x ∷ xs) zero y h e = let this : x ≡ y = cc in subst P this h.0
at_place P (x ∷ xs) (suc j) y h e = at_place P xs j y h.1 e

-- from positions to recursion
pub Rises-from_places : {A : Type 0} (R : A → A → Type 0) (xs : List A) → ((i j : ℕ) (x y : A) → slice_get xs i ≡ Some x → slice_get xs j ≡ Some y → i < j → R x y) → Rises R xs
Rises-from_places R [] h = tt
Rises-from_places R (x ∷ xs) h =
    (each_place (R x) xs (λ j y e. h 0 (suc j) x y refl e (omega arith)), Rises-from_places R xs (λ i j a b e f lt. h (suc i) (suc j) a b e f (omega arith)))

places_from_Rises : {A : Type 0} (R : A → A → Type 0) (xs : List A) → Rises R xs → (i j : ℕ) (x y : A) → slice_get xs i ≡ Some x → slice_get xs j ≡ Some y → i < j → R x y
places_from_Rises R [] h i j x y e f lt = absurd (let no_one : ⊥ = cc in no_one)
places_from_Rises R (z ∷ zs) h i zero x y e f lt = absurd (omega arith)
places_from_Rises R (z ∷ zs) h zero (suc j) x y e f lt = let this : z ≡ x = cc in subst (λ w. R w y) this (at_place (R z) zs j y h.0 f)
places_from_Rises R (z ∷ zs) h (suc i) (suc j) x y e f lt = places_from_Rises R zs h.1 i j x y e f (omega arith)

-- one position is below another if and only if its element is related to the other's element
pub places_exactly : {A : Type 0} (R : A → A → Type 0) → ((x y : A) → R x y → R y x → ⊥) → (xs : List A) → Rises R xs
    → (i j : ℕ) (x y : A) → slice_get xs i ≡ Some x → slice_get xs j ≡ Some y → (i < j) ↔ R x y
places_exactly R one_way xs h i j x y e f = (
  places_from_Rises R xs h i j x y e f,
  λ r. elim (cases_order i j) [
    | inl same ↦ absurd (let here : slice_get xs i ≡ Some y = rw same f in let this : x ≡ y = cc in let self : R x x = rw (← this) at r in one_way x x self self)
    | inr (inl lt) ↦ lt
    | inr (inr gt) ↦ absurd (one_way x y r (places_from_Rises R xs h j i y x f e gt))
  ],
)

-- a list of this kind with distinct numbers is determined by its elements
pub Rises-same : {A : Type 0} (R : A → A → Type 0) (key : A → ℕ) → ((x y : A) → R x y → R y x → ⊥) → (xs ys : List A) → Rises R xs → Rises R ys
    → ((k : ℕ) → filter (λ x. key x == k) xs ≡ filter (λ x. key x == k) ys) → xs ≡ ys
Rises-same R key one_way [] [] h k same = refl
Rises-same R key one_way [] (y ∷ ys) h k same =
    let e : (key y == key y) ≡ true = grind (arith, nat_tests) in
    let none : [] ≡ y ∷ filter (λ x. key x == key y) ys = simp e at (same (key y)) in absurd (let no_one : ⊥ = cc in no_one)
Rises-same R key one_way (x ∷ xs) [] h k same =
    let e : (key x == key x) ≡ true = grind (arith, nat_tests) in
    let none : x ∷ filter (λ z. key z == key x) xs ≡ [] = simp e at (same (key x)) in absurd (let no_one : ⊥ = cc in no_one)
Rises-same R key one_way (x ∷ xs) (y ∷ ys) h k same =
    let e : (key x == key x) ≡ true = grind (arith, nat_tests) in
    by_test (key y == key x)
    (λ f.
    let here : x ∷ filter (λ z. key z == key x) xs ≡ y ∷ filter (λ z. key z == key x) ys = simp (e, f) at (same (key x)) in
    let this : x ≡ y = cc in
    let rest = Rises-same R key one_way xs ys h.1 k.1 (λ n. by_test (key x == n)
    (λ g. let g' : (key y == n) ≡ true = rw (← this) g in
    let there : x ∷ filter (λ z. key z == n) xs ≡ y ∷ filter (λ z. key z == n) ys = simp (g, g') at (same n) in
    let tails : filter (λ z. key z == n) xs ≡ filter (λ z. key z == n) ys = cc in tails)
    (λ g. let g' : (key y == n) ≡ false = rw (← this) g in
    let tails : filter (λ z. key z == n) xs ≡ filter (λ z. key z == n) ys = simp (g, g') at (same n) in tails)) in
    cc)
    (λ f.
    let f' : (key x == key y) ≡ false = grind (arith, nat_tests) in
    let e' : (key y == key y) ≡ true = grind (arith, nat_tests) in
    let following_y : x ∷ filter (λ z. key z == key x) xs ≡ filter (λ z. key z == key x) ys = simp (e, f) at (same (key x)) in
    let following_x : filter (λ z. key z == key y) xs ≡ y ∷ filter (λ z. key z == key y) ys = simp (e', f') at (same (key y)) in
    let yx = subst (AllByRecursion (R y)) (sym following_y) (All-filter_rec (R y) (λ z. key z == key x) ys k.0) in
    let xy = subst (AllByRecursion (R x)) following_x (All-filter_rec (R x) (λ z. key z == key y) xs h.0) in
    absurd (one_way x y xy.0 yx.0))

-- a stable sort: an element after another one is so by the comparison, or ties with it and came later
abbrev pub Stably : {A : Type 0} → (A → A → Bool) → (A → A → Type 0) → A → A → Type 0
Stably before E x y = (before x y ≡ true) ⊎ ((before x y ≡ false) × (before y x ≡ false) × E x y)

module _ {A : Type 0} (before : A → A → Bool) (o : IsStrictWeakOrder before) (E : A → A → Type 0) where
  Rises-earlier_in : (x : A) (ys : List A) → IsInOrder before ys → Rises (Stably before E) ys → AllByRecursion (E x) ys → Rises (Stably before E) (earlier_in before x ys)
  Rises-earlier_in x [] h k all = (tt, tt)
  Rises-earlier_in x (y ∷ ys) h k all =
      cond_both (before y x) (y ∷ earlier_in before x ys) (x ∷ y ∷ ys) (Rises (Stably before E))
      (λ e. (All-earlier_in before (Stably before E y) x ys (inl e) k.0, Rises-earlier_in x ys h.1 k.1 all.1))
      (λ e.
      let none = All-weaker_rec (λ z. before z y ≡ false) (λ z. before z x ≡ false) (λ z f. o.chain z y x f e) ys h.0 in (
        All-weaker_rec (λ z. (before z x ≡ false) × E x z) (Stably before E x) (λ z f. by_test (before x z) (λ g. inl g) (λ g. inr (g, f.0, f.1))) (y ∷ ys)
            (All-both_rec (λ z. before z x ≡ false) (E x) (y ∷ ys) (e, none) all),
        k,
      ))

  pub Rises-in_order : (xs : List A) → Rises E xs → Rises (Stably before E) (in_order before xs)
  Rises-in_order [] h = tt
  Rises-in_order (x ∷ xs) h = Rises-earlier_in x (in_order before xs) (IsInOrder-in_order before o xs) (Rises-in_order xs h.1) (All-in_order before (E x) xs h.0)

-- sorting keeps the number of occurrences of each element
IsPermutation-earlier_in : {A : Type 0} (before : A → A → Bool) (x : A) (ys : List A) → IsPermutation (x ∷ ys) (earlier_in before x ys)
IsPermutation-earlier_in before x [] = IsPermutation-refl (x ∷ [])
IsPermutation-earlier_in before x (y ∷ ys) =
    cond_both (before y x) (y ∷ earlier_in before x ys) (x ∷ y ∷ ys) (IsPermutation (x ∷ y ∷ ys))
    (λ e. IsPermutation-trans (x ∷ y ∷ ys) (y ∷ x ∷ ys) (y ∷ earlier_in before x ys)
    (IsPermutation-sym (y ∷ x ∷ ys) (x ∷ y ∷ ys) (IsPermutation-middle (y ∷ []) x ys))
    (IsPermutation-cons y (x ∷ ys) (earlier_in before x ys) (IsPermutation-earlier_in before x ys)))
    (λ e. IsPermutation-refl (x ∷ y ∷ ys))

pub IsPermutation-in_order : {A : Type 0} (before : A → A → Bool) (xs : List A) → IsPermutation xs (in_order before xs)
IsPermutation-in_order before [] = IsPermutation-refl []
IsPermutation-in_order before (x ∷ xs) =
    IsPermutation-trans (x ∷ xs) (x ∷ in_order before xs) (in_order before (x ∷ xs))
    (IsPermutation-cons x xs (in_order before xs) (IsPermutation-in_order before xs))
    (IsPermutation-earlier_in before x (in_order before xs))

none_passes : {A : Type 0} (p : A → Bool) (xs : List A) → filter p xs ≡ [] → AllByRecursion (λ x. p x ≡ false) xs
none_passes p [] h = tt
none_passes p (x ∷ xs) h =
    by_test (p x)
    (λ e. let some : x ∷ filter p xs ≡ [] = simp e at h in absurd (let no_one : ⊥ = cc in no_one))
    (λ e. let rest : filter p xs ≡ [] = simp e at h in (e, none_passes p xs rest))

one_passes : {A : Type 0} (p : A → Bool) (xs : List A) (b : A) → filter p xs ≡ b ∷ [] → AllByRecursion (λ x. p x ≡ true → x ≡ b) xs
one_passes p [] b h = tt
one_passes p (x ∷ xs) b h =
    by_test (p x)
    (λ e. let here : x ∷ filter p xs ≡ b ∷ [] = simp e at h in
    let this : x ≡ b = cc in
    let rest : filter p xs ≡ [] = cc in
    (λ f. this, All-weaker_rec (λ z. p z ≡ false) (λ z. p z ≡ true → z ≡ b) (λ z f g. absurd (let no_one : ⊥ = cc in no_one)) xs (none_passes p xs rest)))
    (λ e. let rest : filter p xs ≡ b ∷ [] = simp e at h in (λ f. absurd (let no_one : ⊥ = cc in no_one), one_passes p xs b rest))

permuted : {A : Type 0} (P : A → Type 0) (xs ys : List A) → IsPermutation xs ys → AllByRecursion P xs → AllByRecursion P ys
permuted P xs ys same h = recursion_from_All P ys (All-permutation P xs ys same (All-from_recursion P xs h))

only_one : {A : Type 0} (b : A) (xs : List A) → AllByRecursion (λ x. x ≡ b) xs → length xs ≡ 1 → xs ≡ b ∷ []
only_one b [] h len = absurd (omega arith)
only_one b (x ∷ []) h len = ap (λ z. z ∷ []) h.0
only_one b (x ∷ y ∷ ys) h len = absurd (omega arith)

-- if at most one element of two lists with the same elements meets a condition, both filtered lists are equal
pub short_same : {A : Type 0} (p : A → Bool) (xs ys : List A) → IsPermutation xs ys → length (filter p xs) ≤ 1 → filter p xs ≡ filter p ys
short_same p xs ys same short = by_kept (filter p xs) refl
  where
    many : length (filter p ys) ≡ length (filter p xs)
    many = length-filter p ys ∙ sum_by-IsPermutation (λ x. cond (p x) 1 0) xs ys same ∙ sym (length-filter p xs)

    by_kept : (zs : List _) → filter p xs ≡ zs → zs ≡ filter p ys
    by_kept [] e = sym (filter_none p ys (permuted (λ x. p x ≡ false) xs ys same (none_passes p xs e)))
    by_kept (b ∷ []) e =
        let alike = permuted (λ x. p x ≡ true → x ≡ b) xs ys same (one_passes p xs b e) in
        let kept = All-both_rec (λ x. p x ≡ true) (λ x. p x ≡ true → x ≡ b) (filter p ys) (passes_filter p ys) (All-filter_rec (λ x. p x ≡ true → x ≡ b) p ys alike) in
        let len : length (filter p ys) ≡ 1 = many ∙ ap length e in
        sym (only_one b (filter p ys) (All-weaker_rec (λ x. (p x ≡ true) × (p x ≡ true → x ≡ b)) (λ x. x ≡ b) (λ x k. k.1 k.0) (filter p ys) kept) len)
    by_kept (b ∷ c ∷ zs) e = absurd (let len = ap length e in omega arith)
