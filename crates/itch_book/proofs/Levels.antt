-- Two lists that have the same elements in the same order in each class of ties have the same sorted list.
use Rattle.std.proofs.Common.{◌≡◌, Bool, true, false, not, ◌&&◌, List, [], ◌∷◌, filter, refl, sym, ap, ◌∙◌}
use Rattle.std.specs.List.{AllByRecursion}
use Rattle.std.specs.Cmp.{IsStrictWeakOrder}
use Rattle.std.proofs.lemmas.Bool.{false≢true}
use Rattle.itch_book.specs.StableLists.{in_order, IsInOrder}
use Rattle.itch_book.proofs.Lists.{by_test, All-weaker_rec, filter_none, passes_filter}
use Rattle.itch_book.proofs.StableLemmas.{not_itself, IsInOrder-in_order, in_order-filter, in_order-sorted}

-- neither of the two is before the other
abbrev pub ties : {A : Type 0} → (A → A → Bool) → A → A → Bool
ties before x y = not (before x y) && not (before y x)

module _ {A : Type 0} (before : A → A → Bool) (o : IsStrictWeakOrder before) where
  ties_itself : (x : A) → ties before x x ≡ true
  ties_itself x = let e = not_itself before o x in simp e refl

  -- nothing ties with an element that is before the first of a sorted list
  none_ties : (x y : A) (ys : List A) → before x y ≡ true → IsInOrder before (y ∷ ys) → filter (ties before x) (y ∷ ys) ≡ []
  none_ties x y ys h k =
      filter_none (ties before x) (y ∷ ys) (
        simp h refl,
        All-weaker_rec (λ z. before z y ≡ false) (λ z. ties before x z ≡ false)
            (λ z f. let g : before x z ≡ true = by_test (before x z) (λ e. e) (λ e. absurd (false≢true (sym (o.chain x z y e f) ∙ h))) in simp g refl) ys k.0,
      )

  -- the first of one list is not before the first of the other
  not_ahead : (x y : A) (xs ys : List A) → IsInOrder before (y ∷ ys) → ((z : A) → filter (ties before z) (x ∷ xs) ≡ filter (ties before z) (y ∷ ys)) → before x y ≡ false
  not_ahead x y xs ys k same =
      by_test (before x y)
      (λ e. let t = ties_itself x in
      let some : x ∷ filter (ties before x) xs ≡ filter (ties before x) (y ∷ ys) = simp t at (same x) in
      let none : x ∷ filter (ties before x) xs ≡ [] = some ∙ none_ties x y ys e k in
      absurd (let no_one : ⊥ = cc in no_one))
      (λ e. e)

  -- sorted lists that agree on each class of ties are equal
  pub ordered_same : (xs ys : List A) → IsInOrder before xs → IsInOrder before ys → ((z : A) → filter (ties before z) xs ≡ filter (ties before z) ys) → xs ≡ ys
  ordered_same [] [] h k same = refl
  ordered_same [] (y ∷ ys) h k same =
      let t = ties_itself y in let none : [] ≡ y ∷ filter (ties before y) ys = simp t at (same y) in absurd (let no_one : ⊥ = cc in no_one)
  ordered_same (x ∷ xs) [] h k same =
      let t = ties_itself x in let none : x ∷ filter (ties before x) xs ≡ [] = simp t at (same x) in absurd (let no_one : ⊥ = cc in no_one)
  ordered_same (x ∷ xs) (y ∷ ys) h k same =
      let a = not_ahead x y xs ys k same in
      let b = not_ahead y x ys xs h (λ z. sym (same z)) in
      let t = ties_itself x in
      let u : ties before x y ≡ true = simp (a, b) refl in
      let here : x ∷ filter (ties before x) xs ≡ y ∷ filter (ties before x) ys = simp (t, u) at (same x) in
      let first_same : x ≡ y = cc in
      let rest = ordered_same xs ys h.1 k.1 (λ z. by_test (ties before z x)
      (λ e. let f : ties before z y ≡ true = rw (← first_same) e in
      let there : x ∷ filter (ties before z) xs ≡ y ∷ filter (ties before z) ys = simp (e, f) at (same z) in
      let tails : filter (ties before z) xs ≡ filter (ties before z) ys = cc in tails)
      (λ e. let f : ties before z y ≡ false = rw (← first_same) e in
      let tails : filter (ties before z) xs ≡ filter (ties before z) ys = simp (e, f) at (same z) in tails)) in
      cc

  -- two lists that agree on each class of ties have the same sorted list
  pub in_order_same : (xs ys : List A) → ((z : A) → filter (ties before z) xs ≡ filter (ties before z) ys) → in_order before xs ≡ in_order before ys
  in_order_same xs ys same =
      ordered_same (in_order before xs) (in_order before ys) (IsInOrder-in_order before o xs) (IsInOrder-in_order before o ys)
      (λ z. in_order-filter before o (ties before z) xs ∙ ap (in_order before) (same z) ∙ sym (in_order-filter before o (ties before z) ys))

  -- all elements of a list tie with one another
  tied : (P : A → Type 0) → ((x y : A) → P x → P y → before y x ≡ false) → (xs : List A) → AllByRecursion P xs → IsInOrder before xs
  tied P alike [] h = tt
  tied P alike (x ∷ xs) h = (All-weaker_rec P (λ y. before y x ≡ false) (λ y k. alike x y h.0 k) xs h.1, tied P alike xs h.1)

  -- elements that tie keep their original order
  pub in_order-tied : (p : A → Bool) → ((x y : A) → p x ≡ true → p y ≡ true → before y x ≡ false) → (xs : List A) → filter p (in_order before xs) ≡ filter p xs
  in_order-tied p alike xs =
      in_order-filter before o p xs ∙ in_order-sorted before (filter p xs) (tied (λ x. p x ≡ true) alike (filter p xs) (passes_filter p xs))
