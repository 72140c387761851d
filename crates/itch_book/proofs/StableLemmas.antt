-- Lists sorted by a comparison of any two values, in which elements that tie keep their order.
use Rattle.std.proofs.Common.{◌≡◌, ◌≤◌, ◌+◌, Bool, true, false, cond, ◌||◌, List, [], ◌∷◌, ◌++◌, map, length, filter, refl, sym, ap, ◌∙◌, arith}
use Rattle.std.specs.List.{AllByRecursion}
use Rattle.std.specs.Cmp.{IsStrictWeakOrder}
use Rattle.std.proofs.lemmas.Bool.{cond_both, false≢true}
use Rattle.itch_book.specs.StableLists.{earlier_in, in_order, IsInOrder}
use Rattle.itch_book.proofs.Lists.{by_test, All-weaker_rec, All-filter_rec, passes_filter}

-- o, which came later than all elements of the list, is inserted before the first element that it precedes
abbrev pub later_in : {A : Type 0} → (A → A → Bool) → A → List A → List A
later_in before o [] = o ∷ []
later_in before o (y ∷ ys) = cond (before o y) (o ∷ y ∷ ys) (y ∷ later_in before o ys)

-- the properties that hold for any comparison
module _ {A : Type 0} (before : A → A → Bool) where
  pub All-earlier_in : (P : A → Type 0) (x : A) (ys : List A) → P x → AllByRecursion P ys → AllByRecursion P (earlier_in before x ys)
  All-earlier_in P x [] h k = (h, tt)
  All-earlier_in P x (y ∷ ys) h k =
      cond_both (before y x) (y ∷ earlier_in before x ys) (x ∷ y ∷ ys) (AllByRecursion P) (λ e. (k.0, All-earlier_in P x ys h k.1)) (λ e. (h, k))

  pub All-in_order : (P : A → Type 0) (xs : List A) → AllByRecursion P xs → AllByRecursion P (in_order before xs)
  All-in_order P [] h = tt
  All-in_order P (x ∷ xs) h = All-earlier_in P x (in_order before xs) h.0 (All-in_order P xs h.1)

  pub length-earlier_in : (x : A) (ys : List A) → length (earlier_in before x ys) ≡ 1 + length ys
  length-earlier_in x [] = omega arith
  length-earlier_in x (y ∷ ys) =
      let rest = length-earlier_in x ys in
      cond_both (before y x) (y ∷ earlier_in before x ys) (x ∷ y ∷ ys) (λ t. length t ≡ 1 + length (y ∷ ys)) (λ e. omega arith) (λ e. omega arith)

  pub length-in_order : (xs : List A) → length (in_order before xs) ≡ length xs
  length-in_order [] = refl
  length-in_order (x ∷ xs) = let rest = length-in_order xs in omega (arith, length-earlier_in x (in_order before xs))

  -- in front of a list with no element before x
  pub earlier_in-front : (x : A) (ys : List A) → AllByRecursion (λ y. before y x ≡ false) ys → earlier_in before x ys ≡ x ∷ ys
  earlier_in-front x [] h = refl
  earlier_in-front x (y ∷ ys) h = simp (h.0) refl

  -- a sorted list does not change
  pub in_order-sorted : (xs : List A) → IsInOrder before xs → in_order before xs ≡ xs
  in_order-sorted [] h = refl
  in_order-sorted (x ∷ xs) h = ap (earlier_in before x) (in_order-sorted xs h.1) ∙ earlier_in-front x xs h.0

  -- a list of at most one element is sorted
  pub in_order-short : (xs : List A) → length xs ≤ 1 → in_order before xs ≡ xs
  in_order-short [] h = refl
  in_order-short (x ∷ []) h = refl
  in_order-short (x ∷ y ∷ ys) h = absurd (omega arith)

  -- insertion into the left part, if no element of the right part is before x
  pub earlier_in-left : (x : A) (ys zs : List A) → AllByRecursion (λ z. before z x ≡ false) zs → earlier_in before x (ys ++ zs) ≡ earlier_in before x ys ++ zs
  earlier_in-left x [] zs h = earlier_in-front x zs h
  earlier_in-left x (y ∷ ys) zs h =
      by_test (before y x) (λ e. simp e (ap (λ t. y ∷ t) (earlier_in-left x ys zs h))) (λ e. simp e refl)

  -- insertion into the right part, if all elements of the left part are before x
  pub earlier_in-right : (x : A) (ys zs : List A) → AllByRecursion (λ y. before y x ≡ true) ys → earlier_in before x (ys ++ zs) ≡ ys ++ earlier_in before x zs
  earlier_in-right x [] zs h = refl
  earlier_in-right x (y ∷ ys) zs h = simp (h.0) (ap (λ t. y ∷ t) (earlier_in-right x ys zs h.1))

  pub IsInOrder-filter : (p : A → Bool) (xs : List A) → IsInOrder before xs → IsInOrder before (filter p xs)
  IsInOrder-filter p [] h = tt
  IsInOrder-filter p (x ∷ xs) h =
      cond_both (p x) (x ∷ filter p xs) (filter p xs) (IsInOrder before)
      (λ e. (All-filter_rec (λ y. before y x ≡ false) p xs h.0, IsInOrder-filter p xs h.1))
      (λ e. IsInOrder-filter p xs h.1)

-- a change that does not affect the comparison
earlier_in-map : {A B : Type 0} (before : A → A → Bool) (other : B → B → Bool) (f : A → B) → ((x y : A) → other (f x) (f y) ≡ before x y) → (x : A) (ys : List A) → map f (earlier_in before x ys) ≡ earlier_in other (f x) (map f ys)
earlier_in-map before other f same x [] = refl
earlier_in-map before other f same x (y ∷ ys) =
    by_test (before y x)
    (λ e. let d = same y x ∙ e in simp (d, e) (ap (λ t. f y ∷ t) (earlier_in-map before other f same x ys)))
    (λ e. let d = same y x ∙ e in simp (d, e) refl)

pub in_order-map : {A B : Type 0} (before : A → A → Bool) (other : B → B → Bool) (f : A → B) → ((x y : A) → other (f x) (f y) ≡ before x y) → (xs : List A) → map f (in_order before xs) ≡ in_order other (map f xs)
in_order-map before other f same [] = refl
in_order-map before other f same (x ∷ xs) =
    earlier_in-map before other f same x (in_order before xs) ∙ ap (earlier_in other (f x)) (in_order-map before other f same xs)

-- two comparisons that agree on the elements
earlier_in-agree : {A : Type 0} (before other : A → A → Bool) (P : A → Type 0) → ((x y : A) → P x → P y → before x y ≡ other x y) → (x : A) (ys : List A) → P x → AllByRecursion P ys → earlier_in before x ys ≡ earlier_in other x ys
earlier_in-agree before other P same x [] h k = refl
earlier_in-agree before other P same x (y ∷ ys) h k =
    let rest = earlier_in-agree before other P same x ys h k.1 in
    by_test (other y x)
    (λ e. let d = same y x k.0 h ∙ e in simp (d, e) (ap (λ t. y ∷ t) rest))
    (λ e. let d = same y x k.0 h ∙ e in simp (d, e) refl)

pub in_order-agree : {A : Type 0} (before other : A → A → Bool) (P : A → Type 0) → ((x y : A) → P x → P y → before x y ≡ other x y) → (xs : List A) → AllByRecursion P xs → in_order before xs ≡ in_order other xs
in_order-agree before other P same [] h = refl
in_order-agree before other P same (x ∷ xs) h =
    earlier_in-agree before other P same x (in_order before xs) h.0 (All-in_order before P xs h.1)
    ∙ ap (earlier_in other x) (in_order-agree before other P same xs h.1)

module _ {A : Type 0} (before : A → A → Bool) (o : IsStrictWeakOrder before) where
  -- nothing is before itself
  pub not_itself : (x : A) → before x x ≡ false
  not_itself x = by_test (before x x) (λ e. o.one_way x x e) (λ e. e)

  -- an element before x is before every element that x is not after
  pub before_chain : (x y z : A) → before x y ≡ true → before z y ≡ false → before x z ≡ true
  before_chain x y z h k = by_test (before x z) (λ e. e) (λ e. absurd (false≢true (sym (o.chain x z y e k) ∙ h)))

  pub before_after : (x y z : A) → before y x ≡ false → before y z ≡ true → before x z ≡ true
  before_after x y z h k = by_test (before x z) (λ e. e) (λ e. absurd (false≢true (sym (o.chain y x z h e) ∙ k)))

  IsInOrder-earlier_in : (x : A) (ys : List A) → IsInOrder before ys → IsInOrder before (earlier_in before x ys)
  IsInOrder-earlier_in x [] h = (tt, tt)
  IsInOrder-earlier_in x (y ∷ ys) h =
      cond_both (before y x) (y ∷ earlier_in before x ys) (x ∷ y ∷ ys) (IsInOrder before)
      (λ e. (All-earlier_in before (λ z. before z y ≡ false) x ys (o.one_way y x e) h.0, IsInOrder-earlier_in x ys h.1))
      (λ e. ((e, All-weaker_rec (λ z. before z y ≡ false) (λ z. before z x ≡ false) (λ z k. o.chain z y x k e) ys h.0), h))

  pub IsInOrder-in_order : (xs : List A) → IsInOrder before (in_order before xs)
  IsInOrder-in_order [] = tt
  IsInOrder-in_order (x ∷ xs) = IsInOrder-earlier_in x (in_order before xs) (IsInOrder-in_order xs)

  pub in_order-twice : (xs : List A) → in_order before (in_order before xs) ≡ in_order before xs
  in_order-twice xs = in_order-sorted before (in_order before xs) (IsInOrder-in_order xs)

  earlier_in-filter : (p : A → Bool) (x : A) (ys : List A) → IsInOrder before ys → filter p (earlier_in before x ys) ≡ cond (p x) (earlier_in before x (filter p ys)) (filter p ys)
  earlier_in-filter p x [] h = refl
  earlier_in-filter p x (y ∷ ys) h =
      by_test (before y x)
      (λ e. let rest = earlier_in-filter p x ys h.1 in
      by_test (p x)
      (λ f. let shorter : filter p (earlier_in before x ys) ≡ earlier_in before x (filter p ys) = simp f at rest in
      by_test (p y) (λ g. simp (e, f, g, shorter) refl) (λ g. simp (e, f, g, shorter) refl))
      (λ f. let shorter : filter p (earlier_in before x ys) ≡ filter p ys = simp f at rest in
      by_test (p y) (λ g. simp (e, f, g, shorter) refl) (λ g. simp (e, f, g, shorter) refl)))
      (λ e.
      let none = All-filter_rec (λ z. before z x ≡ false) p (y ∷ ys) (e, All-weaker_rec (λ z. before z y ≡ false) (λ z. before z x ≡ false) (λ z k. o.chain z y x k e) ys h.0) in
      by_test (p x)
      (λ f. simp (e, f) (sym (earlier_in-front before x (filter p (y ∷ ys)) none)))
      (λ f. simp (e, f) refl))

  -- filtering the sorted list gives the sorted filtered list
  pub in_order-filter : (p : A → Bool) (xs : List A) → filter p (in_order before xs) ≡ in_order before (filter p xs)
  in_order-filter p [] = refl
  in_order-filter p (x ∷ xs) =
      let rest = in_order-filter p xs in
      earlier_in-filter p x (in_order before xs) (IsInOrder-in_order xs)
      ∙ by_test (p x) (λ e. simp e (ap (earlier_in before x) rest)) (λ e. simp e rest)

  -- the first and the last arrival can be inserted in either order
  later_in-earlier_in : (l x : A) (ys : List A) → later_in before l (earlier_in before x ys) ≡ earlier_in before x (later_in before l ys)
  later_in-earlier_in l x [] = refl
  later_in-earlier_in l x (y ∷ ys) =
      let rest = later_in-earlier_in l x ys in
      by_test (before y x)
      (λ e. by_test (before l y)
      (λ f. let g : before l x ≡ true = before_chain l y x f (o.one_way y x e) in simp (e, f, g) refl)
      (λ f. simp (e, f) (ap (λ t. y ∷ t) rest)))
      (λ e. by_test (before l x)
      (λ f. let g : before l y ≡ true = before_chain l x y f e in simp (e, f, g) refl)
      (λ f. by_test (before l y) (λ g. simp (e, f, g) refl) (λ g. simp (e, f, g) refl)))

  -- one more element that came last
  pub in_order-push : (xs : List A) (l : A) → in_order before (xs ++ l ∷ []) ≡ later_in before l (in_order before xs)
  in_order-push [] l = refl
  in_order-push (x ∷ xs) l = ap (earlier_in before x) (in_order-push xs l) ∙ sym (later_in-earlier_in l x (in_order before xs))

  -- the parts of a list of which one is before the other, each sorted
  pub in_order-parts : (p q r : A → Bool) → ((x y : A) → p x ≡ true → q y ≡ true → before x y ≡ true) → ((x : A) → r x ≡ (p x || q x))
      → (xs : List A) → in_order before (filter r xs) ≡ in_order before (filter p xs) ++ in_order before (filter q xs)
  in_order-parts p q r apart either [] = refl
  in_order-parts p q r apart either (x ∷ xs) =
      let rest = in_order-parts p q r apart either xs in
      let ps = in_order before (filter p xs) in
      let qs = in_order before (filter q xs) in
      by_test (p x)
      (λ e. by_test (q x)
      (λ f. absurd (false≢true (sym (not_itself x) ∙ apart x x e f)))
      (λ f. let g : r x ≡ true = either x ∙ simp (e, f) refl in
      let following = All-in_order before (λ y. before y x ≡ false) (filter q xs)
      (All-weaker_rec (λ y. q y ≡ true) (λ y. before y x ≡ false) (λ y h. o.one_way x y (apart x y e h)) (filter q xs) (passes_filter q xs)) in
      simp (e, f, g) (ap (earlier_in before x) rest ∙ earlier_in-left before x ps qs following)))
      (λ e. by_test (q x)
      (λ f. let g : r x ≡ true = either x ∙ simp (e, f) refl in
      let ahead = All-in_order before (λ y. before y x ≡ true) (filter p xs)
      (All-weaker_rec (λ y. p y ≡ true) (λ y. before y x ≡ true) (λ y h. apart y x h f) (filter p xs) (passes_filter p xs)) in
      simp (e, f, g) (ap (earlier_in before x) rest ∙ earlier_in-right before x ps qs ahead))
      (λ f. let g : r x ≡ false = either x ∙ simp (e, f) refl in simp (e, f, g) rest))
