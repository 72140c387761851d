-- Walking the orders of a locate from one to the next.
use Rattle.std.proofs.Common.{◌≡◌, ℕ, ◌==◌, Bool, false, List, [], ◌∷◌, filter, find, Option, Some, None, IfSome, refl, sym, ap, ◌∙◌, subst, arith}
use Rattle.std.proofs.lemmas.Bool.{cond_both}
use Rattle.std.proofs.lemmas.Bool.Decides.{nat_tests}
use Rattle.itch_book.specs.declared.order.Order.{Order}
use Rattle.itch_book.specs.Orders.{is_in, sides, IsDistinct, IsBook, has_reference, get, following, after, next_in, from_order}
use Rattle.itch_book.proofs.Lists.{by_test, found_passes}
use Rattle.itch_book.proofs.Distinct.{has_own, tail_distinct, head_distinct}
pub use Rattle.itch_book.proofs.Distinct.{walk_none}
use Rattle.itch_book.proofs.OrderLemmas.{in_is}
use Rattle.itch_book.proofs.BookLemmas.{sides-book}

-- no earlier order has the reference of the match
other_reference : (p : Order → Bool) (y : Order) (ys : List Order) (x : Order) → get ys y.reference ≡ None → find p ys ≡ Some x → has_reference x.reference y ≡ false
other_reference p y [] x none found = absurd (let no_one : ⊥ = cc in no_one)
other_reference p y (z ∷ zs) x none found =
    by_test (has_reference y.reference z)
    (λ e. let some : Some z ≡ None = simp e at none in absurd (let no_one : ⊥ = cc in no_one))
    (λ e. let rest : get zs y.reference ≡ None = simp e at none in
    by_test (p z)
    (λ f. let here : Some z ≡ Some x = simp f at found in
    let this : z ≡ x = cc in
    subst (λ w. has_reference w.reference y ≡ false) this (turned y.reference z.reference e))
    (λ f. let there : find p zs ≡ Some x = simp f at found in other_reference p y zs x rest there))
  where
    turned : (a b : ℕ) → (b == a) ≡ false → (a == b) ≡ false
    turned a b h = grind (arith, nat_tests)

-- the match is live under its reference
pub found_get : (p : Order → Bool) (xs : List Order) (x : Order) → IsDistinct xs → find p xs ≡ Some x → get xs x.reference ≡ Some x
found_get p [] x d h = absurd (let no_one : ⊥ = cc in no_one)
found_get p (y ∷ ys) x d h =
    by_test (p y)
    (λ e. let here : Some y ≡ Some x = simp e at h in
    let this : y ≡ x = cc in
    let own = has_own y in
    subst (λ w. get (y ∷ ys) w.reference ≡ Some w) this (simp own refl))
    (λ e. let there : find p ys ≡ Some x = simp e at h in
    let other = other_reference p y ys x (head_distinct y ys d) there in
    simp other (found_get p ys x (tail_distinct y ys d) there))

-- the orders that meet a condition are the first one that does, and those after it
pub walk_some : (p : Order → Bool) (xs : List Order) (x : Order) → IsDistinct xs → find p xs ≡ Some x → filter p xs ≡ x ∷ filter p (following x.reference xs)
walk_some p [] x d h = absurd (let no_one : ⊥ = cc in no_one)
walk_some p (y ∷ ys) x d h =
    by_test (p y)
    (λ e. let here : Some y ≡ Some x = simp e at h in
    let this : y ≡ x = cc in
    let own = has_own y in
    subst (λ w. filter p (y ∷ ys) ≡ w ∷ filter p (following w.reference (y ∷ ys))) this (simp (own, e) refl))
    (λ e. let there : find p ys ≡ Some x = simp e at h in
    let other = other_reference p y ys x (head_distinct y ys d) there in
    simp (other, e) (walk_some p ys x (tail_distinct y ys d) there))

pub IsDistinct-following : (r : ℕ) (xs : List Order) → IsDistinct xs → IsDistinct (following r xs)
IsDistinct-following r [] d = d
IsDistinct-following r (x ∷ xs) d =
    cond_both (has_reference r x) xs (following r xs) IsDistinct (λ e. tail_distinct x xs d) (λ e. IsDistinct-following r xs (tail_distinct x xs d))

-- an order after another one is in the list, and the orders after it are the same there
pub following_get : (p : Order → Bool) (r : ℕ) (xs : List Order) (x : Order) → IsDistinct xs → find p (following r xs) ≡ Some x → get xs x.reference ≡ Some x
following_get p r [] x d h = absurd (let no_one : ⊥ = cc in no_one)
following_get p r (y ∷ ys) x d h =
    by_test (has_reference r y)
    (λ e. let there : find p ys ≡ Some x = simp e at h in
    let other = other_reference p y ys x (head_distinct y ys d) there in
    simp other (found_get p ys x (tail_distinct y ys d) there))
    (λ e. let there : find p (following r ys) ≡ Some x = simp e at h in
    let rest = following_get p r ys x (tail_distinct y ys d) there in
    let other = other_reference (has_reference x.reference) y ys x (head_distinct y ys d) rest in
    simp other rest)

pub following-following : (p : Order → Bool) (r : ℕ) (xs : List Order) (x : Order) → IsDistinct xs → find p (following r xs) ≡ Some x → following x.reference (following r xs) ≡ following x.reference xs
following-following p r [] x d h = refl
following-following p r (y ∷ ys) x d h =
    by_test (has_reference r y)
    (λ e. let there : find p ys ≡ Some x = simp e at h in
    let other = other_reference p y ys x (head_distinct y ys d) there in
    simp (e, other) refl)
    (λ e. let there : find p (following r ys) ≡ Some x = simp e at h in
    let rest = following_get p r ys x (tail_distinct y ys d) there in
    let other = other_reference (has_reference x.reference) y ys x (head_distinct y ys d) rest in
    simp (e, other) (following-following p r ys x (tail_distinct y ys d) there))

-- the same from an order on
pub walk_on : (p : Order → Bool) (r : ℕ) (xs : List Order) (x : Order) → IsDistinct xs → find p (following r xs) ≡ Some x → filter p (following r xs) ≡ x ∷ filter p (following x.reference xs)
walk_on p r xs x d h =
    walk_some p (following r xs) x (IsDistinct-following r xs d) h
    ∙ ap (λ t. x ∷ filter p t) (following-following p r xs x d h)

-- the orders of a locate are its first order, and those after it
pub first_left : (xs : List Order) (l : ℕ) → IsBook xs → sides xs l ≡ from_order xs (find (is_in l) xs)
first_left xs l b = sides-book xs l b ∙ by_first (find (is_in l) xs) refl
  where
    by_first : (found : Option Order) → find (is_in l) xs ≡ found → filter (is_in l) xs ≡ from_order xs found
    by_first None e = walk_none (is_in l) xs e
    by_first (Some x) e =
        subst (λ k. filter (is_in l) xs ≡ x ∷ filter (is_in k) (following x.reference xs)) (sym (in_is l x (found_passes (is_in l) xs x e))) (walk_some (is_in l) xs x b.distinct e)

-- the next order of the same locate, after a live order
pub after_is : (xs : List Order) (x : Order) → get xs x.reference ≡ Some x → after xs x.reference ≡ find (is_in x.locate) (following x.reference xs)
after_is xs x h = ap (λ o. next_in o x.reference xs) h

-- the orders from one order on are that order, and those from the next one on
pub next_left : (xs : List Order) (x : Order) → IsDistinct xs → get xs x.reference ≡ Some x → from_order xs (Some x) ≡ x ∷ from_order xs (after xs x.reference)
next_left xs x d h =
    ap (λ t. x ∷ t) (by_next (find (is_in x.locate) (following x.reference xs)) refl ∙ ap (from_order xs) (sym (after_is xs x h)))
  where
    by_next : (found : Option Order) → find (is_in x.locate) (following x.reference xs) ≡ found → filter (is_in x.locate) (following x.reference xs) ≡ from_order xs found
    by_next None e = walk_none (is_in x.locate) (following x.reference xs) e
    by_next (Some y) e =
        subst (λ k. filter (is_in x.locate) (following x.reference xs) ≡ y ∷ filter (is_in k) (following y.reference xs))
        (sym (in_is x.locate y (found_passes (is_in x.locate) (following x.reference xs) y e)))
        (walk_on (is_in x.locate) x.reference xs y d e)

-- the first order of a locate, and the next one after a live order, are live
pub first_live : (xs : List Order) (l : ℕ) → IsDistinct xs → IfSome (find (is_in l) xs) (λ y. get xs y.reference ≡ Some y)
first_live xs l d = by_first (find (is_in l) xs) refl
  where
    by_first : (found : Option Order) → find (is_in l) xs ≡ found → IfSome found (λ y. get xs y.reference ≡ Some y)
    by_first None e = tt
    by_first (Some y) e = found_get (is_in l) xs y d e

pub after_live : (xs : List Order) (x : Order) → IsDistinct xs → get xs x.reference ≡ Some x → IfSome (after xs x.reference) (λ y. get xs y.reference ≡ Some y)
after_live xs x d h = subst (λ o. IfSome o (λ y. get xs y.reference ≡ Some y)) (sym (after_is xs x h)) (by_next (find (is_in x.locate) (following x.reference xs)) refl)
  where
    by_next : (found : Option Order) → find (is_in x.locate) (following x.reference xs) ≡ found → IfSome found (λ y. get xs y.reference ≡ Some y)
    by_next None e = tt
    by_next (Some y) e = following_get (is_in x.locate) x.reference xs y d e
