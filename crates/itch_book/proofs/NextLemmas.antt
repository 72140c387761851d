-- The order after the one at a place of a line is the next of its locate, or there is none.
use Rattle.std.proofs.Common.{◌≡◌, ◌≢◌, ℕ, ◌<◌, ◌+◌, true, false, List, [], ◌∷◌, map, drop, length, find, slice_get, suc, zero, Option, Some, None, IfSome, IsSomeAnd, option_map, refl, sym, ap, ◌∙◌, subst, arith}
use Rattle.std.specs.List.{AllByRecursion}
use Rattle.std.specs.Map.{values_of}
use Rattle.std.proofs.Math.Numerals.{add-one}
use Rattle.std.proofs.lemmas.Bool.Decides.{nat_tests}
use Rattle.itch_book.specs.declared.order.Order.{Order}
use Rattle.itch_book.specs.declared.arrived.Arrived.{Arrived}
use Rattle.itch_book.specs.declared.arrived.Wanted.TheVariants.{In}
use Rattle.itch_book.specs.StableLists.{IsInOrder}
use Rattle.itch_book.specs.Orders.{is_in, has_reference, get, following, next_in, after, IsDistinct}
use Rattle.itch_book.specs.Settled.{comes_before, its_order, settled, wants, begins, IsLineOr, IsArrived}
use Rattle.itch_book.proofs.Lists.{by_test, All-weaker_rec}
use Rattle.itch_book.proofs.Distinct.{has_own, own_reference, head_distinct, tail_distinct}
use Rattle.itch_book.proofs.LineLemmas.{kept, found_from, early, late, not_lower}
use Rattle.itch_book.proofs.LeastLemmas.{find_shown}

-- a place with an element is in the list
pub within : {X : Type 0} (P : X → Type 0) (i : ℕ) (xs : List X) → IsSomeAnd (slice_get xs i) P → i < length xs
within P i [] h = absurd h
within P zero (x ∷ xs) h = omega arith
within P (suc i) (x ∷ xs) h = let rest = within P i xs h in omega arith

-- if a line begins in a locate or after it, the first order of the locate is the first of the line, or there is none
find_begun : (l : ℕ) (xs : List Arrived) → IsInOrder comes_before xs → AllByRecursion (λ y. begins (In l) y ≡ true) xs → find (wants (In l)) xs ≡ kept (wants (In l)) (slice_get xs 0)
find_begun l xs h all = found_from (wants (In l)) (begins (In l)) (early (In l)) (late (In l)) xs h ∙ ap (kept (wants (In l))) (begun xs all)
  where
    begun : (ys : List Arrived) → AllByRecursion (λ y. begins (In l) y ≡ true) ys → find (begins (In l)) ys ≡ slice_get ys 0
    begun [] all = refl
    begun (y ∷ ys) all = simp (all.0) refl

next_is : (i : ℕ) (line : List Arrived) (x : Arrived) → IsInOrder comes_before line → slice_get line i ≡ Some x
    → find (wants (In x.order.locate)) (drop (suc i) line) ≡ kept (wants (In x.order.locate)) (slice_get line (suc i))
next_is i [] x h here = absurd (let no_one : ⊥ = cc in no_one)
next_is zero (y ∷ ys) x h here =
    let it : y ≡ x = cc in
    subst (λ (t : Arrived). find (wants (In t.order.locate)) ys ≡ kept (wants (In t.order.locate)) (slice_get ys 0)) it
    (find_begun y.order.locate ys h.1 (All-weaker_rec (λ z. comes_before z y ≡ false) (λ z. begins (In y.order.locate) z ≡ true) (λ z k. let n = not_lower y z k in simp n refl) ys h.0))
next_is (suc i) (y ∷ ys) x h here = next_is i ys x h.1 here

module _ (i : ℕ) (line : List Arrived) (x : Arrived) (h : IsInOrder comes_before line) (here : slice_get line i ≡ Some x) where
  next_order : find (is_in x.order.locate) (map its_order (drop (i + 1) line)) ≡ option_map its_order (kept (wants (In x.order.locate)) (slice_get line (i + 1)))
  next_order =
      subst (λ n. find (is_in x.order.locate) (map its_order (drop n line)) ≡ option_map its_order (kept (wants (In x.order.locate)) (slice_get line n))) (sym (add-one i))
      (sym (find_shown (is_in x.order.locate) (wants (In x.order.locate)) (λ z. refl) (drop (suc i) line)) ∙ ap (option_map its_order) (next_is i line x h here))

  -- the property of the order at the place
  abbrev pub IsNext : Option Order → Type 0
  IsNext o = IfSome (slice_get line i) (λ (y : Arrived). o ≡ find (is_in y.order.locate) (map its_order (drop (i + 1) line)))

  at_place : (o : Option Order) → o ≡ find (is_in x.order.locate) (map its_order (drop (i + 1) line)) → IsNext o
  at_place o e = subst (λ q. IfSome q (λ (y : Arrived). o ≡ find (is_in y.order.locate) (map its_order (drop (i + 1) line)))) (sym here) e

  pub next_hit : (y : Arrived) → Some y ≡ slice_get line (i + 1) → y.order.locate ≡ x.order.locate → IsNext (Some y.order)
  next_hit y there same = let e : is_in x.order.locate y.order ≡ true = grind (arith, nat_tests) in at_place (Some y.order) (sym (next_order ∙ ap (λ q. option_map its_order (kept (wants (In x.order.locate)) q)) (sym there) ∙ simp e refl))

  pub next_miss : (y : Arrived) → Some y ≡ slice_get line (i + 1) → y.order.locate ≢ x.order.locate → IsNext None
  next_miss y there other = let e : is_in x.order.locate y.order ≡ false = grind (arith, nat_tests) in at_place None (sym (next_order ∙ ap (λ q. option_map its_order (kept (wants (In x.order.locate)) q)) (sym there) ∙ simp e refl))

  pub next_end : None ≡ slice_get line (i + 1) → IsNext None
  next_end none = at_place None (sym (next_order ∙ ap (λ q. option_map its_order (kept (wants (In x.order.locate)) q)) (sym none)))

-- no order before the one with a reference has that reference
none_before : (r : ℕ) (y : Order) (ys : List Order) (x : Order) → IsDistinct (y ∷ ys) → get ys r ≡ Some x → has_reference r y ≡ false
none_before r y ys x d h =
    by_test (has_reference r y)
    (λ e. let none : get ys r ≡ None = subst (λ q. get ys q ≡ None) (own_reference r y e) (head_distinct y ys d) in absurd (let no_one : ⊥ = cc in no_one))
    (λ e. e)

-- the order of a reference at a place, and the orders after it
stands_there : (r i : ℕ) (line : List Arrived) (x : Arrived) → IsDistinct (map its_order line) → slice_get line i ≡ Some x → x.order.reference ≡ r
    → (get (map its_order line) r ≡ Some x.order) × (following r (map its_order line) ≡ map its_order (drop (suc i) line))
stands_there r i [] x d here e = absurd (let no_one : ⊥ = cc in no_one)
stands_there r zero (y ∷ ys) x d here e =
    let it : y ≡ x = cc in
    let own : has_reference r y.order ≡ true = subst (λ (t : Arrived). has_reference r t.order ≡ true) (sym it) (subst (λ n. has_reference n x.order ≡ true) e (has_own x.order)) in
    simp own ((ap (λ (t : Arrived). Some t.order) it, refl))
stands_there r (suc i) (y ∷ ys) x d here e =
    let rest = stands_there r i ys x (tail_distinct y.order (map its_order ys) d) here e in
    let other = none_before r y.order (map its_order ys) x.order d rest.0 in
    simp other rest

-- the next order of the locate, after one at a place of the line, is the one after it in the book
pub after_in_line : (r i next : ℕ) (es : List (ℕ × Arrived)) (laid : Option (List Arrived)) (line : List Arrived) (o : Option Order) → IsArrived es next → IsLineOr (values_of es) laid → laid ≡ Some line
    → IsSomeAnd (slice_get line i) (λ x. x.order.reference ≡ r)
    → IfSome (slice_get line i) (λ x. o ≡ find (is_in x.order.locate) (map its_order (drop (i + 1) line)))
    → o ≡ after (settled (values_of es)) r
after_in_line r i next es laid line o is lies e = by (slice_get line i) refl
  where
    there : IsLineOr (values_of es) (Some line)
    there = subst (IsLineOr (values_of es)) e lies

    same : map its_order line ≡ settled (values_of es)
    same = ap (map its_order) there

    by : (q : Option Arrived) → slice_get line i ≡ q → IsSomeAnd q (λ x. x.order.reference ≡ r) → IfSome q (λ x. o ≡ find (is_in x.order.locate) (map its_order (drop (i + 1) line))) → o ≡ after (settled (values_of es)) r
    by None here ref next = absurd ref
    by (Some x) here ref next =
        let stands = stands_there r i line x (subst IsDistinct (sym same) is.book.distinct) here ref in
        next ∙ ap (λ n. find (is_in x.order.locate) (map its_order (drop n line))) (add-one i)
        ∙ ap (find (is_in x.order.locate)) (sym stands.1)
        ∙ ap (λ (q : Option Order). next_in q r (map its_order line)) (sym stands.0)
        ∙ ap (λ (os : List Order). after os r) same
