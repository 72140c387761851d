-- A queue is the only line of its orders that is sorted by priority.
use Rattle.std.proofs.Common.{◌≡◌, ℕ, ◌<◌, ◌+◌, ◌==◌, true, false, not, ◌&&◌, List, [], ◌∷◌, filter, Some, None, IsPermutation, inl, inr, refl, sym, ◌∙◌, subst, arith}
use Rattle.std.specs.List.{AllByRecursion}
use Rattle.std.proofs.lemmas.Bool.{false≢true}
use Rattle.std.proofs.lemmas.Bool.Decides.{nat_tests}
use Rattle.itch_codec.specs.declared.orders.Side.{Side}
use Rattle.itch_codec.specs.declared.orders.Side.TheVariants.{Buy, Sell}
use Rattle.itch_book.specs.declared.order.Order.{Order}
use Rattle.itch_book.specs.Orders.{is_better, is_of, is_at_price, queue, has_reference, get, IsDistinct, IsQueue}
use Rattle.itch_book.specs.Priority.{arrival, HasPriority, IsByPriority, IsLine}
use Rattle.itch_book.proofs.Lists.{by_test, All-weaker_rec}
use Rattle.itch_book.proofs.StableLemmas.{IsInOrder-in_order}
use Rattle.itch_book.proofs.Levels.{ties, ordered_same, in_order-tied}
use Rattle.itch_book.proofs.Distinct.{has_own, head_distinct, tail_distinct, IsDistinct-filter}
use Rattle.itch_book.proofs.OrderLemmas.{better_order, filter_alike}
use Rattle.itch_book.proofs.Rises.{Rises, Rises-weaker, Rises-filter, Rises-from_places, places_exactly, Rises-same, Stably, Rises-in_order, IsPermutation-in_order, short_same}

-- no price is better than itself
pub not_itself : (s : Side) (p : ℕ) → is_better s p p ≡ false
not_itself Buy p = grind (arith, nat_tests)
not_itself Sell p = grind (arith, nat_tests)

-- if neither of two prices is better, they are equal
price_is : (s : Side) (p q : ℕ) → is_better s p q ≡ false → is_better s q p ≡ false → p ≡ q
price_is Buy p q h k = grind (arith, nat_tests)
price_is Sell p q h k = grind (arith, nat_tests)

ties_price : (s : Side) (p q : ℕ) → (not (is_better s p q) && not (is_better s q p)) ≡ (q == p)
ties_price Buy p q = grind (arith, nat_tests)
ties_price Sell p q = grind (arith, nat_tests)

one_price : (s : Side) (price p q : ℕ) → (p == price) ≡ true → (q == price) ≡ true → is_better s q p ≡ false
one_price Buy price p q h k = grind (arith, nat_tests)
one_price Sell price p q h k = grind (arith, nat_tests)

-- a queue has better prices first, and the orders at a price in order of arrival
pub IsQueue-queue : (orders : List Order) (l : ℕ) (s : Side) → IsQueue orders l s (queue orders l s)
IsQueue-queue orders l s = record {
  better_first = IsInOrder-in_order (λ x y. is_better s x.price y.price) (better_order s) (filter (is_of l s) orders);
  as_they_came = λ price. in_order-tied (λ x y. is_better s x.price y.price) (better_order s) (is_at_price price) (λ x y h k. one_price s price x.price y.price h k) (filter (is_of l s) orders);
}

-- and is the only such list
pub IsQueue-unique : (orders : List Order) (l : ℕ) (s : Side) (line : List Order) → IsQueue orders l s line → line ≡ queue orders l s
IsQueue-unique orders l s line h =
    let was = IsQueue-queue orders l s in
    let before = λ (x y : Order). is_better s x.price y.price in
    ordered_same before (better_order s) line (queue orders l s) h.better_first was.better_first (λ z.
    filter_alike (ties before z) (is_at_price z.price) (λ x. ties_price s z.price x.price) line
    ∙ h.as_they_came z.price
    ∙ sym (was.as_they_came z.price)
    ∙ sym (filter_alike (ties before z) (is_at_price z.price) (λ x. ties_price s z.price x.price) (queue orders l s)))

other_reference : (r : ℕ) (x : Order) (xs : List Order) → get xs r ≡ None → has_reference r x ≡ true → AllByRecursion (λ y. has_reference y.reference x ≡ false) xs
other_reference r x [] h e = tt
other_reference r x (y ∷ ys) h e =
    by_test (has_reference r y)
    (λ f. let some : Some y ≡ None = simp f at h in absurd (let no_one : ⊥ = cc in no_one))
    (λ f. let rest : get ys r ≡ None = simp f at h in ((grind (arith, nat_tests)), other_reference r x ys rest e))

-- orders with distinct references arrive one after another
pub arrival_rises : (orders : List Order) → IsDistinct orders → Rises (λ x y. arrival orders x < arrival orders y) orders
arrival_rises [] d = tt
arrival_rises (x ∷ xs) d =
    let own = has_own x in
    let others = other_reference x.reference x xs (head_distinct x xs d) own in
    let zero_is : arrival (x ∷ xs) x ≡ 0 = simp own refl in (
      All-weaker_rec (λ y. has_reference y.reference x ≡ false) (λ y. arrival (x ∷ xs) x < arrival (x ∷ xs) y) (λ y h. let later = one_after x xs y h in omega arith) xs others,
      Rises-weaker (λ y. has_reference y.reference x ≡ false) (λ a b. arrival xs a < arrival xs b) (λ a b. arrival (x ∷ xs) a < arrival (x ∷ xs) b)
          (λ a b h k lt. let a_later = one_after x xs a h in let b_later = one_after x xs b k in omega arith) xs others (arrival_rises xs (tail_distinct x xs d)),
    )
  where
    one_after : (x : Order) (xs : List Order) (y : Order) → has_reference y.reference x ≡ false → arrival (x ∷ xs) y ≡ 1 + arrival xs y
    one_after x xs y h = simp h refl

-- priority is asymmetric
pub priority_one_way : (orders : List Order) (s : Side) (x y : Order) → HasPriority orders s x y → HasPriority orders s y x → ⊥
priority_one_way orders s x y (inl h) (inl k) = false≢true (sym ((better_order s).one_way x y h) ∙ k)
priority_one_way orders s x y (inl h) (inr k) = false≢true (sym (not_itself s x.price) ∙ subst (λ p. is_better s x.price p ≡ true) k.0 h)
priority_one_way orders s x y (inr h) (inl k) = false≢true (sym (not_itself s y.price) ∙ subst (λ p. is_better s y.price p ≡ true) h.0 k)
priority_one_way orders s x y (inr h) (inr k) = let one = h.1 in let other = k.1 in omega arith

pub queue_rises : (orders : List Order) (l : ℕ) (s : Side) → IsDistinct orders → Rises (HasPriority orders s) (queue orders l s)
queue_rises orders l s d =
    let before = λ (x y : Order). is_better s x.price y.price in
    let came = λ (x y : Order). arrival orders x < arrival orders y in
    Rises-weaker (λ x. Unit {0}) (Stably before came) (HasPriority orders s) (λ x y _ _ h. by_case x y h) (queue orders l s) (everywhere (queue orders l s))
    (Rises-in_order before (better_order s) came (filter (is_of l s) orders) (Rises-filter came (is_of l s) orders (arrival_rises orders d)))
  where
    everywhere : (xs : List Order) → AllByRecursion (λ x. Unit {0}) xs
    everywhere [] = tt
    everywhere (x ∷ xs) = (tt, everywhere xs)

    by_case : (x y : Order) → Stably (λ (x y : Order). is_better s x.price y.price) (λ (x y : Order). arrival orders x < arrival orders y) x y → HasPriority orders s x y
    by_case x y (inl e) = inl e
    by_case x y (inr h) = inr (price_is s x.price y.price h.0 h.1, h.2)

-- for any two positions in a queue, one is before the other if and only if its order has priority
pub queue_by_priority : (orders : List Order) (l : ℕ) (s : Side) → IsDistinct orders → IsByPriority orders s (queue orders l s)
queue_by_priority orders l s d = places_exactly (HasPriority orders s) (priority_one_way orders s) (queue orders l s) (queue_rises orders l s d)

pub queue_members : (orders : List Order) (l : ℕ) (s : Side) → IsPermutation (filter (is_of l s) orders) (queue orders l s)
queue_members orders l s = IsPermutation-in_order (λ x y. is_better s x.price y.price) (filter (is_of l s) orders)

pub IsLine-queue : (orders : List Order) (l : ℕ) (s : Side) → IsDistinct orders → IsLine orders l s (queue orders l s)
IsLine-queue orders l s d = record { members = queue_members orders l s; by_priority = queue_by_priority orders l s d }

-- no other list contains the same orders by priority
pub IsLine-unique : (orders : List Order) (l : ℕ) (s : Side) (line : List Order) → IsDistinct orders → IsLine orders l s line → line ≡ queue orders l s
IsLine-unique orders l s line d h =
    Rises-same (HasPriority orders s) (λ x. x.reference) (priority_one_way orders s) line (queue orders l s)
    (Rises-from_places (HasPriority orders s) line (λ i j x y e f lt. (h.by_priority i j x y e f).0 lt))
    (queue_rises orders l s d)
    (λ r.
    let few = IsDistinct-filter (is_of l s) orders d r in
    sym (short_same (has_reference r) (filter (is_of l s) orders) line h.members few)
    ∙ short_same (has_reference r) (filter (is_of l s) orders) (queue orders l s) (queue_members orders l s) few)
