-- The next price of a side, in a book's list.
use Rattle.std.proofs.Common.{◌≡◌, ℕ, true, false, List, [], ◌∷◌, Option, Some, None, IfSome, IfNone, Contains, refl, sym, ◌∙◌, subst, arith}
use Rattle.std.specs.List.{AllByRecursion}
use Rattle.std.proofs.lemmas.Bool.{and_parts, false≢true}
use Rattle.std.proofs.lemmas.List.Elements.{Contains-append_right}
use Rattle.itch_codec.specs.declared.orders.Side.{Side}
use Rattle.itch_book.specs.declared.order.Order.{Order}
use Rattle.itch_book.specs.StableLists.{IsInOrder}
use Rattle.itch_book.specs.Orders.{is_better, is_of, is_worse, is_next, next_price, stands_before, IsBook}
use Rattle.itch_book.proofs.Lists.{by_test, All-weaker_rec}
use Rattle.itch_book.proofs.OrderLemmas.{stands_of}
use Rattle.itch_book.proofs.QueueLemmas.{not_itself}

module _ (l : ℕ) (s : Side) (last : Option ℕ) where
  found_here : (y : Order) (ys : List Order) → is_next l s last y ≡ true → next_price (y ∷ ys) l s last ≡ Some y.price
  found_here y ys e = simp e refl

  found_after : (y : Order) (ys : List Order) → is_next l s last y ≡ false → next_price (y ∷ ys) l s last ≡ next_price ys l s last
  found_after y ys e = simp e refl

  abbrev IsBest : List Order → ℕ → Type 0
  IsBest orders price = AllByRecursion (λ x. is_next l s last x ≡ true → is_better s x.price price ≡ false) orders

  abbrev Stands : List Order → ℕ → Type 0
  Stands orders price = (x : Order) × Contains orders x × (is_next l s last x ≡ true) × (x.price ≡ price)

  best_more : (y : Order) (ys : List Order) → is_next l s last y ≡ false → (o : Option ℕ) → IfSome o (IsBest ys) → IfSome o (IsBest (y ∷ ys))
  best_more y ys e None h = tt
  best_more y ys e (Some price) h = (λ f. absurd (false≢true (sym e ∙ f)), h)

  best_in : (orders : List Order) → IsInOrder stands_before orders → IfSome (next_price orders l s last) (IsBest orders)
  best_in [] h = tt
  best_in (y ∷ ys) h =
      by_test (is_next l s last y)
      (λ e. subst (λ o. IfSome o (IsBest (y ∷ ys))) (sym (found_here y ys e)) (
        λ f. not_itself s y.price,
        All-weaker_rec (λ x. stands_before x y ≡ false) (λ x. is_next l s last x ≡ true → is_better s x.price y.price ≡ false)
            (λ x k f. sym (stands_of l s x y (and_parts (is_of l s x) (is_worse s last x.price) f).0 (and_parts (is_of l s y) (is_worse s last y.price) e).0) ∙ k) ys h.0,
      ))
      (λ e. subst (λ o. IfSome o (IsBest (y ∷ ys))) (sym (found_after y ys e)) (best_more y ys e (next_price ys l s last) (best_in ys h.1)))

  stands_more : (y : Order) (ys : List Order) (o : Option ℕ) → IfSome o (Stands ys) → IfSome o (Stands (y ∷ ys))
  stands_more y ys None h = tt
  stands_more y ys (Some price) h = (h.0, Contains-append_right (y ∷ []) ys h.0 h.1, h.2, h.3)

  -- the next price is the price of an order
  pub next_stands : (orders : List Order) → IfSome (next_price orders l s last) (Stands orders)
  next_stands [] = tt
  next_stands (y ∷ ys) =
      by_test (is_next l s last y)
      (λ e. subst (λ o. IfSome o (Stands (y ∷ ys))) (sym (found_here y ys e)) (y, (0, omega arith, refl), e, refl))
      (λ e. subst (λ o. IfSome o (Stands (y ∷ ys))) (sym (found_after y ys e)) (stands_more y ys (next_price ys l s last) (next_stands ys)))

  none_more : (y : Order) (ys : List Order) → is_next l s last y ≡ false → (o : Option ℕ) → IfNone o (AllByRecursion (λ x. is_next l s last x ≡ false) ys) → IfNone o (AllByRecursion (λ x. is_next l s last x ≡ false) (y ∷ ys))
  none_more y ys e None h = (e, h)
  none_more y ys e (Some price) h = tt

  -- if there is no next price, no order has such a price
  pub next_none : (orders : List Order) → IfNone (next_price orders l s last) (AllByRecursion (λ x. is_next l s last x ≡ false) orders)
  next_none [] = tt
  next_none (y ∷ ys) =
      by_test (is_next l s last y)
      (λ e. subst (λ o. IfNone o (AllByRecursion (λ x. is_next l s last x ≡ false) (y ∷ ys))) (sym (found_here y ys e)) tt)
      (λ e. subst (λ o. IfNone o (AllByRecursion (λ x. is_next l s last x ≡ false) (y ∷ ys))) (sym (found_after y ys e)) (none_more y ys e (next_price ys l s last) (next_none ys)))

-- no order with such a price has a better one
pub next_best : (orders : List Order) (l : ℕ) (s : Side) (last : Option ℕ) → IsBook orders
    → IfSome (next_price orders l s last) (λ price. AllByRecursion (λ x. is_next l s last x ≡ true → is_better s x.price price ≡ false) orders)
next_best orders l s last b = best_in l s last orders b.in_place
