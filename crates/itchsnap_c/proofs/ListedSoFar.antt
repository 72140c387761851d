-- The listing of a book so far: the orders of a locate, and the price levels of a side.
use Rattle.std.proofs.Common.{◌≡◌, ℕ, List, [], ◌∷◌, ◌++◌, map, length, Option, Some, None, IfSome, refl, sym, ap, ◌∙◌, subst, append-nil, append_assoc, arith, ◌<◌}
use Rattle.std.proofs.lemmas.List.{map-append}
use Rattle.std.specs.List.{find, sum_by}
use Rattle.itch_codec.specs.declared.orders.Side.{Side}
use Rattle.itch_book.specs.declared.order.Order.{Order}
use Rattle.itch_book.specs.Orders.{IsBook, get, after, from_order, is_in, level_total, next_price, queue}
use Rattle.itch_book.proofs.Walks.{first_left, next_left, first_live, after_live}
use Rattle.itch_book.proofs.QueuePrices.{DonePrices, none_done, one_done, none_left, level_is}
use Rattle.itchsnap_c.specs.declared.answers.BookOrder.{BookOrder}
use Rattle.itchsnap_c.specs.declared.answers.PriceLevel.{PriceLevel}
use Rattle.itchsnap_c.specs.Listings.{level_of, level_row, levels_of, order_row, orders_of}

module _ (orders : List Order) (l : ℕ) where
  -- these were listed, and the next one and those after it remain
  pub record OrdersSoFar (next : Option Order) (items : List BookOrder) : Type 0 where
    pub rows : orders_of orders l ≡ items ++ map order_row (from_order orders next)
    pub live : IfSome next (λ x. get orders x.reference ≡ Some x)

  pub orders_begun : IsBook orders → OrdersSoFar (find (is_in l) orders) []
  orders_begun book = record { rows = ap (map order_row) (first_left orders l book); live = first_live orders l book.distinct }

  module _ (now next : Option Order) (x : Order) (items : List BookOrder) (book : IsBook orders) (so_far : OrdersSoFar now items) (is : now ≡ Some x) (then : next ≡ after orders x.reference) where
    so_far_at : OrdersSoFar (Some x) items
    so_far_at = subst (λ n. OrdersSoFar n items) is so_far

    pub orders_more : OrdersSoFar next (items ++ order_row x ∷ [])
    orders_more = subst (λ n. OrdersSoFar n (items ++ order_row x ∷ [])) (sym then) (record {
      rows = so_far_at.rows ∙ ap (λ xs. items ++ map order_row xs) (next_left orders x book.distinct so_far_at.live)
          ∙ sym (append_assoc items (order_row x ∷ []) (map order_row (from_order orders (after orders x.reference))));
      live = after_live orders x book.distinct so_far_at.live;
    })

    pub orders_fewer : length (from_order orders next) < length (from_order orders now)
    orders_fewer = omega (arith, ap length (next_left orders x book.distinct so_far_at.live), ap (λ n. length (from_order orders n)) is, ap (λ n. length (from_order orders n)) then)

  pub orders_end : (items : List BookOrder) → OrdersSoFar None items → items ≡ orders_of orders l
  orders_end items so_far = sym (so_far.rows ∙ append-nil items)

module _ (orders : List Order) (l : ℕ) (s : Side) where
  -- the levels of the prices up to the last one were listed
  pub record LevelsSoFar (last : Option ℕ) (items : List PriceLevel) : Type 0 where
    pub done : List ℕ
    pub so_far : DonePrices orders l s last done
    pub rows : items ≡ map (level_of (queue orders l s)) done

  pub levels_begun : LevelsSoFar None []
  levels_begun = record { done = []; so_far = none_done orders l s; rows = refl }

  row_is : (price : ℕ) (total : ℕ × ℕ) → total ≡ level_total orders l s price → level_row price total ≡ level_of (queue orders l s) price
  row_is price total is = ap (level_row price) is ∙ ap (λ (xs : List Order). level_row price (sum_by (λ x. x.shares) xs, length xs)) (level_is orders l s price)

  pub levels_more : (last : Option ℕ) (price : ℕ) (total : ℕ × ℕ) (items : List PriceLevel) → IsBook orders → (so_far : LevelsSoFar last items) → next_price orders l s last ≡ Some price
      → total ≡ level_total orders l s price → LevelsSoFar (Some price) (items ++ level_row price total ∷ [])
  levels_more last price total items book so_far next is = record {
    done = so_far.done ++ price ∷ [];
    so_far = one_done orders l s last so_far.done price book so_far.so_far next;
    rows = ap (λ xs. xs ++ level_row price total ∷ []) so_far.rows
        ∙ ap (λ row. map (level_of (queue orders l s)) so_far.done ++ row ∷ []) (row_is price total is)
        ∙ sym (map-append (level_of (queue orders l s)) so_far.done (price ∷ []));
  }

  pub levels_end : (last : Option ℕ) (items : List PriceLevel) → IsBook orders → LevelsSoFar last items → next_price orders l s last ≡ None → items ≡ levels_of orders l s
  levels_end last items book so_far none =
      so_far.rows ∙ ap (map (level_of (queue orders l s)))
      (sym (so_far.so_far.whole ∙ ap (λ ps. so_far.done ++ ps) (none_left orders l s last book none) ∙ append-nil so_far.done))
