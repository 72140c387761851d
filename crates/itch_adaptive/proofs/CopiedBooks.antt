-- A copy of a book, whose orders are added in snapshot order.
use Rattle.std.proofs.Common.{◌≡◌, ℕ, ◌≤◌, ◌<◌, ◌+◌, ◌-◌, zero, suc, false, List, [], ◌∷◌, ◌++◌, length, filter, find, Option, Some, None, IfSome, refl, sym, ap, ◌∙◌, subst, append-nil, append_assoc, arith, length-append}
use Rattle.std.proofs.lemmas.List.Elements.{filter-append}
use Rattle.itch_book.specs.declared.order.Order.{Order}
use Rattle.itch_book.specs.StableLists.{IsInOrder}
use Rattle.itch_book.specs.Orders.{IsBook, IsDistinct, IsLive, added, after, first, from_order, get, has_reference, is_in, lay, queues_below, sides, stands_before}
use Rattle.itch_book.proofs.Lists.{All-found_rec, All-left_rec}
use Rattle.itch_book.proofs.Distinct.{find_first, has_own}
use Rattle.itch_book.proofs.BookLemmas.{lay-book}
use Rattle.itch_book.proofs.Walks.{first_left, next_left, first_live, after_live}

left_in_order : (xs ys : List Order) → IsInOrder stands_before (xs ++ ys) → IsInOrder stands_before xs
left_in_order [] ys h = tt
left_in_order (x ∷ xs) ys h = (All-left_rec (λ y. stands_before y x ≡ false) xs ys h.0, left_in_order xs ys h.1)

left_distinct : (xs ys : List Order) → IsDistinct (xs ++ ys) → IsDistinct xs
left_distinct xs ys d r =
    let parts = ap length (filter-append (has_reference r) xs ys) ∙ length-append (filter (has_reference r) xs) (filter (has_reference r) ys) in
    let one = d r in omega arith

-- the first orders of a book's list are a book's list
left_book : (xs ys : List Order) → IsBook (xs ++ ys) → IsBook xs
left_book xs ys book = record {
  in_place = left_in_order xs ys book.in_place;
  distinct = left_distinct xs ys book.distinct;
  live = All-left_rec IsLive xs ys book.live;
}

-- no earlier order has the reference of an order
new_after : (xs ys : List Order) (x : Order) → IsDistinct (xs ++ x ∷ ys) → get xs x.reference ≡ None
new_after xs ys x d =
    let r = x.reference in
    let own = has_own x in
    let parts = ap length (filter-append (has_reference r) xs (x ∷ ys)) ∙ length-append (filter (has_reference r) xs) (filter (has_reference r) (x ∷ ys)) in
    let here : length (filter (has_reference r) (x ∷ ys)) ≡ length (x ∷ filter (has_reference r) ys) = simp own refl in
    let one = d r in
    find_first (has_reference r) xs ∙ none (filter (has_reference r) xs) (omega arith)
  where
    none : (zs : List Order) → length zs ≤ 0 → first zs ≡ None
    none [] h = refl
    none (z ∷ zs) h = absurd (omega arith)

module _ (orders : List Order) where
  -- the orders at the locates below one number, and those from there up to another
  below_part : (n d m : ℕ) → m ≡ n + d → (later : List Order) × (queues_below m orders ≡ queues_below n orders ++ later)
  below_part n zero m e =
      let same : m ≡ n = omega (arith, e) in
      ([], ap (λ k. queues_below k orders) same ∙ sym (append-nil (queues_below n orders)))
  below_part n (suc d) m e =
      let next : m ≡ suc (n + d) = omega (arith, e) in
      let rest = below_part n d (n + d) refl in (
        rest.0 ++ sides orders (n + d),
        ap (λ k. queues_below k orders) next ∙ ap (λ xs. xs ++ sides orders (n + d)) rest.1 ∙ append_assoc (queues_below n orders) rest.0 (sides orders (n + d)),
      )

  -- these orders were copied, and of those of the locate the next one and those after it remain
  pub record CopiedSoFar (l : ℕ) (next : Option Order) (copied : List Order) : Type 0 where
    pub parts : queues_below l orders ++ sides orders l ≡ copied ++ from_order orders next
    pub live : IfSome next (λ x. get orders x.reference ≡ Some x)

  module _ (book : IsBook orders) where
    all_below : queues_below 65536 orders ≡ orders
    unfolding lay
    all_below = lay-book orders book

    -- the orders at the locates below a number, and all others after them
    below : (n : ℕ) → n ≤ 65536 → (later : List Order) × (orders ≡ queues_below n orders ++ later)
    below n h =
        let rest = below_part n (65536 - n) 65536 (omega arith) in
        (rest.0, sym all_below ∙ rest.1)

    -- a copy of the orders at the locates below a number that is as long as the book has all orders
    pub complete : (n : ℕ) → n ≤ 65536 → length (queues_below n orders) ≡ length orders → queues_below n orders ≡ orders
    complete n h same =
        let rest = below n h in
        let lengths = ap length rest.1 ∙ length-append (queues_below n orders) rest.0 in
        sym (rest.1 ∙ ap (λ xs. queues_below n orders ++ xs) (nothing rest.0 (omega arith)) ∙ append-nil (queues_below n orders))
      where
        nothing : (xs : List Order) → length xs ≤ 0 → xs ≡ []
        nothing [] h = refl
        nothing (x ∷ xs) h = absurd (omega arith)

    -- a copy of the orders at all locates
    pub all_copied : (n : ℕ) → n + 1 ≡ 65536 → queues_below n orders ++ sides orders n ≡ orders
    all_copied n e = let last : suc n ≡ 65536 = omega (arith, e) in ap (λ k. queues_below k orders) last ∙ all_below

    pub copy_begun : (l : ℕ) → CopiedSoFar l (find (is_in l) orders) (queues_below l orders)
    copy_begun l = record { parts = ap (λ xs. queues_below l orders ++ xs) (first_left orders l book); live = first_live orders l book.distinct }

    pub copy_ended : (l : ℕ) (copied : List Order) → CopiedSoFar l None copied → copied ≡ queues_below l orders ++ sides orders l
    copy_ended l copied so_far = sym (so_far.parts ∙ append-nil copied)

    module _ (l : ℕ) (now : Option Order) (x : Order) (copied : List Order) (within : l < 65536) (so_far : CopiedSoFar l now copied) (is : now ≡ Some x) where
      so_far_at : CopiedSoFar l (Some x) copied
      so_far_at = subst (λ n. CopiedSoFar l n copied) is so_far

      abbrev rest : List Order
      rest = from_order orders (after orders x.reference)

      parts_at : queues_below l orders ++ sides orders l ≡ (copied ++ x ∷ []) ++ rest
      parts_at =
          so_far_at.parts ∙ ap (λ xs. copied ++ xs) (next_left orders x book.distinct so_far_at.live)
          ∙ sym (append_assoc copied (x ∷ []) rest)

      -- the copied orders and the next one are the first orders of the book
      first_ones : (later : List Order) × (orders ≡ (copied ++ x ∷ []) ++ later)
      first_ones =
          let left = below (suc l) (omega arith) in
          (rest ++ left.0, left.1 ∙ ap (λ xs. xs ++ left.0) parts_at ∙ append_assoc (copied ++ x ∷ []) rest left.0)

      grown_book : IsBook (copied ++ x ∷ [])
      grown_book = left_book (copied ++ x ∷ []) first_ones.0 (subst IsBook first_ones.1 book)

      -- the next order has shares and a new reference, and becomes the last one
      pub has_shares_left : 0 < x.shares
      has_shares_left = let live = All-found_rec IsLive (has_reference x.reference) orders x book.live so_far_at.live in live.0

      pub is_new : get copied x.reference ≡ None
      is_new = new_after copied [] x grown_book.distinct

      pub copied_more : (next : Option Order) → next ≡ after orders x.reference → CopiedSoFar l next (lay (added x copied))
      copied_more next then = subst (λ n. CopiedSoFar l n (lay (added x copied))) (sym then) (record {
        parts = parts_at ∙ ap (λ xs. xs ++ rest) (sym (lay-book (copied ++ x ∷ []) grown_book));
        live = after_live orders x book.distinct so_far_at.live;
      })

      pub fewer_left : (next : Option Order) → next ≡ after orders x.reference → length (from_order orders next) < length (from_order orders now)
      fewer_left next then =
          omega (arith, ap length (next_left orders x book.distinct so_far_at.live), ap (λ n. length (from_order orders n)) is, ap (λ n. length (from_order orders n)) then)
