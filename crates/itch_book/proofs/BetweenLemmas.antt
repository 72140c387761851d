-- The orders at a price are contiguous in a sorted line: between the ends of two searches.
use Rattle.std.proofs.Common.{◌≡◌, ℕ, ◌≤◌, ◌<◌, ◌+◌, ◌-◌, ◌==◌, nat_lt, Bool, true, false, not, ◌&&◌, List, [], ◌∷◌, ◌++◌, map, length, take, drop, filter, get_or, None, refl, sym, ap, ap₂, ◌∙◌, subst, arith, inl, inr}
use Rattle.std.specs.List.{sum_by}
use Rattle.std.specs.List.Sorted.{IsPartitionedBy, IsPartitionPoint}
use Rattle.std.proofs.lemmas.Bool.{false≢true, cases_eq, not-true, not-false, not_from_false}
use Rattle.std.proofs.lemmas.Bool.Decides.{nat_tests}
use Rattle.std.proofs.lemmas.List.{append-nil, length-map, length-take-le, get_or-take, get_or-drop, length-drop, take-append-drop, drop-take}
use Rattle.std.proofs.lemmas.List.Elements.{filter-append}
use Rattle.std.proofs.lemmas.List.Sums.{sum_by-cons}
use Rattle.std.proofs.ByRecursion.{All-from_get_or}
use Rattle.itch_codec.specs.declared.orders.Side.{Side}
use Rattle.itch_codec.specs.declared.orders.Side.TheVariants.{Buy, Sell}
use Rattle.itch_book.specs.declared.order.Order.{Order}
use Rattle.itch_book.specs.declared.arrived.Arrived.{Arrived}
use Rattle.itch_book.specs.StableLists.{IsInOrder}
use Rattle.itch_book.specs.Orders.{same_side, place_before, stands_before, is_level, level, level_total}
use Rattle.itch_book.specs.Settled.{comes_before, its_order}
use Rattle.itch_book.proofs.Lists.{by_test, filter_none, filter-map}
use Rattle.itch_book.proofs.OrderLemmas.{stands_order}
use Rattle.itch_book.proofs.PlaceLemmas.{in_order_places}
use Rattle.itch_book.proofs.LineLemmas.{not_standing}

-- an order at a price, of which only the position matters
abbrev pub spot : ℕ → Side → ℕ → Order
spot l s p = record { reference = 0; shares = 0; price = p; locate = l; side = s; mpid = None }

-- the order is at this price
abbrev pub at_level : ℕ → Side → ℕ → Arrived → Bool
at_level l s p x = is_level l s p x.order

abbrev pub ahead : Order → Arrived → Bool
ahead t y = stands_before y.order t

abbrev pub not_past : Order → Arrived → Bool
not_past t y = not (stands_before t y.order)

-- the orders at the same place are equal; otherwise the order of the line decides
module _ (t : Order) (line : List Arrived) (h : IsInOrder comes_before line) where
  pub ahead_parted : IsPartitionedBy (ahead t) line
  ahead_parted i j d le within e =
      elim (cases_eq i j) [
        | inl same ↦ rw same e
        | inr differ ↦ by_test (ahead t (get_or line i d))
            (λ f. f)
            (λ f. absurd (false≢true (sym (stands_order.chain (get_or line j d).order (get_or line i d).order t
            (not_standing (get_or line i d) (get_or line j d) (in_order_places comes_before line i j d h (omega arith) within)) f) ∙ e)))
      ]

  pub past_parted : IsPartitionedBy (not_past t) line
  past_parted i j d le within e =
      let last : stands_before t (get_or line j d).order ≡ false = not-true (stands_before t (get_or line j d).order) e in
      elim (cases_eq i j) [
        | inl same ↦ rw same e
        | inr differ ↦ not_from_false (stands_before t (get_or line i d).order)
            (stands_order.chain t (get_or line j d).order (get_or line i d).order last
            (not_standing (get_or line i d) (get_or line j d) (in_order_places comes_before line i j d h (omega arith) within)))
      ]

ahead_off : (t s : Side) (m q l p : ℕ) → place_before m t q l s p ≡ true → (((m == l) && same_side t s) && (q == p)) ≡ false
ahead_off Buy Buy m q l p h = grind (arith, nat_tests)
ahead_off Buy Sell m q l p h = grind (arith, nat_tests)
ahead_off Sell Buy m q l p h = grind (arith, nat_tests)
ahead_off Sell Sell m q l p h = grind (arith, nat_tests)

past_off : (t s : Side) (m q l p : ℕ) → place_before l s p m t q ≡ true → (((m == l) && same_side t s) && (q == p)) ≡ false
past_off Buy Buy m q l p h = grind (arith, nat_tests)
past_off Buy Sell m q l p h = grind (arith, nat_tests)
past_off Sell Buy m q l p h = grind (arith, nat_tests)
past_off Sell Sell m q l p h = grind (arith, nat_tests)

-- if a property does not hold before a place, or from a place on, a filter is the filter of the rest
cut_front : {X : Type 0} (p : X → Bool) (xs : List X) (i : ℕ) (d : X) → i ≤ length xs → ((k : ℕ) → k < i → p (get_or xs k d) ≡ false) → filter p (drop i xs) ≡ filter p xs
cut_front p xs i d within h =
    let long = length-take-le i xs within in
    let none : filter p (take i xs) ≡ [] = filter_none p (take i xs) (All-from_get_or (λ x. p x ≡ false) (take i xs) d
    (λ k lt. let here : k < i = omega (arith, long) in subst (λ x. p x ≡ false) (sym (get_or-take i xs k d here)) (h k here))) in
    sym (ap (filter p) (sym (take-append-drop i xs)) ∙ filter-append p (take i xs) (drop i xs) ∙ ap (λ t. t ++ filter p (drop i xs)) none)

cut_back : {X : Type 0} (p : X → Bool) (xs : List X) (i : ℕ) (d : X) → ((k : ℕ) → i ≤ k → k < length xs → p (get_or xs k d) ≡ false) → filter p (take i xs) ≡ filter p xs
cut_back p xs i d h =
    let long = length-drop i xs in
    let none : filter p (drop i xs) ≡ [] = filter_none p (drop i xs) (All-from_get_or (λ x. p x ≡ false) (drop i xs) d
    (λ k lt. subst (λ x. p x ≡ false) (sym (get_or-drop i xs k d)) (h (i + k) (omega arith) (omega (arith, long))))) in
    sym (ap (filter p) (sym (take-append-drop i xs)) ∙ filter-append p (take i xs) (drop i xs) ∙ ap (λ t. filter p (take i xs) ++ t) none ∙ append-nil (filter p (take i xs)))

level_shown : (l : ℕ) (s : Side) (p : ℕ) (xs : List Arrived) → level (map its_order xs) l s p ≡ map its_order (filter (at_level l s p) xs)
level_shown l s p xs = filter-map (is_level l s p) (at_level l s p) its_order (λ x. refl) xs

shares_shown : (ys : List Arrived) → sum_by (λ (x : Order). x.shares) (map its_order ys) ≡ sum_by (λ (x : Arrived). x.order.shares) ys
shares_shown [] = refl
shares_shown (y ∷ ys) =
    sum_by-cons (λ (x : Order). x.shares) y.order (map its_order ys)
    ∙ ap (λ n. y.order.shares + n) (shares_shown ys)
    ∙ sym (sum_by-cons (λ (x : Arrived). x.order.shares) y ys)

-- the total of a price, summed over the orders by arrival
pub total_shown : (l : ℕ) (s : Side) (p : ℕ) (xs : List Arrived)
    → ◌≡◌ {A = ℕ × ℕ} (sum_by (λ (x : Arrived). x.order.shares) (filter (at_level l s p) xs), length (filter (at_level l s p) xs)) (level_total (map its_order xs) l s p)
total_shown l s p xs =
    let e = level_shown l s p xs in let ys = filter (at_level l s p) xs in
    ap₂ (λ a b. (a, b)) (sym (ap (sum_by (λ (x : Order). x.shares)) e ∙ shares_shown ys)) (sym (ap length e ∙ length-map ys its_order))

module _ (l : ℕ) (s : Side) (p : ℕ) (line : List Arrived) (i j : ℕ) (i_in : i ≤ length line) (j_in : j ≤ length line)
    (start : IsPartitionPoint (λ y. ahead (spot l s p) y ≡ true) (λ y. ahead (spot l s p) y ≡ false) line i)
    (end : IsPartitionPoint (λ y. not_past (spot l s p) y ≡ true) (λ y. not_past (spot l s p) y ≡ false) line j) where
  nobody : Arrived
  nobody = record { order = spot l s p; arrival = 0 }

  before_off : (k : ℕ) → k < i → at_level l s p (get_or line k nobody) ≡ false
  before_off k lt =
      let y = (get_or line k nobody).order in
      ahead_off y.side s y.locate y.price l p (start.0 k nobody (omega arith) lt)

  past_spot : (k : ℕ) → j ≤ k → k < length line → stands_before (spot l s p) (get_or line k nobody).order ≡ true
  past_spot k le lt = not-false (stands_before (spot l s p) (get_or line k nobody).order) (end.1 k nobody le lt)

  behind_off : (k : ℕ) → j ≤ k → k < length line → at_level l s p (get_or line k nobody) ≡ false
  behind_off k le lt = let y = (get_or line k nobody).order in past_off y.side s y.locate y.price l p (past_spot k le lt)

  pub ends : i ≤ j
  ends =
      by_test (nat_lt j i)
      (λ e. let lt : j < i = grind (arith, nat_tests) in
      absurd (false≢true (sym (stands_order.one_way (spot l s p) (get_or line j nobody).order (past_spot j (omega arith) (omega arith))) ∙ start.0 j nobody (omega arith) lt)))
      (λ e. grind (arith, nat_tests))

  filter_between : filter (at_level l s p) (take (j - i) (drop i line)) ≡ filter (at_level l s p) line
  filter_between =
      let le = ends in
      let long = length-take-le j line j_in in
      let split : i + (j - i) ≡ j = omega arith in
      ap (filter (at_level l s p)) (sym (drop-take i (j - i) line) ∙ ap (λ n. drop i (take n line)) split)
      ∙ cut_front (at_level l s p) (take j line) i nobody (omega (arith, long))
      (λ k lt. subst (λ x. at_level l s p x ≡ false) (sym (get_or-take j line k nobody (omega arith))) (before_off k lt))
      ∙ cut_back (at_level l s p) line j nobody behind_off

  pub total_between : level_total (map its_order (take (j - i) (drop i line))) l s p ≡ level_total (map its_order line) l s p
  total_between =
      sym (total_shown l s p (take (j - i) (drop i line)))
      ∙ ap (λ (ys : List Arrived). (sum_by (λ (x : Arrived). x.order.shares) ys, length ys)) filter_between
      ∙ total_shown l s p line
