-- The orders after an order in its locate.
use Rattle.std.proofs.Common.{◌≡◌, ℕ, ◌==◌, ◌&&◌, Bool, true, false, eqb, not, List, [], ◌∷◌, ◌++◌, filter, find, Option, Some, None, refl, sym, ap, ◌∙◌, subst}
use Rattle.std.specs.List.{AllByRecursion}
use Rattle.std.proofs.lemmas.Bool.{false≢true, and_parts}
use Rattle.itch_codec.specs.declared.orders.Side.{Side}
use Rattle.itch_codec.specs.declared.orders.Side.TheVariants.{Buy, Sell}
use Rattle.itch_book.specs.declared.order.Order.{Order}
use Rattle.itch_book.specs.StableLists.{IsInOrder}
use Rattle.itch_book.specs.Orders.{is_level, is_of, is_in, is_worse, is_next, same_side, first, stands_before, has_reference, get, following, next_in, after, IsBook}
use Rattle.itch_book.specs.Queued.{Seen, found, shown}
use Rattle.itch_book.specs.Indexed.{Place, orders_in, indexed, IsIndexed}
use Rattle.itch_book.proofs.Lists.{by_test, All-weaker_rec, All-both_rec, All-found_rec, found_passes}
use Rattle.itch_book.proofs.Distinct.{own_reference, find_first}
use Rattle.itch_book.proofs.StableLemmas.{not_itself}
use Rattle.itch_book.proofs.OrderLemmas.{stands_order, stands_of, ties_level}
use Rattle.itch_book.proofs.LinkLemmas.{In, NotIn, eqb_itself, eqb_is, not_in_head, not_in_tail}
use Rattle.itch_book.proofs.QueueSteps.{same_some, inj}
use Rattle.itch_book.proofs.IndexSteps.{level_is, level_own, get_some}
use Rattle.itch_book.proofs.PutLemmas.{level_says}
use Rattle.itch_book.proofs.FrontLemmas.{find_wider, find_alike, find_none, none_find, in_sides, sides_apart}
use Rattle.itch_book.proofs.IndexLemmas.{line_at}

-- the orders after one are not before it
back_of : (r : ℕ) (xs : List Order) (x : Order) → IsInOrder stands_before xs → get xs r ≡ Some x → AllByRecursion (λ z. stands_before z x ≡ false) (following r xs)
back_of r [] x order h = tt
back_of r (y ∷ ys) x order h =
    by_test (has_reference r y)
    (λ e. let it : Some y ≡ Some x = simp e at h in simp e (subst (λ (t : Order). AllByRecursion (λ z. stands_before z t ≡ false) ys) (inj it) order.0))
    (λ e. let it : get ys r ≡ Some x = simp e at h in simp e (back_of r ys x order.1 it))

order_following : (r : ℕ) (xs : List Order) → IsInOrder stands_before xs → IsInOrder stands_before (following r xs)
order_following r [] order = tt
order_following r (y ∷ ys) order = by_test (has_reference r y) (λ e. simp e order.1) (λ e. simp e (order_following r ys order.1))

-- if a property holds for no order that x is not before, the first order with it is after x
skip_to : (f : Order → Bool) (r : ℕ) (xs : List Order) (x : Order) → ((z : Order) → stands_before x z ≡ false → f z ≡ false) → IsInOrder stands_before xs → get xs r ≡ Some x → find f xs ≡ find f (following r xs)
skip_to f r [] x none order h = refl
skip_to f r (y ∷ ys) x none order h =
    by_test (has_reference r y)
    (λ e. let it : Some y ≡ Some x = simp e at h in
    let n : f y ≡ false = none y (subst (λ (t : Order). stands_before t y ≡ false) (inj it) (not_itself stands_before stands_order y)) in
    simp (e, n) refl)
    (λ e. let it : get ys r ≡ Some x = simp e at h in
    let n : f y ≡ false = none y (All-found_rec (λ z. stands_before z y ≡ false) (has_reference r) ys x order.0 it) in
    simp (e, n) (skip_to f r ys x none order.1 it))

following_filter : (p : Order → Bool) (r : ℕ) (xs : List Order) (x : Order) → get xs r ≡ Some x → p x ≡ true → following r (filter p xs) ≡ filter p (following r xs)
following_filter p r [] x h k = refl
following_filter p r (y ∷ ys) x h k =
    by_test (has_reference r y)
    (λ e. let it : Some y ≡ Some x = simp e at h in
    let f : p y ≡ true = subst (λ z. p z ≡ true) (sym (inj it)) k in simp (f, e) refl)
    (λ e. let it : get ys r ≡ Some x = simp e at h in
    let rest = following_filter p r ys x it k in
    by_test (p y) (λ f. simp (f, e) rest) (λ f. simp (f, e) rest))

-- keys in two parts, split at the first occurrence of one
pub parts_first : (j : ℕ) (ks : List ℕ) → In j ks → (xs ys : List ℕ) × (ks ≡ xs ++ j ∷ ys) × NotIn j xs
parts_first j [] i = absurd (false≢true i)
parts_first j (k ∷ ks) i =
    by_test (eqb j k)
    (λ e. ([], ks, ap (λ (t : ℕ). t ∷ ks) (sym (eqb_is j k e)), refl))
    (λ e. let it : In j ks = simp e at i in
    let rest = parts_first j ks it in
    (k ∷ rest.0, rest.1, ap (λ (ts : List ℕ). k ∷ ts) rest.2, simp e rest.3))

-- the order is before any order that is neither before it nor at its price
strict : (x z : Order) → stands_before z x ≡ false → is_level x.locate x.side x.price z ≡ false → stands_before x z ≡ true
strict x z a n = by_test (stands_before x z) (λ e. e)
    (λ e. absurd (false≢true (sym n ∙ sym (ties_level x z) ∙ both (stands_before x z) (stands_before z x) e a)))
  where
    both : (u w : Bool) → u ≡ false → w ≡ false → (not u && not w) ≡ true
    both u w e f = simp (e, f) refl

level_before : (x u z : Order) → is_level x.locate x.side x.price u ≡ true → stands_before x z ≡ true → stands_before u z ≡ true
level_before x u z h k =
    let t = level_says x.locate x.side x.price u h in
    subst (λ s. at s u.locate u.price z ≡ true) t.0 (subst (λ l. at x.side l u.price z ≡ true) t.1 (subst (λ p. at x.side x.locate p z ≡ true) t.2 k))
  where
    at : Side → ℕ → ℕ → Order → Bool
    at s l p z = stands_before (record u { side = s; locate = l; price = p }) z

module _ (xs : List Order) (book : IsBook xs) (r : ℕ) (x : Order) (live : get xs r ≡ Some x) where
  abbrev tail : List Order
  tail = following r xs

  back : AllByRecursion (λ z. stands_before z x ≡ false) tail
  back = back_of r xs x book.in_place live

  pub after_tail : after xs r ≡ find (is_in x.locate) (following r xs)
  after_tail = ap (λ o. next_in o r xs) live

  own_side : is_of x.locate x.side x ≡ true
  own_side = (and_parts (is_of x.locate x.side x) (x.price == x.price) (level_own x)).0

  -- the next one at its price, if there is one
  pub next_here : (y : Order) → find (is_level x.locate x.side x.price) (following r xs) ≡ Some y → find (is_in x.locate) (following r xs) ≡ Some y
  next_here y h = find_wider (is_in x.locate) (is_level x.locate x.side x.price) tail (order_following r xs book.in_place)
      (λ z e. (and_parts (is_in x.locate z) (same_side z.side x.side) (and_parts (is_of x.locate x.side z) (z.price == x.price) e).0).0)
      (All-weaker_rec (λ z. stands_before z x ≡ false) (λ z. (u : Order) → is_level x.locate x.side x.price u ≡ true → is_in x.locate z ≡ true → is_level x.locate x.side x.price z ≡ false → stands_before u z ≡ true)
      (λ z a u e f n. level_before x u z e (strict x z a n)) tail back)
      y h

  -- the next order by price is after it
  skip_next : find (is_next x.locate x.side (Some x.price)) xs ≡ find (is_next x.locate x.side (Some x.price)) (following r xs)
  skip_next = skip_to (is_next x.locate x.side (Some x.price)) r xs x
      (λ z n. by_test (is_next x.locate x.side (Some x.price) z)
      (λ e. let parts = and_parts (is_of x.locate x.side z) (is_worse x.side (Some x.price) z.price) e in
      absurd (false≢true (sym n ∙ stands_of x.locate x.side x z own_side parts.0 ∙ parts.1)))
      (λ e. e)) book.in_place live

  -- an order after it that is not next by price is on the other side
  not_next : (z : Order) → stands_before z x ≡ false → is_level x.locate x.side x.price z ≡ false → is_next x.locate x.side (Some x.price) z ≡ false → is_of x.locate x.side z ≡ false
  not_next z a n m = by_test (is_of x.locate x.side z)
      (λ e. let worse : is_worse x.side (Some x.price) z.price ≡ true = sym (stands_of x.locate x.side x z own_side e) ∙ strict x z a n in
      let no : true ≡ false = simp (e, worse) at m in absurd (false≢true (sym no)))
      (λ e. e)

  not_level : find (is_level x.locate x.side x.price) (following r xs) ≡ None → AllByRecursion (λ z. (stands_before z x ≡ false) × (is_level x.locate x.side x.price z ≡ false)) tail
  not_level none = All-both_rec (λ z. stands_before z x ≡ false) (λ z. is_level x.locate x.side x.price z ≡ false) tail back (none_find (is_level x.locate x.side x.price) tail none)

  -- an order of the locate after it and not of its side is an ask after a bid
  turned : (s : Side) → x.side ≡ s → (z : Order) → stands_before z x ≡ false → is_in x.locate z ≡ true → is_of x.locate x.side z ≡ false → (s ≡ Buy) × (is_of x.locate Sell z ≡ true)
  turned Buy e z a i n = (refl, in_sides x.locate z i (subst (λ t. is_of x.locate t z ≡ false) e n))
  turned Sell e z a i n = by_test (is_of x.locate Buy z)
      (λ f. absurd (false≢true (sym a ∙ sides_apart x.locate z x f (subst (λ t. is_of x.locate t x ≡ true) e own_side))))
      (λ f. absurd (false≢true (sym (subst (λ t. is_of x.locate t z ≡ false) e n) ∙ in_sides x.locate z i f)))

  -- the first order at the next price
  pub next_price_here : (y : Order) → find (is_level x.locate x.side x.price) (following r xs) ≡ None → find (is_next x.locate x.side (Some x.price)) xs ≡ Some y → find (is_in x.locate) (following r xs) ≡ Some y
  next_price_here y none h = find_wider (is_in x.locate) (is_next x.locate x.side (Some x.price)) tail (order_following r xs book.in_place)
      (λ z e. (and_parts (is_in x.locate z) (same_side z.side x.side) (and_parts (is_of x.locate x.side z) (is_worse x.side (Some x.price) z.price) e).0).0)
      (All-weaker_rec (λ z. (stands_before z x ≡ false) × (is_level x.locate x.side x.price z ≡ false)) (λ z. (u : Order) → is_next x.locate x.side (Some x.price) u ≡ true → is_in x.locate z ≡ true → is_next x.locate x.side (Some x.price) z ≡ false → stands_before u z ≡ true)
      (λ z a u e f n.
      let other = turned x.side refl z a.0 f (not_next z a.0 a.1 n) in
      let of_u = (and_parts (is_of x.locate x.side u) (is_worse x.side (Some x.price) u.price) e).0 in
      sides_apart x.locate u z (subst (λ t. is_of x.locate t u ≡ true) other.0 of_u) other.1) tail (not_level none))
      y (sym skip_next ∙ h)

  none_next : find (is_level x.locate x.side x.price) (following r xs) ≡ None → find (is_next x.locate x.side (Some x.price)) xs ≡ None
      → AllByRecursion (λ z. ((stands_before z x ≡ false) × (is_level x.locate x.side x.price z ≡ false)) × (is_next x.locate x.side (Some x.price) z ≡ false)) tail
  none_next none last = All-both_rec (λ z. (stands_before z x ≡ false) × (is_level x.locate x.side x.price z ≡ false)) (λ z. is_next x.locate x.side (Some x.price) z ≡ false) tail (not_level none) (none_find (is_next x.locate x.side (Some x.price)) tail (sym skip_next ∙ last))

  -- no order follows the last ask
  pub last_ask : x.side ≡ Sell → find (is_level x.locate x.side x.price) (following r xs) ≡ None → find (is_next x.locate x.side (Some x.price)) xs ≡ None → find (is_in x.locate) (following r xs) ≡ None
  last_ask side none last = find_none (is_in x.locate) tail
      (All-weaker_rec (λ z. ((stands_before z x ≡ false) × (is_level x.locate x.side x.price z ≡ false)) × (is_next x.locate x.side (Some x.price) z ≡ false)) (λ z. is_in x.locate z ≡ false)
      (λ z a. by_test (is_in x.locate z)
      (λ i. let other = turned Sell side z a.0.0 i (not_next z a.0.0 a.0.1 a.1) in
      let no : Sell ≡ Buy = other.0 in absurd (let no_one : ⊥ = cc in no_one))
      (λ i. i)) tail (none_next none last))

  -- and the first ask follows the last bid
  pub last_bid : x.side ≡ Buy → find (is_level x.locate x.side x.price) (following r xs) ≡ None → find (is_next x.locate x.side (Some x.price)) xs ≡ None → find (is_in x.locate) (following r xs) ≡ find (is_of x.locate Sell) xs
  last_bid side none last =
      find_alike (is_in x.locate) (is_of x.locate Sell) tail
      (All-weaker_rec (λ z. ((stands_before z x ≡ false) × (is_level x.locate x.side x.price z ≡ false)) × (is_next x.locate x.side (Some x.price) z ≡ false)) (λ z. is_in x.locate z ≡ is_of x.locate Sell z)
      (λ z a. by_test (is_in x.locate z)
      (λ i. i ∙ sym (turned Buy side z a.0.0 i (not_next z a.0.0 a.0.1 a.1)).1)
      (λ i. i ∙ sym (none_of z i))) tail (none_next none last))
      ∙ sym (skip_to (is_of x.locate Sell) r xs x
      (λ z n. by_test (is_of x.locate Sell z)
      (λ e. absurd (false≢true (sym n ∙ sides_apart x.locate x z (subst (λ t. is_of x.locate t x ≡ true) side own_side) e)))
      (λ e. e)) book.in_place live)
    where
      none_of : (z : Order) → is_in x.locate z ≡ false → is_of x.locate Sell z ≡ false
      none_of z i = simp i refl

module _ (references : ℕ → Option ℕ) (bids asks : List (Place × ℕ)) (w : Seen) (is : IsIndexed references bids asks w)
    (r k : ℕ) (x : Order) (node : references r ≡ Some k) (here : w.orders k ≡ Some x) where
  pub live_is : get (indexed w bids asks) r ≡ Some x
  live_is = get_some references bids asks w is r k x node here

  has : has_reference r x ≡ true
  has = found_passes (has_reference r) (indexed w bids asks) x live_is

  after_found : (before after_it : List ℕ) → NotIn k before → following r (found w.orders (before ++ k ∷ after_it)) ≡ found w.orders after_it
  after_found [] ks n = ap (λ o. following r (shown o (found w.orders ks))) here ∙ simp has refl
  after_found (j ∷ js) ks n = by_order (w.orders j) refl (after_found js ks (not_in_tail k j js n))
    where
      by_order : (o : Option Order) → w.orders j ≡ o → following r (found w.orders (js ++ k ∷ ks)) ≡ found w.orders ks → following r (shown (w.orders j) (found w.orders (js ++ k ∷ ks))) ≡ found w.orders ks
      by_order None h rest = ap (λ o. following r (shown o (found w.orders (js ++ k ∷ ks)))) h ∙ rest
      by_order (Some y) h rest = ap (λ o. following r (shown o (found w.orders (js ++ k ∷ ks)))) h ∙ by_test (has_reference r y)
          (λ e. let same : j ≡ k = same_some (is.named j y h) (ap references (own_reference r y e) ∙ node) in
          absurd (false≢true (sym (not_in_head k j js n) ∙ subst (λ t. eqb k t ≡ true) (sym same) (eqb_itself k))))
          (λ e. simp e rest)

  -- the orders after it in its queue are those after it at its price
  pub line_after : (before after_it : List ℕ) → NotIn k before → (is.listed k x here).keys ≡ before ++ k ∷ after_it → find (is_level x.locate x.side x.price) (following r (indexed w bids asks)) ≡ first (found w.orders after_it)
  line_after before ks n parts =
      let place = is.listed k x here in
      find_first (is_level x.locate x.side x.price) (following r (indexed w bids asks))
      ∙ ap first (sym (following_filter (is_level x.locate x.side x.price) r (indexed w bids asks) x live_is (level_own x))
      ∙ ap (following r) (level_is references bids asks w is x.locate x.side x.price ∙ ap (line_at w) place.at_price ∙ ap (orders_in w.orders) (place.keys_are ∙ ap Some parts))
      ∙ after_found before ks n)
