-- The best price of an index, and the first order.
use Rattle.std.proofs.Common.{◌≡◌, ℕ, ◌^◌, ◌<◌, ◌==◌, ◌&&◌, Bool, true, false, List, [], ◌∷◌, ◌++◌, find, Option, Some, None, IsSome, option_map, refl, sym, ap, ◌∙◌, subst, arith}
use Rattle.std.specs.List.{AllByRecursion}
use Rattle.std.proofs.lemmas.Bool.{false≢true, and_parts}
use Rattle.std.proofs.lemmas.Bool.Decides.{nat_tests}
use Rattle.itch_codec.specs.declared.orders.Side.{Side}
use Rattle.itch_codec.specs.declared.orders.Side.TheVariants.{Buy, Sell}
use Rattle.itch_book.specs.declared.order.Order.{Order}
use Rattle.itch_book.specs.StableLists.{IsInOrder}
use Rattle.itch_book.specs.Orders.{is_level, is_of, is_in, is_better, is_worse, is_next, next_price, same_side, first, stands_before}
use Rattle.itch_book.specs.Queued.{Seen, found, shown}
use Rattle.itch_book.specs.Indexed.{Place, orders_in, joined, indexed, queue_of_side, has_keys, IsIndexed, IsNextLevel, IsNextOr}
use Rattle.itch_book.proofs.Lists.{by_test, All-append_rec, All-weaker_rec, All-found_rec, found_passes}
use Rattle.itch_book.proofs.Distinct.{find_first}
use Rattle.itch_book.proofs.OrderLemmas.{All-lay, stands_of, locate_is, side_is, of_in}
use Rattle.itch_book.proofs.LinkLemmas.{in_head}
use Rattle.itch_book.proofs.IndexSteps.{All-joined, level_is}
use Rattle.itch_book.proofs.IndexLemmas.{line_at}

-- the first match of a condition is the first match of a narrower one, if the narrower matches are before all others
pub find_wider : (f g : Order → Bool) (xs : List Order) → IsInOrder stands_before xs → ((y : Order) → g y ≡ true → f y ≡ true)
    → AllByRecursion (λ y. (x : Order) → g x ≡ true → f y ≡ true → g y ≡ false → stands_before x y ≡ true) xs → (x : Order) → find g xs ≡ Some x → find f xs ≡ Some x
find_wider f g [] order wider following x h = h
find_wider f g (y ∷ ys) order wider following x h =
    by_test (g y)
    (λ e. let it : Some y ≡ Some x = simp e at h in let passes = wider y e in simp passes it)
    (λ e. let it : find g ys ≡ Some x = simp e at h in
    by_test (f y)
    (λ passes. absurd (false≢true (sym (All-found_rec (λ z. stands_before z y ≡ false) g ys x order.0 it) ∙ following.0 x (found_passes g ys x it) passes e)))
    (λ fails. simp fails (find_wider f g ys order.1 wider following.1 x it)))

pub find_alike : (f g : Order → Bool) (xs : List Order) → AllByRecursion (λ y. f y ≡ g y) xs → find f xs ≡ find g xs
find_alike f g [] h = refl
find_alike f g (y ∷ ys) h =
    by_test (g y)
    (λ e. let k : f y ≡ true = h.0 ∙ e in simp (e, k) refl)
    (λ e. let k : f y ≡ false = h.0 ∙ e in simp (e, k) (find_alike f g ys h.1))

pub find_none : (f : Order → Bool) (xs : List Order) → AllByRecursion (λ y. f y ≡ false) xs → find f xs ≡ None
find_none f [] h = refl
find_none f (y ∷ ys) h = let e = h.0 in simp e (find_none f ys h.1)

pub none_find : (f : Order → Bool) (xs : List Order) → find f xs ≡ None → AllByRecursion (λ y. f y ≡ false) xs
none_find f [] h = tt
none_find f (y ∷ ys) h = by_test (f y)
    (λ e. let it : Some y ≡ None = simp e at h in absurd (let no_one : ⊥ = cc in no_one))
    (λ e. let it : find f ys ≡ None = simp e at h in (e, none_find f ys it))

pub All-every : (P : Order → Type 0) → ((y : Order) → P y) → (xs : List Order) → AllByRecursion P xs
All-every P h [] = tt
All-every P h (y ∷ ys) = (h y, All-every P h ys)

-- parts of a level
pub level_of_is : (l : ℕ) (s : Side) (p : ℕ) (x : Order) → is_level l s p x ≡ true → (is_of l s x ≡ true) × (x.price ≡ p)
level_of_is l s p x h = ((and_parts (is_of l s x) (x.price == p) h).0, grind (arith, nat_tests))

-- an order of the side whose price is neither better nor equal is after the orders of this price
after_level : (l : ℕ) (s : Side) (p : ℕ) (x y : Order) → is_level l s p x ≡ true → is_of l s y ≡ true → is_level l s p y ≡ false → is_better s y.price p ≡ false → stands_before x y ≡ true
after_level l s p x y h k n best =
    let parts = level_of_is l s p x h in
    stands_of l s x y parts.0 k ∙ ap (λ q. is_better s q y.price) parts.1 ∙ other s (simp k at n) best
  where
    other : (t : Side) → (y.price == p) ≡ false → is_better t y.price p ≡ false → is_better t p y.price ≡ true
    other Buy e b = grind (arith, nat_tests)
    other Sell e b = grind (arith, nat_tests)

module _ (references : ℕ → Option ℕ) (bids asks : List (Place × ℕ)) (v : Seen) (is : IsIndexed references bids asks v) where
  abbrev IsPlaced : Order → Type 0
  IsPlaced x = IsSome (queue_of_side x.side bids asks x.locate x.price) × (x.price < 2 ^ 32)

  -- each order is in the queue of its price
  pub placed : AllByRecursion (λ x. IsSome (queue_of_side x.side bids asks x.locate x.price) × (x.price < 2 ^ 32)) (indexed v bids asks)
  placed = All-lay IsPlaced (joined v bids ++ joined v asks) (All-append_rec IsPlaced (joined v bids) (joined v asks) (All-joined IsPlaced v each bids) (All-joined IsPlaced v each asks))
    where
      each : (k : ℕ) (x : Order) → v.orders k ≡ Some x → IsPlaced x
      each k x h = (subst IsSome (sym (is.listed k x h).at_price) refl, is.priced k x h)

  of_place : (l : ℕ) (s : Side) (x : Order) → is_of l s x ≡ true → IsSome (queue_of_side x.side bids asks x.locate x.price) → IsSome (queue_of_side s bids asks l x.price)
  of_place l s x h some = subst (λ t. IsSome (queue_of_side t bids asks l x.price)) (side_is l s x h) (subst (λ m. IsSome (queue_of_side x.side bids asks m x.price)) (locate_is l s x h) some)

  pub next_level_none : (l : ℕ) (s : Side) (last : Option ℕ) → IsNextOr (queue_of_side s bids asks l) s last None → find (is_next l s last) (indexed v bids asks) ≡ None
  next_level_none l s last none = find_none (is_next l s last) (indexed v bids asks)
      (All-weaker_rec IsPlaced (λ y. is_next l s last y ≡ false) (λ y at. by_test (is_next l s last y)
      (λ e. let parts = and_parts (is_of l s y) (is_worse s last y.price) e in
      absurd (false≢true (subst IsSome (none y.price at.1 parts.1) (of_place l s y parts.0 at.0))))
      (λ n. n)) (indexed v bids asks) placed)

  pub next_level_some : (l : ℕ) (s : Side) (last : Option ℕ) (e : ℕ × ℕ) (ks : List ℕ) → IsNextLevel (queue_of_side s bids asks l) s last e → v.keys e.1 ≡ Some ks → has_keys (Some ks) ≡ true
      → (find (is_next l s last) (indexed v bids asks) ≡ first (found v.orders ks)) × (next_price (indexed v bids asks) l s last ≡ Some e.0)
  next_level_some l s last e [] next keys has = absurd (false≢true has)
  next_level_some l s last e (k ∷ ks) next keys has = by_order (v.orders k) refl (is.full e.1 (k ∷ ks) k keys (in_head k ks))
    where
      by_order : (o : Option Order) → v.orders k ≡ o → IsSome o → (find (is_next l s last) (indexed v bids asks) ≡ first (found v.orders (k ∷ ks))) × (next_price (indexed v bids asks) l s last ≡ Some e.0)
      by_order None h some = absurd (false≢true some)
      by_order (Some x) h some =
          let head : first (found v.orders (k ∷ ks)) ≡ Some x = ap (λ o. first (shown o (found v.orders ks))) h in
          let here : find (is_level l s e.0) (indexed v bids asks) ≡ Some x =
          find_first (is_level l s e.0) (indexed v bids asks)
          ∙ ap first (level_is references bids asks v is l s e.0 ∙ ap (line_at v) next.here ∙ ap (orders_in v.orders) keys) ∙ head in
          let wide : find (is_next l s last) (indexed v bids asks) ≡ Some x =
          find_wider (is_next l s last) (is_level l s e.0) (indexed v bids asks) is.book.in_place
          (λ y h. let parts = level_of_is l s e.0 y h in
          let of_it = parts.0 in
          let worse : is_worse s last y.price ≡ true = ap (is_worse s last) parts.1 ∙ next.worse in
          simp (of_it, worse) refl)
          (All-weaker_rec IsPlaced (λ y. (z : Order) → is_level l s e.0 z ≡ true → is_next l s last y ≡ true → is_level l s e.0 y ≡ false → stands_before z y ≡ true)
          (λ y at z h f n. let parts = and_parts (is_of l s y) (is_worse s last y.price) f in
          after_level l s e.0 z y h parts.0 n (next.best y.price at.1 parts.1 (of_place l s y parts.0 at.0))) (indexed v bids asks) placed)
          x here in
          (wide ∙ sym head, ap (option_map (λ (z : Order). z.price)) wide ∙ ap Some (level_of_is l s e.0 x (found_passes (is_level l s e.0) (indexed v bids asks) x here)).1)

-- without a last price, the next order is the first of the side
pub next_all : (l : ℕ) (s : Side) (xs : List Order) → find (is_next l s None) xs ≡ find (is_of l s) xs
next_all l s xs = find_alike (is_next l s None) (is_of l s) xs (All-every (λ y. is_next l s None y ≡ is_of l s y) (λ y. and_true (is_of l s y)) xs)
  where
    and_true : (b : Bool) → (b && true) ≡ b
    and_true true = refl
    and_true false = refl

-- an order of a locate is on one of the two sides
pub in_sides : (l : ℕ) (x : Order) → is_in l x ≡ true → is_of l Buy x ≡ false → is_of l Sell x ≡ true
in_sides l x h n = by_side x.side h n
  where
    by_side : (t : Side) → (x.locate == l) ≡ true → ((x.locate == l) && same_side t Buy) ≡ false → ((x.locate == l) && same_side t Sell) ≡ true
    by_side Buy a b = let no : true ≡ false = simp a at b in absurd (false≢true (sym no))
    by_side Sell a b = simp a refl

-- bids are before asks
pub sides_apart : (l : ℕ) (x y : Order) → is_of l Buy x ≡ true → is_of l Sell y ≡ true → stands_before x y ≡ true
sides_apart l x y h k = by_sides x.side y.side (side_is l Buy x h) (side_is l Sell y k)
  where
    place : (t u : Side) → Order → Order → Bool
    place t u a b = stands_before (record a { side = t }) (record b { side = u })

    by_sides : (t u : Side) → t ≡ Buy → u ≡ Sell → place t u x y ≡ true
    by_sides Buy Sell e f = let a : x.locate ≡ y.locate = locate_is l Buy x h ∙ sym (locate_is l Sell y k) in grind (arith, nat_tests)
    by_sides Buy Buy e f = absurd (let no_one : ⊥ = cc in no_one)
    by_sides Sell Buy e f = absurd (let no_one : ⊥ = cc in no_one)
    by_sides Sell Sell e f = absurd (let no_one : ⊥ = cc in no_one)

-- the first order of a locate is the first bid, or else the first ask
pub first_bid : (l : ℕ) (xs : List Order) (x : Order) → IsInOrder stands_before xs → find (is_of l Buy) xs ≡ Some x → find (is_in l) xs ≡ Some x
first_bid l xs x order h = find_wider (is_in l) (is_of l Buy) xs order (λ y k. of_in l Buy y k)
    (All-every (λ y. (z : Order) → is_of l Buy z ≡ true → is_in l y ≡ true → is_of l Buy y ≡ false → stands_before z y ≡ true) (λ y z a b n. sides_apart l z y a (in_sides l y b n)) xs) x h

pub first_ask : (l : ℕ) (xs : List Order) → find (is_of l Buy) xs ≡ None → find (is_in l) xs ≡ find (is_of l Sell) xs
first_ask l xs h = find_alike (is_in l) (is_of l Sell) xs
    (All-weaker_rec (λ y. is_of l Buy y ≡ false) (λ y. is_in l y ≡ is_of l Sell y)
    (λ y n. by_test (is_in l y) (λ e. e ∙ sym (in_sides l y e n)) (λ e. e ∙ sym (none_of y e))) xs (none_find (is_of l Buy) xs h))
  where
    none_of : (y : Order) → is_in l y ≡ false → is_of l Sell y ≡ false
    none_of y e = simp e refl
