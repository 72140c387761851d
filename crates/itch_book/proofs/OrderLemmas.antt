-- The laid list and the queues as a stable sort by locate, side and price.
use Rattle.std.proofs.Common.{◌≡◌, ℕ, zero, suc, ◌<◌, ◌==◌, nat_lt, Bool, true, false, cond, not, ◌&&◌, ◌||◌, List, [], ◌∷◌, ◌++◌, filter, refl, sym, ap, ap₂, ◌∙◌, arith}
use Rattle.std.specs.List.{AllByRecursion}
use Rattle.std.specs.Cmp.{IsStrictWeakOrder}
use Rattle.std.proofs.lemmas.Bool.{and_parts}
use Rattle.std.proofs.lemmas.Bool.Decides.{nat_tests}
use Rattle.itch_codec.specs.declared.orders.Side.{Side}
use Rattle.itch_codec.specs.declared.orders.Side.TheVariants.{Buy, Sell}
use Rattle.itch_book.specs.declared.order.Order.{Order}
use Rattle.itch_book.specs.StableLists.{in_order}
use Rattle.itch_book.specs.Orders.{is_better, same_side, is_of, is_in, is_level, level, queue, sides, queues_below, lay, place_before, stands_before, fits, AllFit, IsDistinct, first, has_reference, get}
use Rattle.itch_book.proofs.Lists.{All-filter_rec, passes_filter, filter_none, filter_all, filter_swap}
use Rattle.itch_book.proofs.StableLemmas.{All-in_order, in_order-agree, in_order-short, in_order-filter, in_order-twice, in_order-parts}
use Rattle.itch_book.proofs.Levels.{ties, in_order_same}
use Rattle.itch_book.proofs.Distinct.{AllAt, find_first, IsDistinct-in_order, IsDistinct-filter}

place_one_way : (s t : Side) (l p m q : ℕ) → place_before l s p m t q ≡ true → place_before m t q l s p ≡ false
place_one_way Buy Buy l p m q h = grind (arith, nat_tests)
place_one_way Buy Sell l p m q h = grind (arith, nat_tests)
place_one_way Sell Buy l p m q h = grind (arith, nat_tests)
place_one_way Sell Sell l p m q h = grind (arith, nat_tests)

place_chain : (s t u : Side) (l p m q n r : ℕ) → place_before l s p m t q ≡ false → place_before m t q n u r ≡ false → place_before l s p n u r ≡ false
place_chain Buy Buy Buy l p m q n r h k = grind (arith, nat_tests)
place_chain Buy Buy Sell l p m q n r h k = grind (arith, nat_tests)
place_chain Buy Sell Buy l p m q n r h k = grind (arith, nat_tests)
place_chain Buy Sell Sell l p m q n r h k = grind (arith, nat_tests)
place_chain Sell Buy Buy l p m q n r h k = grind (arith, nat_tests)
place_chain Sell Buy Sell l p m q n r h k = grind (arith, nat_tests)
place_chain Sell Sell Buy l p m q n r h k = grind (arith, nat_tests)
place_chain Sell Sell Sell l p m q n r h k = grind (arith, nat_tests)

-- positions in snapshot order compare like numbers
pub stands_order : IsStrictWeakOrder stands_before
stands_order = record {
  one_way = λ x y h. place_one_way x.side y.side x.locate x.price y.locate y.price h;
  chain = λ x y z h k. place_chain x.side y.side z.side x.locate x.price y.locate y.price z.locate z.price h k;
}

better_one_way : (side : Side) (p q : ℕ) → is_better side p q ≡ true → is_better side q p ≡ false
better_one_way Buy p q h = grind (arith, nat_tests)
better_one_way Sell p q h = grind (arith, nat_tests)

better_chain : (side : Side) (p q r : ℕ) → is_better side p q ≡ false → is_better side q r ≡ false → is_better side p r ≡ false
better_chain Buy p q r h k = grind (arith, nat_tests)
better_chain Sell p q r h k = grind (arith, nat_tests)

-- so do the prices of a side
pub better_order : (side : Side) → IsStrictWeakOrder (λ (x y : Order). is_better side x.price y.price)
better_order side = record {
  one_way = λ x y h. better_one_way side x.price y.price h;
  chain = λ x y z h k. better_chain side x.price y.price z.price h k;
}

pub same_side_is : (s t : Side) → same_side s t ≡ true → s ≡ t
same_side_is Buy Buy h = refl
same_side_is Buy Sell h = absurd (let no_one : ⊥ = cc in no_one)
same_side_is Sell Buy h = absurd (let no_one : ⊥ = cc in no_one)
same_side_is Sell Sell h = refl

pub same_side_self : (s : Side) → same_side s s ≡ true
same_side_self Buy = refl
same_side_self Sell = refl

pub locate_is : (l : ℕ) (s : Side) (x : Order) → is_of l s x ≡ true → x.locate ≡ l
locate_is l s x h = let parts = and_parts (x.locate == l) (same_side x.side s) h in let here = parts.0 in grind (arith, nat_tests)

pub side_is : (l : ℕ) (s : Side) (x : Order) → is_of l s x ≡ true → x.side ≡ s
side_is l s x h = same_side_is x.side s (and_parts (x.locate == l) (same_side x.side s) h).1

pub in_is : (l : ℕ) (x : Order) → is_in l x ≡ true → x.locate ≡ l
in_is l x h = grind (arith, nat_tests)

-- an order of a locate and side is an order of the locate
pub of_in : (l : ℕ) (s : Side) (x : Order) → is_of l s x ≡ true → is_in l x ≡ true
of_in l s x h = (and_parts (x.locate == l) (same_side x.side s) h).0

place_here : (s : Side) (l p q : ℕ) → place_before l s p l s q ≡ is_better s p q
place_here Buy l p q = grind (arith, nat_tests)
place_here Sell l p q = grind (arith, nat_tests)

stands_here : (s t : Side) (l p m q : ℕ) (u : Side) (n : ℕ) → l ≡ n → s ≡ u → m ≡ n → t ≡ u → place_before l s p m t q ≡ is_better u p q
stands_here s t l p m q u n a b c d = rw (a, b, c, d) (place_here u n p q)

-- among the orders of a locate and side, the one with the better price is before the other
pub stands_of : (l : ℕ) (s : Side) (x y : Order) → is_of l s x ≡ true → is_of l s y ≡ true → stands_before x y ≡ is_better s x.price y.price
stands_of l s x y h k = stands_here x.side y.side x.locate x.price y.locate y.price s l (locate_is l s x h) (side_is l s x h) (locate_is l s y k) (side_is l s y k)

-- a queue is a stable sort by position
pub queue_is : (os : List Order) (l : ℕ) (s : Side) → queue os l s ≡ in_order stands_before (filter (is_of l s) os)
queue_is os l s =
    in_order-agree (λ x y. is_better s x.price y.price) stands_before (λ x. is_of l s x ≡ true)
    (λ x y h k. sym (stands_of l s x y h k))
    (filter (is_of l s) os) (passes_filter (is_of l s) os)

bid_first : (s t : Side) (l p m q n : ℕ) → l ≡ n → s ≡ Buy → m ≡ n → t ≡ Sell → place_before l s p m t q ≡ true
bid_first s t l p m q n a b c d = rw (a, b, c, d) (here n)
  where
    here : (n : ℕ) → place_before n Buy p n Sell q ≡ true
    here n = grind (arith, nat_tests)

either_side : (s : Side) (b : Bool) → b ≡ ((b && same_side s Buy) || (b && same_side s Sell))
either_side Buy true = refl
either_side Buy false = refl
either_side Sell true = refl
either_side Sell false = refl

-- the two queues of a locate are a stable sort of its orders
pub both_queues : (os : List Order) (l : ℕ) → sides os l ≡ in_order stands_before (filter (is_in l) os)
both_queues os l =
    ap₂ ◌++◌ (queue_is os l Buy) (queue_is os l Sell)
    ∙ sym (in_order-parts stands_before stands_order (is_of l Buy) (is_of l Sell) (is_in l)
    (λ x y h k. bid_first x.side y.side x.locate x.price y.locate y.price l (locate_is l Buy x h) (side_is l Buy x h) (locate_is l Sell y k) (side_is l Sell y k))
    (λ x. either_side x.side (x.locate == l)) os)

lower_first : (s t : Side) (l p m q : ℕ) → l < m → place_before l s p m t q ≡ true
lower_first Buy Buy l p m q h = grind (arith, nat_tests)
lower_first Buy Sell l p m q h = grind (arith, nat_tests)
lower_first Sell Buy l p m q h = grind (arith, nat_tests)
lower_first Sell Sell l p m q h = grind (arith, nat_tests)

-- an order of a lower locate is before the others
pub lower_stands : (x y : Order) → x.locate < y.locate → stands_before x y ≡ true
lower_stands x y h = lower_first x.side y.side x.locate x.price y.locate y.price h

all_each : (P : Order → Type 0) → ((x : Order) → P x) → (os : List Order) → AllByRecursion P os
all_each P h [] = tt
all_each P h (x ∷ xs) = (h x, all_each P h xs)

-- the queues of the locates below n are a stable sort of their orders
pub below_is : (n : ℕ) (os : List Order) → queues_below n os ≡ in_order stands_before (filter (λ x. nat_lt x.locate n) os)
below_is zero os =
    sym (ap (in_order stands_before) (filter_none (λ x. nat_lt x.locate 0) os (all_each (λ x. nat_lt x.locate 0 ≡ false) (λ x. grind (arith, nat_tests)) os)))
below_is (suc n) os =
    ap₂ ◌++◌ (below_is n os) (both_queues os n)
    ∙ sym (in_order-parts stands_before stands_order (λ x. nat_lt x.locate n) (is_in n) (λ x. nat_lt x.locate (suc n))
    (λ x y h k. lower_stands x y (let same = in_is n y k in grind (arith, nat_tests)))
    (λ x. grind (arith, nat_tests)) os)

-- the laid list is a stable sort by position
pub lay_is : (os : List Order) → lay os ≡ in_order stands_before (filter fits os)
unfolding lay
lay_is os = below_is 65536 os

pub lay_fit : (os : List Order) → AllFit os → lay os ≡ in_order stands_before os
lay_fit os h = lay_is os ∙ ap (in_order stands_before) (filter_all fits os h)

-- the locates of the laid list fit
pub AllFit-lay : (os : List Order) → AllFit (lay os)
AllFit-lay os = rw (lay_is os) (All-in_order stands_before (λ x. fits x ≡ true) (filter fits os) (passes_filter fits os))

pub All-lay : (P : Order → Type 0) (os : List Order) → AllByRecursion P os → AllByRecursion P (lay os)
All-lay P os h = rw (lay_is os) (All-in_order stands_before P (filter fits os) (All-filter_rec P fits os h))

pub AllAt-lay : (P : ℕ → Type 0) (os : List Order) → AllAt P os → AllAt P (lay os)
AllAt-lay P os h = All-lay (λ x. P x.locate) os h

pub lay_twice : (os : List Order) → lay (lay os) ≡ lay os
lay_twice os = lay_fit (lay os) (AllFit-lay os) ∙ ap (in_order stands_before) (lay_is os) ∙ in_order-twice stands_before stands_order (filter fits os) ∙ sym (lay_is os)

pub IsDistinct-lay : (os : List Order) → IsDistinct os → IsDistinct (lay os)
IsDistinct-lay os d = rw (lay_is os) (IsDistinct-in_order stands_before stands_order (filter fits os) (IsDistinct-filter fits os d))

-- the queue of the laid list is the queue of the original list
pub queue-lay : (os : List Order) (l : ℕ) (s : Side) → AllFit os → queue (lay os) l s ≡ queue os l s
queue-lay os l s h =
    queue_is (lay os) l s
    ∙ ap (λ t. in_order stands_before (filter (is_of l s) t)) (lay_fit os h)
    ∙ ap (in_order stands_before) (in_order-filter stands_before stands_order (is_of l s) os)
    ∙ in_order-twice stands_before stands_order (filter (is_of l s) os)
    ∙ sym (queue_is os l s)

-- lists with equal queues for the locates below n have the same joined queues
pub below_same : (n : ℕ) (xs ys : List Order) → ((l : ℕ) (s : Side) → queue xs l s ≡ queue ys l s) → queues_below n xs ≡ queues_below n ys
below_same zero xs ys same = refl
below_same (suc n) xs ys same = ap₂ ◌++◌ (below_same n xs ys same) (ap₂ ◌++◌ (same n Buy) (same n Sell))

-- lists with equal queues have the same laid list
pub lay_same : (xs ys : List Order) → ((l : ℕ) (s : Side) → queue xs l s ≡ queue ys l s) → lay xs ≡ lay ys
unfolding lay
lay_same xs ys same = below_same 65536 xs ys same

-- the orders that tie with an order are those at its level
ties_place : (s t : Side) (l p m q : ℕ) → (not (place_before l s p m t q) && not (place_before m t q l s p)) ≡ (((m == l) && same_side t s) && (q == p))
ties_place Buy Buy l p m q = grind (arith, nat_tests)
ties_place Buy Sell l p m q = grind (arith, nat_tests)
ties_place Sell Buy l p m q = grind (arith, nat_tests)
ties_place Sell Sell l p m q = grind (arith, nat_tests)

pub ties_level : (z x : Order) → ties stands_before z x ≡ is_level z.locate z.side z.price x
ties_level z x = ties_place z.side x.side z.locate z.price x.locate x.price

pub filter_alike : (p q : Order → Bool) → ((x : Order) → p x ≡ q x) → (xs : List Order) → filter p xs ≡ filter q xs
filter_alike p q same [] = refl
filter_alike p q same (x ∷ xs) = ap₂ (λ b t. cond b (x ∷ t) t) (same x) (filter_alike p q same xs)

-- lists that agree at every price level are the same list in snapshot order
pub stands_same : (xs ys : List Order) → ((l : ℕ) (s : Side) (p : ℕ) → level xs l s p ≡ level ys l s p) → in_order stands_before xs ≡ in_order stands_before ys
stands_same xs ys same =
    in_order_same stands_before stands_order xs ys (λ z.
    filter_alike (ties stands_before z) (is_level z.locate z.side z.price) (ties_level z) xs
    ∙ same z.locate z.side z.price
    ∙ sym (filter_alike (ties stands_before z) (is_level z.locate z.side z.price) (ties_level z) ys))

-- lists that agree at every price level have the same laid list
pub lay_same_levels : (xs ys : List Order) → ((l : ℕ) (s : Side) (p : ℕ) → level xs l s p ≡ level ys l s p) → lay xs ≡ lay ys
lay_same_levels xs ys same =
    lay_is xs
    ∙ stands_same (filter fits xs) (filter fits ys) (λ l s p.
    filter_swap (is_level l s p) fits xs ∙ ap (filter fits) (same l s p) ∙ sym (filter_swap (is_level l s p) fits ys))
    ∙ sym (lay_is ys)

-- the order with a reference is the same in the laid list
pub get-in_order : (os : List Order) (r : ℕ) → IsDistinct os → get (in_order stands_before os) r ≡ get os r
get-in_order os r d =
    find_first (has_reference r) (in_order stands_before os)
    ∙ ap first (in_order-filter stands_before stands_order (has_reference r) os ∙ in_order-short stands_before (filter (has_reference r) os) (d r))
    ∙ sym (find_first (has_reference r) os)

pub get-lay : (os : List Order) (r : ℕ) → IsDistinct os → AllFit os → get (lay os) r ≡ get os r
get-lay os r d h = ap (λ t. get t r) (lay_fit os h) ∙ get-in_order os r d
