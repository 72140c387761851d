-- The effect of each change of the orders on the laid list, and the properties of a book's list.
use Rattle.std.proofs.Common.{◌≡◌, ℕ, ◌<◌, ◌-◌, Bool, true, cond, not, List, [], ◌∷◌, ◌++◌, map, filter, find, Option, Some, None, refl, sym, ap, ◌∙◌}
use Rattle.std.specs.List.{AllByRecursion}
use Rattle.std.proofs.lemmas.Bool.{cond_both}
use Rattle.std.proofs.lemmas.List.Elements.{filter-append}
use Rattle.itch_codec.specs.declared.orders.Side.{Side}
use Rattle.itch_book.specs.declared.order.Order.{Order}
use Rattle.itch_book.specs.StableLists.{in_order}
use Rattle.itch_book.specs.Orders.{is_of, is_in, queue, sides, lay, stands_before, fits, AllFit, IsLive, IsDistinct, IsBook, first, has_reference, get, without, less, has_shares, taken, added, replaced_by, replaced}
use Rattle.itch_book.proofs.Lists.{by_test, filter_swap, filter-map}
use Rattle.itch_book.proofs.StableLemmas.{later_in, IsInOrder-filter, IsInOrder-in_order, in_order-map, in_order-filter, in_order-sorted, in_order-push}
use Rattle.itch_book.proofs.Distinct.{find_first, live_fit, live_added, live_without, live_taken, live_replaced, IsDistinct-added, IsDistinct-without, IsDistinct-taken, IsDistinct-replaced}
use Rattle.itch_book.proofs.OrderLemmas.{stands_order, queue_is, both_queues, lay_is, lay_fit, lay_twice, All-lay, IsDistinct-lay}
pub use Rattle.itch_book.proofs.OrderLemmas.{get-lay, AllAt-lay}
pub use Rattle.itch_book.proofs.Distinct.{AllAt-added, AllAt-taken, AllAt-without, AllAt-replaced}

-- one more order is inserted at its place in the laid list
pub lay-added : (x : Order) (os : List Order) → lay (added x os) ≡ cond (fits x) (later_in stands_before x (lay os)) (lay os)
lay-added x os =
    lay_is (added x os)
    ∙ ap (in_order stands_before) (filter-append fits os (x ∷ []))
    ∙ by_test (fits x)
    (λ e. simp e (in_order-push stands_before stands_order (filter fits os) x ∙ ap (later_in stands_before x) (sym (lay_is os))))
    (λ e. simp e (ap (in_order stands_before) (append_nothing (filter fits os)) ∙ sym (lay_is os)))
  where
    append_nothing : (xs : List Order) → xs ++ [] ≡ xs
    append_nothing [] = refl
    append_nothing (y ∷ ys) = ap (λ t. y ∷ t) (append_nothing ys)

-- an order added to lists with the same laid list
pub added_alike : (x : Order) (xs ys : List Order) → lay xs ≡ lay ys → lay (added x xs) ≡ lay (added x ys)
added_alike x xs ys same = lay-added x xs ∙ ap (λ t. cond (fits x) (later_in stands_before x t) t) same ∙ sym (lay-added x ys)

pub lay-added_laid : (x : Order) (os : List Order) → lay (added x (lay os)) ≡ lay (added x os)
lay-added_laid x os = added_alike x (lay os) os (lay_twice os)

-- filtering the laid list gives the laid filtered list
pub lay-filter : (p : Order → Bool) (os : List Order) → lay (filter p os) ≡ filter p (lay os)
lay-filter p os =
    lay_is (filter p os)
    ∙ ap (in_order stands_before) (filter_swap fits p os)
    ∙ sym (in_order-filter stands_before stands_order p (filter fits os))
    ∙ ap (filter p) (sym (lay_is os))

pub lay-filter_laid : (p : Order → Bool) (os : List Order) → lay (filter p (lay os)) ≡ lay (filter p os)
lay-filter_laid p os = lay-filter p (lay os) ∙ ap (filter p) (lay_twice os) ∙ sym (lay-filter p os)

pub lay-without : (r : ℕ) (os : List Order) → lay (without r os) ≡ without r (lay os)
lay-without r os = lay-filter (λ x. not (has_reference r x)) os

pub lay-without_laid : (r : ℕ) (os : List Order) → lay (without r (lay os)) ≡ lay (without r os)
lay-without_laid r os = lay-filter_laid (λ x. not (has_reference r x)) os

less_fits : (r n : ℕ) (x : Order) → fits (less r n x) ≡ fits x
less_fits r n x = cond_both (has_reference r x) (record x { shares = x.shares - n }) x (λ y. fits y ≡ fits x) (λ e. refl) (λ e. refl)

pub less_stands : (r n : ℕ) (x y : Order) → stands_before (less r n x) (less r n y) ≡ stands_before x y
less_stands r n x y =
    cond_both (has_reference r x) (record x { shares = x.shares - n }) x (λ a. stands_before a (less r n y) ≡ stands_before x y)
    (λ e. cond_both (has_reference r y) (record y { shares = y.shares - n }) y (λ b. stands_before (record x { shares = x.shares - n }) b ≡ stands_before x y) (λ f. refl) (λ f. refl))
    (λ e. cond_both (has_reference r y) (record y { shares = y.shares - n }) y (λ b. stands_before x b ≡ stands_before x y) (λ f. refl) (λ f. refl))

-- taking shares does not move any order
pub lay-less : (r n : ℕ) (os : List Order) → lay (map (less r n) os) ≡ map (less r n) (lay os)
lay-less r n os =
    lay_is (map (less r n) os)
    ∙ ap (in_order stands_before) (filter-map fits fits (less r n) (less_fits r n) os)
    ∙ sym (in_order-map stands_before stands_before (less r n) (less_stands r n) (filter fits os))
    ∙ ap (map (less r n)) (sym (lay_is os))

pub lay-taken : (r n : ℕ) (os : List Order) → lay (taken r n os) ≡ taken r n (lay os)
lay-taken r n os = lay-filter has_shares (map (less r n) os) ∙ ap (filter has_shares) (lay-less r n os)

pub lay-taken_laid : (r n : ℕ) (os : List Order) → lay (taken r n (lay os)) ≡ lay (taken r n os)
lay-taken_laid r n os = lay-taken r n (lay os) ∙ ap (taken r n) (lay_twice os) ∙ sym (lay-taken r n os)

pub lay-replaced_laid : (original reference shares price : ℕ) (os : List Order) → IsDistinct os → AllFit os
    → lay (replaced original reference shares price (lay os)) ≡ lay (replaced original reference shares price os)
lay-replaced_laid original reference shares price os d h =
    ap (λ o. lay (replaced_by o original reference shares price (lay os))) (get-lay os original d h) ∙ by_order (get os original)
  where
    by_order : (found : Option Order) → lay (replaced_by found original reference shares price (lay os)) ≡ lay (replaced_by found original reference shares price os)
    by_order None = lay_twice os
    by_order (Some x) =
        added_alike (record x { reference = reference; shares = shares; price = price }) (without original (lay os)) (without original os) (lay-without_laid original os)

-- a book's list is its own laid list
pub lay-book : (xs : List Order) → IsBook xs → lay xs ≡ xs
lay-book xs b = lay_fit xs (live_fit xs b.live) ∙ in_order-sorted stands_before xs b.in_place

-- orders that may be live, with distinct references, make a book's list
pub IsBook-lay : (xs : List Order) → IsDistinct xs → AllByRecursion IsLive xs → IsBook (lay xs)
IsBook-lay xs d live = record {
  in_place = rw (lay_fit xs (live_fit xs live)) (IsInOrder-in_order stands_before stands_order xs);
  distinct = IsDistinct-lay xs d;
  live = All-lay IsLive xs live;
}

-- in a book's list a queue is a contiguous part, and so are the two queues of a locate
pub queue-book : (xs : List Order) (l : ℕ) (s : Side) → IsBook xs → queue xs l s ≡ filter (is_of l s) xs
queue-book xs l s b = queue_is xs l s ∙ in_order-sorted stands_before (filter (is_of l s) xs) (IsInOrder-filter stands_before (is_of l s) xs b.in_place)

pub sides-book : (xs : List Order) (l : ℕ) → IsBook xs → sides xs l ≡ filter (is_in l) xs
sides-book xs l b = both_queues xs l ∙ in_order-sorted stands_before (filter (is_in l) xs) (IsInOrder-filter stands_before (is_in l) xs b.in_place)

-- the first order of a locate and side is the first of the queue
pub front_book : (xs : List Order) (l : ℕ) (s : Side) → IsBook xs → find (is_of l s) xs ≡ first (queue xs l s)
front_book xs l s b = find_first (is_of l s) xs ∙ ap first (sym (queue-book xs l s b))

-- the list after each change is a book's list
pub IsBook-added : (x : Order) (xs : List Order) → IsBook xs → IsLive x → get xs x.reference ≡ None → IsBook (lay (added x xs))
IsBook-added x xs b live fresh = IsBook-lay (added x xs) (IsDistinct-added x xs fresh b.distinct) (live_added x xs live b.live)

pub IsBook-taken : (r n : ℕ) (xs : List Order) → IsBook xs → IsBook (lay (taken r n xs))
IsBook-taken r n xs b = IsBook-lay (taken r n xs) (IsDistinct-taken r n xs b.distinct) (live_taken r n xs b.live)

pub IsBook-without : (r : ℕ) (xs : List Order) → IsBook xs → IsBook (lay (without r xs))
IsBook-without r xs b = IsBook-lay (without r xs) (IsDistinct-without r xs b.distinct) (live_without r xs b.live)

pub IsBook-replaced : (original reference shares price : ℕ) (xs : List Order) → IsBook xs → 0 < shares → get xs reference ≡ None → IsBook (lay (replaced original reference shares price xs))
IsBook-replaced original reference shares price xs b some fresh =
    IsBook-lay (replaced original reference shares price xs)
    (IsDistinct-replaced original reference shares price xs fresh b.distinct)
    (live_replaced original reference shares price xs some b.live)

-- a book's list after shares are taken, an order is removed, or an order is added
pub taken-book : (r n : ℕ) (xs : List Order) → IsBook xs → lay (taken r n xs) ≡ taken r n xs
taken-book r n xs b = lay-taken r n xs ∙ ap (taken r n) (lay-book xs b)

pub without-book : (r : ℕ) (xs : List Order) → IsBook xs → lay (without r xs) ≡ without r xs
without-book r xs b = lay-without r xs ∙ ap (without r) (lay-book xs b)

pub added-book : (x : Order) (xs : List Order) → IsBook xs → fits x ≡ true → lay (added x xs) ≡ later_in stands_before x xs
added-book x xs b h = lay-added x xs ∙ simp h (ap (later_in stands_before x) (lay-book xs b))
