-- The total of a price, summed over all orders in any order.
use Rattle.std.proofs.Common.{◌≡◌, ℕ, List, map, length, filter, refl, sym, ap, ap₂, ◌∙◌}
use Rattle.std.specs.List.{sum_by}
use Rattle.std.proofs.lemmas.List.Sorted.{IsPermutation-map, sum_by-IsPermutation, length_permutation}
use Rattle.itch_codec.specs.declared.orders.Side.{Side}
use Rattle.itch_book.specs.declared.order.Order.{Order}
use Rattle.itch_book.specs.declared.arrived.Arrived.{Arrived}
use Rattle.itch_book.specs.StableLists.{in_order}
use Rattle.itch_book.specs.Orders.{is_level, level, level_total}
use Rattle.itch_book.specs.Settled.{comes_before, its_order, settled}
use Rattle.itch_book.proofs.Lists.{filter-map}
use Rattle.itch_book.proofs.StableLemmas.{in_order-filter}
use Rattle.itch_book.proofs.Rises.{IsPermutation-in_order}
use Rattle.itch_book.proofs.SettledLemmas.{arrival_order}

-- the orders of a price among others, in any order
abbrev level_of : ℕ → Side → ℕ → List Arrived → List Order
level_of l s p xs = map its_order (filter (λ x. is_level l s p x.order) xs)

abbrev shares_in : List Order → ℕ
shares_in xs = sum_by (λ x. x.shares) xs

level_settled : (l : ℕ) (s : Side) (p : ℕ) (xs : List Arrived) → level (settled xs) l s p ≡ map its_order (in_order comes_before (filter (λ x. is_level l s p x.order) xs))
level_settled l s p xs =
    filter-map (is_level l s p) (λ x. is_level l s p x.order) its_order (λ x. refl) (in_order comes_before xs)
    ∙ ap (map its_order) (in_order-filter comes_before arrival_order (λ x. is_level l s p x.order) xs)

total_is : (l : ℕ) (s : Side) (p : ℕ) (xs : List Arrived) → ◌≡◌ {A = ℕ × ℕ} (shares_in (level_of l s p xs), length (level_of l s p xs)) (level_total (settled xs) l s p)
total_is l s p xs =
    let ys = filter (λ (x : Arrived). is_level l s p x.order) xs in
    let moved = IsPermutation-map its_order ys (in_order comes_before ys) (IsPermutation-in_order comes_before ys) in
    let e = level_settled l s p xs in
    ap₂ (λ a b. (a, b))
    (sym (ap shares_in e ∙ sum_by-IsPermutation (λ (x : Order). x.shares) (map its_order ys) (map its_order (in_order comes_before ys)) moved))
    (sym (ap length e ∙ length_permutation (map its_order ys) (map its_order (in_order comes_before ys)) moved))

-- the total over the orders in any order is the total of the line
pub total_settled : (l : ℕ) (s : Side) (p : ℕ) (xs : List Arrived) → level_total (map its_order xs) l s p ≡ level_total (settled xs) l s p
total_settled l s p xs =
    ap (λ (ys : List Order). (shares_in ys, length ys)) (filter-map (is_level l s p) (λ x. is_level l s p x.order) its_order (λ x. refl) xs) ∙ total_is l s p xs
