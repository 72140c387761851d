-- Priority, stated directly: which of two orders of a locate and side comes first.
use Rattle.std.specs.Prelude.{◌≡◌, ℕ, ◌<◌, ◌↔◌, ◌⊎◌, true, List, Some, slice_get}
use Rattle.std.specs.List.{filter, position_or_len}
use Rattle.std.specs.List.Sorted.{IsPermutation}
use Rattle.itch_book.specs.declared.order.Order.{Order}
use Rattle.itch_codec.specs.declared.orders.Side.{Side}
use Rattle.itch_book.specs.Orders.{is_better, is_of, has_reference}

-- the position of an order among orders in order of arrival
abbrev pub arrival : List Order → Order → ℕ
arrival orders x = position_or_len (has_reference x.reference) orders

-- x has a better price than y, or the same price and arrived earlier
abbrev pub HasPriority : List Order → Side → Order → Order → Type 0
HasPriority orders side x y = (is_better side x.price y.price ≡ true) ⊎ ((x.price ≡ y.price) × (arrival orders x < arrival orders y))

-- for any two positions of the line: one is before the other if and only if its order has priority
abbrev pub IsByPriority : List Order → Side → List Order → Type 0
IsByPriority orders side line =
    (i j : ℕ) (x y : Order) → slice_get line i ≡ Some x → slice_get line j ≡ Some y → ((i < j) ↔ HasPriority orders side x y)

-- the orders of a locate and side, each as often as it arrived, by priority
pub record IsLine (orders : List Order) (locate : ℕ) (side : Side) (line : List Order) : Type 0 where
  pub members : IsPermutation (filter (is_of locate side) orders) line
  pub by_priority : IsByPriority orders side line
