-- Orders with their arrival numbers, and the list in snapshot order that they form.
use Rattle.std.specs.Prelude.{◌≡◌, ℕ, ◌≤◌, ◌<◌, ◌+◌, ◌-◌, ◌*◌, ◌^◌, ◌==◌, nat_lt, Bool, true, false, not, ◌&&◌, ◌||◌, List, map, length, Option, Some, None, cond}
use Rattle.std.specs.List.{filter, AllByRecursion}
use Rattle.std.specs.Map.{values_of}
use Rattle.itch_codec.specs.declared.orders.Side.{Side}
use Rattle.itch_codec.specs.declared.orders.Side.TheVariants.{Buy, Sell}
use Rattle.itch_book.specs.declared.order.Order.{Order}
use Rattle.itch_book.specs.declared.arrived.Arrived.{Arrived}
use Rattle.itch_book.specs.declared.arrived.Wanted.{Wanted}
use Rattle.itch_book.specs.declared.arrived.Wanted.TheVariants.{In, Next, After}
use Rattle.itch_book.specs.StableLists.{in_order}
use Rattle.itch_book.specs.Orders.{stands_before, same_side, is_in, is_of, is_worse, is_next, IsBook}

-- x is before y in snapshot order: by locate, side and price, or at the same price by arrival
abbrev pub comes_before : Arrived → Arrived → Bool
comes_before x y = stands_before x.order y.order || (not (stands_before y.order x.order) && nat_lt x.arrival y.arrival)

-- a number by side and price: bids before asks, and the better price first
abbrev pub price_rank : Side → ℕ → ℕ
price_rank Buy price = 4294967295 - price
price_rank Sell price = 4294967296 + price

-- the position of x among all as a number: by locate, side and price, and at the same price by arrival
abbrev pub rank : Arrived → ℕ
rank x = (x.order.locate * 8589934592 + price_rank x.order.side x.order.price) * 18446744073709551616 + x.arrival

-- the numbers of x are in their ranges
pub record HasRank (x : Arrived) : Type 0 where
  pub price : x.order.price < 2 ^ 32
  pub arrival : x.arrival < 2 ^ 64

-- the order without its arrival number
abbrev pub its_order : Arrived → Order
its_order x = x.order

-- the orders in snapshot order
abbrev pub settled : List Arrived → List Order
settled xs = map its_order (in_order comes_before xs)

-- the order has this arrival number
abbrev pub came_at : ℕ → Arrived → Bool
came_at n x = x.arrival == n

-- no two orders have the same arrival number
abbrev pub IsApart : List Arrived → Type 0
IsApart xs = (n : ℕ) → length (filter (came_at n) xs) ≤ 1

-- orders by reference, which arrived before the next number
pub record IsArrived (es : List (ℕ × Arrived)) (next : ℕ) : Type 0 where
  pub book : IsBook (settled (values_of es))
  pub keyed : AllByRecursion (λ (e : ℕ × Arrived). e.0 ≡ e.1.order.reference) es
  pub earlier : AllByRecursion (λ (x : Arrived). x.arrival < next) (values_of es)
  pub apart : IsApart (values_of es)

-- the line, if there is one, contains the orders in snapshot order
abbrev pub IsLineOr : List Arrived → Option (List Arrived) → Type 0
IsLineOr xs None = Unit {0}
IsLineOr xs (Some line) = line ≡ in_order comes_before xs

-- the orders as a line, if they are settled
abbrev pub line_if : Bool → List Arrived → Option (List Arrived)
line_if true line = Some line
line_if false line = None

-- orders by reference, which are in snapshot order if they are settled
pub record IsHeld (es : List (ℕ × Arrived)) (next : ℕ) (is_settled : Bool) : Type 0 where
  pub arrived : IsArrived es next
  pub line : IsLineOr (values_of es) (line_if is_settled (values_of es))

-- the orders as contracts describe them: the list in snapshot order, and whether they are stored in that order
pub record Held : Type 0 where
  pub orders : List Order
  pub is_settled : Bool

-- the order is of this locate
abbrev pub is_of_locate : ℕ → Arrived → Bool
is_of_locate locate x = is_in locate x.order

-- the order is of a lower locate
abbrev pub is_lower : ℕ → Arrived → Bool
is_lower locate x = nat_lt x.order.locate locate

-- the order is of a higher locate
abbrev pub is_higher : ℕ → Arrived → Bool
is_higher locate x = nat_lt locate x.order.locate

-- the locate of the wanted orders
abbrev pub locate_of : Wanted → ℕ
locate_of (In locate) = locate
locate_of (Next locate side last) = locate
locate_of (After y) = y.order.locate

-- the order is wanted
abbrev pub wants : Wanted → Arrived → Bool
wants (In locate) x = is_in locate x.order
wants (Next locate side last) x = is_next locate side last x.order
wants (After y) x = is_in y.order.locate x.order && comes_before y x

-- an order of this locate and side, or one after those
abbrev pub is_from : ℕ → Side → Order → Bool
is_from locate side x = nat_lt locate x.locate || ((x.locate == locate) && (same_side side Buy || same_side x.side Sell))

-- all wanted orders are at this one or after it
abbrev pub begins : Wanted → Arrived → Bool
begins (In locate) x = not (nat_lt x.order.locate locate)
begins (Next locate side last) x = is_from locate side x.order && (not (is_of locate side x.order) || is_worse side last x.order.price)
begins (After y) x = comes_before y x

-- the earlier of two orders in snapshot order, if there is a second one
abbrev pub sooner : Arrived → Option Arrived → Option Arrived
sooner x None = Some x
sooner x (Some y) = cond (comes_before x y) (Some x) (Some y)
