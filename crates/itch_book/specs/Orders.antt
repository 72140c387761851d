-- A book as the list of its orders, and the effect of each change on such a list. Names in quotes are the sections of TotalView-ITCH 5.0 on
-- the messages that make the change.
use Rattle.std.specs.Prelude.{◌≡◌, ℕ, ◌-◌, ◌≤◌, ◌<◌, ◌==◌, nat_lt, Bool, true, false, not, ◌&&◌, ◌||◌, if◌then◌else◌, List, [], ◌∷◌, ◌++◌, map, length, Option, Some, None, option_map, suc, zero}
use Rattle.std.specs.List.{filter, find, sum_by, AllByRecursion}
use Rattle.itch_book.specs.declared.order.Order.{Order}
use Rattle.itch_codec.specs.declared.orders.Side.{Side}
use Rattle.itch_codec.specs.declared.orders.Side.TheVariants.{Buy, Sell}
use Rattle.itch_book.specs.StableLists.{in_order, IsInOrder}

-- a better price: a bid is better the higher it is, an ask the lower
abbrev pub is_better : Side → ℕ → ℕ → Bool
is_better Buy p q = nat_lt q p
is_better Sell p q = nat_lt p q

-- the two sides are the same
abbrev pub same_side : Side → Side → Bool
same_side Buy Buy = true
same_side Buy Sell = false
same_side Sell Buy = false
same_side Sell Sell = true

-- an order of this locate and side
abbrev pub is_of : ℕ → Side → Order → Bool
is_of locate side x = (x.locate == locate) && same_side x.side side

-- the orders of a locate and side, the better price first, and at the same price in order of arrival
abbrev pub queue : List Order → ℕ → Side → List Order
queue orders locate side = in_order (λ x y. is_better side x.price y.price) (filter (is_of locate side) orders)

-- the orders of a locate, bids before asks, each side by priority
abbrev pub sides : List Order → ℕ → List Order
sides orders locate = queue orders locate Buy ++ queue orders locate Sell

-- the orders of the locates below n, locate by locate
abbrev pub queues_below : ℕ → List Order → List Order
queues_below zero orders = []
queues_below (suc n) orders = queues_below n orders ++ sides orders n

-- the orders in snapshot order: locates in ascending order, and the orders of each are bids before asks, by priority
unfoldable pub lay : List Order → List Order
lay orders = queues_below 65536 orders

-- an order of the first locate, side and price comes before one of the second in snapshot order:
-- by ascending locate, bids before asks, and then the better price first
abbrev pub place_before : ℕ → Side → ℕ → ℕ → Side → ℕ → Bool
place_before l Buy p m Buy q = nat_lt l m || (l == m && nat_lt q p)
place_before l Buy p m Sell q = nat_lt l m || l == m
place_before l Sell p m Buy q = nat_lt l m
place_before l Sell p m Sell q = nat_lt l m || (l == m && nat_lt p q)

-- x comes before y in snapshot order, for any order of arrival
abbrev pub stands_before : Order → Order → Bool
stands_before x y = place_before x.locate x.side x.price y.locate y.side y.price

-- the locate fits two bytes
abbrev pub fits : Order → Bool
fits x = nat_lt x.locate 65536

-- every locate fits two bytes
abbrev pub AllFit : List Order → Type 0
AllFit orders = AllByRecursion (λ x. fits x ≡ true) orders

-- the order has this reference
abbrev pub has_reference : ℕ → Order → Bool
has_reference reference x = x.reference == reference

-- the order with a reference, if it is live
abbrev pub get : List Order → ℕ → Option Order
get orders reference = find (has_reference reference) orders

-- the orders without the one with this reference ("Order Delete Message")
abbrev pub without : ℕ → List Order → List Order
without reference orders = filter (λ x. not (has_reference reference x)) orders

-- the order with n shares fewer, if it has this reference
abbrev pub less : ℕ → ℕ → Order → Order
less reference shares x = if has_reference reference x then record x { shares = x.shares - shares } else x

-- the order has shares left
abbrev pub has_shares : Order → Bool
has_shares x = not (x.shares == 0)

-- the orders after shares were taken from the one with this reference, which is removed if no shares are left ("Order Executed Message",
-- "Order Cancel Message")
abbrev pub taken : ℕ → ℕ → List Order → List Order
taken reference shares orders = filter has_shares (map (less reference shares) orders)

-- one more order, which arrived last ("Add Order Message")
abbrev pub added : Order → List Order → List Order
added x orders = orders ++ x ∷ []

-- the orders after a replacement of this order, if there is one
abbrev pub replaced_by : Option Order → ℕ → ℕ → ℕ → ℕ → List Order → List Order
replaced_by None original reference shares price orders = orders
replaced_by (Some x) original reference shares price orders =
    without original orders ++ record x { reference = reference; shares = shares; price = price } ∷ []

-- the orders with a new order in place of another one, with its locate, side and attribution; the new one arrived last ("Order Replace
-- Message")
abbrev pub replaced : ℕ → ℕ → ℕ → ℕ → List Order → List Order
replaced original reference shares price orders = replaced_by (get orders original) original reference shares price orders

-- each reference belongs to at most one order
abbrev pub IsDistinct : List Order → Type 0
IsDistinct orders = (reference : ℕ) → length (filter (has_reference reference) orders) ≤ 1

-- an order that may be live: its locate fits, and it has shares
abbrev pub IsLive : Order → Type 0
IsLive x = (0 < x.shares) × (fits x ≡ true)

-- the list of a book: in snapshot order, with only live orders, each with a unique reference
pub record IsBook (orders : List Order) : Type 0 where
  pub in_place : IsInOrder stands_before orders
  pub distinct : IsDistinct orders
  pub live : AllByRecursion IsLive orders

-- an order of this locate
abbrev pub is_in : ℕ → Order → Bool
is_in locate x = x.locate == locate

-- the orders after the one with this reference
abbrev pub following : ℕ → List Order → List Order
following reference [] = []
following reference (x ∷ xs) = if has_reference reference x then xs else following reference xs

-- the next order of the same locate after this order, if there is one
abbrev pub next_in : Option Order → ℕ → List Order → Option Order
next_in None reference orders = None
next_in (Some x) reference orders = find (is_in x.locate) (following reference orders)

-- the next order of the same locate after the one with this reference
abbrev pub after : List Order → ℕ → Option Order
after orders reference = next_in (get orders reference) reference orders

-- an order, and the orders of its locate after it
abbrev pub from_order : List Order → Option Order → List Order
from_order orders None = []
from_order orders (Some x) = x ∷ filter (is_in x.locate) (following x.reference orders)

-- the price is worse than another one, if one is given
abbrev pub is_worse : Side → Option ℕ → ℕ → Bool
is_worse side None price = true
is_worse side (Some last) price = is_better side last price

-- an order of this locate and side whose price is worse than the last, if there is a last one
abbrev pub is_next : ℕ → Side → Option ℕ → Order → Bool
is_next locate side last x = is_of locate side x && is_worse side last x.price

-- the best price of a side, or the best one worse than the last
abbrev pub next_price : List Order → ℕ → Side → Option ℕ → Option ℕ
next_price orders locate side last = option_map (λ x. x.price) (find (is_next locate side last) orders)

-- an order of this locate, side and price
abbrev pub is_level : ℕ → Side → ℕ → Order → Bool
is_level locate side price x = is_of locate side x && (x.price == price)

-- the orders of a locate and side at one price
abbrev pub level : List Order → ℕ → Side → ℕ → List Order
level orders locate side price = filter (is_level locate side price) orders

-- all shares at a price, and the number of orders
abbrev pub level_total : List Order → ℕ → Side → ℕ → ℕ × ℕ
level_total orders locate side price = (sum_by (λ x. x.shares) (level orders locate side price), length (level orders locate side price))

-- the first order
abbrev pub first : List Order → Option Order
first [] = None
first (x ∷ xs) = Some x

-- the order has this price
abbrev pub is_at_price : ℕ → Order → Bool
is_at_price price x = x.price == price

-- the one list of the orders of a locate and side in which better prices come first, and the orders at the same price are in order of arrival
pub record IsQueue (orders : List Order) (locate : ℕ) (side : Side) (line : List Order) : Type 0 where
  pub better_first : IsInOrder (λ x y. is_better side x.price y.price) line
  pub as_they_came : (price : ℕ) → filter (is_at_price price) line ≡ filter (is_at_price price) (filter (is_of locate side) orders)
