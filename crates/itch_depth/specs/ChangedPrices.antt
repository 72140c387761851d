-- The price at which a message changes orders. A price that is behind as many others as requested changes no best price.
use Rattle.std.specs.Prelude.{◌≡◌, ℕ, ◌-◌, ◌==◌, Bool, false, not, ◌&&◌, ◌||◌, if◌then◌else◌, List, length, slice_get, Option, None, Some, option_map}
use Rattle.std.specs.List.{filter}
use Rattle.itch_codec.specs.Headers.{reference_of}
use Rattle.itch_codec.specs.declared.message.Message.{Message}
use Rattle.itch_codec.specs.declared.message.Message.TheVariants as is
use Rattle.itch_codec.specs.declared.orders.AddOrder.{AddOrder}
use Rattle.itch_codec.specs.declared.orders.Side.{Side}
use Rattle.itch_book.specs.declared.order.Order.{Order}
use Rattle.itch_book.specs.Orders.{get, is_better, is_of}
use Rattle.itch_depth.specs.declared.changes.best.DepthLevel.{DepthLevel}
use Rattle.itch_depth.specs.declared.changes.changed_price.ChangedPrice.{ChangedPrice}

-- the price of a new order
abbrev pub price_of_add : AddOrder → ChangedPrice
price_of_add x = record { locate = x.header.locate; side = x.side; price = x.price }

-- the price of a live order
abbrev pub price_of_order : Order → ChangedPrice
price_of_order x = record { locate = x.locate; side = x.side; price = x.price }

-- the better of two prices
abbrev pub better_of : Side → ℕ → ℕ → ℕ
better_of side price other = if is_better side other price then other else price

-- the better price of an order and of the one that replaces it
abbrev pub replaced_by : ℕ → Order → ChangedPrice
replaced_by price x = record { locate = x.locate; side = x.side; price = better_of x.side x.price price }

-- the order with a reference, if there is one
abbrev pub order_with : List Order → Option ℕ → Option Order
order_with orders None = None
order_with orders (Some reference) = get orders reference

-- the best price at which a message changes the orders of a book that takes it, if it changes any
abbrev pub changed_price : List Order → Message → Option ChangedPrice
changed_price orders (is.AddOrder x) = Some (price_of_add x)
changed_price orders (is.AttributedAddOrder x) = Some (price_of_add x.order)
changed_price orders (is.OrderReplace x) = option_map (replaced_by x.price) (get orders x.original)
changed_price orders message = option_map price_of_order (order_with orders (reference_of message))

-- an order elsewhere: of another locate or side, or at a better price
abbrev pub is_elsewhere : ChangedPrice → Order → Bool
is_elsewhere at x = not (is_of at.locate at.side x) || is_better at.side x.price at.price

-- two books have the same orders elsewhere
abbrev pub AreSameElsewhere : ChangedPrice → List Order → List Order → Type 0
AreSameElsewhere at old new = filter (is_elsewhere at) new ≡ filter (is_elsewhere at) old

-- there is a price, and it is better
abbrev pub is_past : Side → ℕ → Option DepthLevel → Bool
is_past side price None = false
is_past side price (Some worst) = is_better side worst.price price

-- as many prices as requested are better
abbrev pub is_behind : ℕ → Side → ℕ → List DepthLevel → Bool
is_behind depth side price known = (length known == depth) && is_past side price (slice_get known (length known - 1))
