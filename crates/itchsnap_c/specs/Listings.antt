-- The lists of a market in C's memory.
use Rattle.std.specs.Prelude.{◌≡◌, ℕ, ◌⊎◌, ◌%◌, ◌/◌, ◌^◌, Bool, [], ◌∷◌, List, map, length, Option, Some, None, Result, Ok, Err}
use Rattle.std.specs.List.{filter, sum_by}
use Rattle.std.specs.FinMap as finite
use Rattle.std.specs.declared.alloc.Global.{Global}
use Rattle.std.specs.declared.vec.Vec.{Vec}
use Rattle.itch_codec.specs.declared.orders.Side.{Side}
use Rattle.itch_book.specs.declared.order.Order.{Order}
use Rattle.itch_book.specs.Orders.{queue, sides, is_at_price}
use Rattle.itch_book.specs.Prices.{prices}
use Rattle.itch_market.specs.Content.{Content, Listing}
use Rattle.itchsnap_c.specs.declared.answers.BookOrder.{BookOrder}
use Rattle.itchsnap_c.specs.declared.answers.PriceLevel.{PriceLevel}
use Rattle.itchsnap_c.specs.declared.answers.Stock.{Stock}
use Rattle.itchsnap_c.specs.declared.answers.Written.{Written}
use Rattle.itchsnap_c.specs.Lookups.{order_answer, side_of}
use Rattle.itchsnap_c.specs.Snapshots.{Copies, unwritten}

-- the locates of the directory, in ascending order
abbrev pub locates_of : Content → List ℕ
locates_of m = finite.keys m.securities

-- an order in a list
abbrev pub order_row : Order → BookOrder
order_row order = order_answer (Some order)

-- the orders of a locate, in snapshot order: bids before asks, each side by priority
abbrev pub orders_of : List Order → ℕ → List BookOrder
orders_of orders locate = map order_row (sides orders locate)

abbrev pub orders_at : ℕ → Content → List BookOrder
orders_at locate m = orders_of m.orders locate

-- a price level with these shares, in two parts, and this number of orders
abbrev pub level_row : ℕ → ℕ × ℕ → PriceLevel
level_row price total = record { shares_low = total.0 % 2 ^ 64; shares_high = total.0 / 2 ^ 64; orders = total.1; price = price }

-- the price level of these orders at a price
abbrev pub level_of : List Order → ℕ → PriceLevel
level_of orders price = level_row price (sum_by (λ x. x.shares) (filter (is_at_price price) orders), length (filter (is_at_price price) orders))

-- the price levels of a locate and side, the best price first
abbrev pub levels_of : List Order → ℕ → Side → List PriceLevel
levels_of orders locate side = map (level_of (queue orders locate side)) (prices (queue orders locate side))

abbrev pub levels_at : ℕ → Bool → Content → List PriceLevel
levels_at locate buy m = levels_of m.orders locate (side_of buy)

-- the result of listing a market, and the memory afterwards: its items are copied, unless memory runs out; without a market none are
abbrev pub Lists : {T : Type 0} → (Content → List T) → Option Content → List T → Written → List T → Type 0
Lists items (Some m) old written new = Copies (items m) old written new ⊎ ((written ≡ unwritten 48) × (new ≡ old))
Lists items None old written new = (written ≡ unwritten 50) × (new ≡ old)

-- the items, unless memory runs out
abbrev pub Gathers : {T : Type 0} → List T → Result (Vec T Global) ℕ → Type 0
Gathers items (Ok found) = found.items ≡ items
Gathers items (Err code) = code ≡ 48

-- no stock, for this reason
abbrev pub no_stock : ℕ → Stock
no_stock code = record { stock = 0 ∷ 0 ∷ 0 ∷ 0 ∷ 0 ∷ 0 ∷ 0 ∷ 0 ∷ []; code = code }

-- a stock, or that there is none
abbrev pub stock_answer : Option Listing → Stock
stock_answer (Some s) = record { stock = s.entry.stock; code = 0 }
stock_answer None = no_stock 52

-- the stock of a locate in the directory
abbrev pub stock_in : Option Content → ℕ → Stock
stock_in (Some m) locate = stock_answer (finite.get m.securities locate)
stock_in None locate = no_stock 50
