-- The answers to look-ups in a market, or without one.
use Rattle.std.specs.Prelude.{ℕ, ◌%◌, ◌/◌, ◌^◌, ◌∷◌, [], length, Bool, true, false, Option, None, Some, is_some, unwrap_or, if◌then◌else◌}
use Rattle.itch_book.specs.Orders as book
use Rattle.itch_book.specs.declared.order.Order.{Order}
use Rattle.itch_codec.specs.declared.orders.Side.{Side}
use Rattle.itch_codec.specs.declared.orders.Side.TheVariants.{Buy, Sell}
use Rattle.itch_market.specs.Content.{Content}
use Rattle.itchsnap_c.specs.declared.answers.BookOrder.{BookOrder}
use Rattle.itchsnap_c.specs.declared.answers.LevelTotal.{LevelTotal}
use Rattle.itchsnap_c.specs.declared.answers.Price.{Price}
use Rattle.itchsnap_c.specs.declared.answers.Count.{Count}
use Rattle.itchsnap_c.specs.Codes.{counted, no_count}

abbrev pub side_of : Bool → Side
side_of true = Buy
side_of false = Sell

abbrev pub is_buy : Side → Bool
is_buy Buy = true
is_buy Sell = false

-- no order, for this reason
abbrev pub no_order : ℕ → BookOrder
no_order code = record { reference = 0; price = 0; shares = 0; locate = 0; buy = false; attributed = false; mpid = 0 ∷ 0 ∷ 0 ∷ 0 ∷ []; code = code }

-- an order, or that there is none
abbrev pub order_answer : Option Order → BookOrder
order_answer (Some o) = record {
  reference = o.reference;
  price = o.price;
  shares = o.shares;
  locate = o.locate;
  buy = is_buy o.side;
  attributed = is_some o.mpid;
  mpid = unwrap_or o.mpid (0 ∷ 0 ∷ 0 ∷ 0 ∷ []);
  code = 0;
}
order_answer None = no_order 52

-- the first order of the queue of a locate and side
abbrev pub best_in : Option Content → ℕ → Bool → BookOrder
best_in (Some m) locate buy = order_answer (book.first (book.queue m.orders locate (side_of buy)))
best_in None locate buy = no_order 50

-- the order with a reference
abbrev pub order_in : Option Content → ℕ → BookOrder
order_in (Some m) reference = order_answer (book.get m.orders reference)
order_in None reference = no_order 50

-- a level's shares, in two parts, and the number of its orders
abbrev pub level_answer : ℕ × ℕ → LevelTotal
level_answer total = record { shares_low = total.0 % 2 ^ 64; shares_high = total.0 / 2 ^ 64; orders = total.1; code = 0 }

abbrev pub level_in : Option Content → ℕ → Bool → ℕ → LevelTotal
level_in (Some m) locate buy price = level_answer (book.level_total m.orders locate (side_of buy) price)
level_in None locate buy price = record { shares_low = 0; shares_high = 0; orders = 0; code = 50 }

-- a price, or that there is none
abbrev pub price_answer : Option ℕ → Price
price_answer (Some price) = record { price = price; code = 0 }
price_answer None = record { price = 0; code = 52 }

-- the best price of a locate and side, or the best one that is worse than the last
abbrev pub price_in : Option Content → ℕ → Bool → Bool → ℕ → Price
price_in (Some m) locate buy after last = price_answer (book.next_price m.orders locate (side_of buy) (if after then Some last else None))
price_in None locate buy after last = record { price = 0; code = 50 }

-- the number of live orders
abbrev pub count_in : Option Content → Count
count_in (Some m) = counted (length m.orders)
count_in None = no_count 50
