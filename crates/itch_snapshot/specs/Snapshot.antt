-- The snapshot list of a market (GLIMPSE 5.0): the messages, in this product's order, that lead from the empty market to this one.
use Rattle.std.specs.Prelude.{ℕ, List, [], ◌∷◌, ◌++◌, map, get_or, Option, Some, None}
use Rattle.std.specs.List.{flat_map}
use Rattle.std.specs.FinMap as finite
use Rattle.itch_codec.specs.declared.header.Header.{Header}
use Rattle.itch_codec.specs.declared.message.Message.{Message}
use Rattle.itch_codec.specs.declared.message.Message.TheVariants as is
use Rattle.itch_codec.specs.declared.orders.AddOrder.{AddOrder}
use Rattle.itch_codec.specs.declared.orders.Side.TheVariants.{Buy, Sell}
use Rattle.itch_book.specs.declared.order.Order.{Order}
use Rattle.itch_book.specs.Orders as book
use Rattle.itch_market.specs.declared.security.Action.{Action}
use Rattle.itch_market.specs.Content.{Content, Listing}

-- the header of a snapshot message: its tracking number and timestamp are 0
abbrev pub header_at : ℕ → Header
header_at locate = record { locate = locate; tracking = 0; stamp = 0 }

-- the last system event, if there was one, at locate 0
abbrev pub event_part : Option ℕ → List Message
event_part None = []
event_part (Some code) = is.SystemEvent (record { header = header_at 0; code = code }) ∷ []

-- the trading action, if there was one, with a space as its reserved byte
abbrev pub action_part : ℕ → List ℕ → Option Action → List Message
action_part locate stock None = []
action_part locate stock (Some a) =
    is.TradingAction (record { header = header_at locate; stock = stock; state = a.state; reserved = 32; reason = a.reason }) ∷ []

-- the Reg SHO restriction, if there was one
abbrev pub sho_part : ℕ → List ℕ → Option ℕ → List Message
sho_part locate stock None = []
sho_part locate stock (Some action) = is.RegSho (record { header = header_at locate; stock = stock; action = action }) ∷ []

-- the last action of an operational halt at a market code
abbrev pub halt_part : ℕ → List ℕ → ℕ × ℕ → Message
halt_part locate stock e = is.Halt (record { header = header_at locate; stock = stock; market_code = e.0; action = e.1 })

-- the last position of a market participant
abbrev pub position_part : ℕ → List ℕ → List ℕ × List ℕ → Message
position_part locate stock e = is.Position (record {
  header = header_at locate;
  mpid = e.0;
  stock = stock;
  primary_market_maker = get_or e.1 0 0;
  mode = get_or e.1 1 0;
  state = get_or e.1 2 0;
})

-- trading action, Reg SHO restriction, halts and positions
abbrev pub states_of : ℕ → List ℕ → Option Action → Option ℕ → List (ℕ × ℕ) → List (List ℕ × List ℕ) → List Message
states_of locate stock action sho halts positions =
    action_part locate stock action ++ (sho_part locate stock sho ++ (map (halt_part locate stock) halts ++ map (position_part locate stock) positions))

-- the messages about a security between its directory entry and its orders: halts by ascending market code, positions by ascending bytes of
-- the participant
abbrev pub states_part : ℕ → Listing → List Message
states_part locate s = states_of locate s.entry.stock s.action s.sho (finite.entries s.halts) (finite.entries s.positions)

-- an Add Order message for the remaining shares, with the directory's stock
abbrev pub add_of : List ℕ → Order → AddOrder
add_of stock x = record { header = header_at x.locate; reference = x.reference; side = x.side; shares = x.shares; stock = stock; price = x.price }

-- with attribution, if the order has one
abbrev pub attributed : AddOrder → Option (List ℕ) → Message
attributed x None = is.AddOrder x
attributed x (Some mpid) = is.AttributedAddOrder (record { order = x; attribution = mpid })

-- the message of a live order
abbrev pub order_part : List ℕ → Order → Message
order_part stock x = attributed (add_of stock x) x.mpid

-- the messages about one locate, with these orders
abbrev pub locate_messages : ℕ × Listing → List Order → List Message
locate_messages e orders =
    is.StockDirectory (record { header = header_at e.0; entry = e.1.entry })
    ∷ (states_part e.0 e.1 ++ map (order_part e.1.entry.stock) orders)

-- the messages about one locate: its directory entry, its trading states, halts and positions, and its orders, bids before asks
abbrev pub locate_part : List Order → ℕ × Listing → List Message
locate_part orders e = locate_messages e (book.queue orders e.0 Buy ++ book.queue orders e.0 Sell)

-- the snapshot list: the last event, and then each locate of the directory, in ascending order
abbrev pub snap : Content → List Message
snap m = event_part m.event ++ flat_map (locate_part m.orders) (finite.entries m.securities)
