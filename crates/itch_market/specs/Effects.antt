-- The effect of a message that is not refused on a market. Names in quotes are the sections of TotalView-ITCH 5.0.
use Rattle.std.specs.Prelude.{ℕ, Bool, true, false, not, List, [], ◌∷◌, Option, Some, None, is_some}
use Rattle.std.specs.FinMap as map
use Rattle.itch_book.specs.declared.order.Order.{Order}
use Rattle.itch_book.specs.Orders as book
use Rattle.itch_codec.specs.declared.message.Message.{Message}
use Rattle.itch_codec.specs.declared.message.Message.TheVariants as is
use Rattle.itch_codec.specs.declared.orders.AddOrder.{AddOrder}
use Rattle.itch_codec.specs.declared.stocks.Directory.{Directory}
use Rattle.itch_codec.specs.declared.stocks.TradingAction.{TradingAction}
use Rattle.itch_codec.specs.declared.stocks.ParticipantPosition.{ParticipantPosition}
use Rattle.itch_market.specs.declared.security.Action.{Action}
use Rattle.itch_market.specs.Content.{Content, Securities, Listing}

-- a new directory entry, with the existing trading states, halts and positions of the locate
abbrev pub entered : Option Listing → Directory → Listing
entered None entry = record { entry = entry; action = None; sho = None; halts = map.empty; positions = map.empty }
entered (Some s) entry = record s { entry = entry }

-- a trading action without its reserved byte
abbrev pub action_of : TradingAction → Action
action_of x = record { state = x.state; reason = x.reason }

abbrev pub with_action : Action → Listing → Listing
with_action action s = record s { action = Some action }

abbrev pub with_sho : ℕ → Listing → Listing
with_sho sho s = record s { sho = Some sho }

-- the action at a market code
abbrev pub with_halt : (market_code action : ℕ) → Listing → Listing
with_halt market_code action s = record s { halts = map.insert s.halts market_code action }

-- the position of a market participant
abbrev pub with_position : (mpid position : List ℕ) → Listing → Listing
with_position mpid position s = record s { positions = map.insert s.positions mpid position }

-- primary market maker, mode and state
abbrev pub position_of : ParticipantPosition → List ℕ
position_of x = x.primary_market_maker ∷ x.mode ∷ x.state ∷ []

-- the directory with the security of a locate changed, if there is one
abbrev pub changed_at : (Listing → Listing) → ℕ → Option Listing → Securities → Securities
changed_at change locate None securities = securities
changed_at change locate (Some s) securities = map.insert securities locate (change s)

abbrev pub changed : (Listing → Listing) → ℕ → Securities → Securities
changed change locate securities = changed_at change locate (map.get securities locate) securities

-- the live order that an Add Order message adds
abbrev pub order_of : AddOrder → Option (List ℕ) → Order
order_of x mpid = record { reference = x.reference; locate = x.header.locate; side = x.side; shares = x.shares; price = x.price; mpid = mpid }

-- the market after a message
abbrev pub effect : Content → Message → Content
-- "System Event Message", "Stock Directory", "Stock Trading Action", "Reg SHO Restriction", "Operational Halt", "Market Participant Position"
effect m (is.SystemEvent x) = record m { event = Some x.code }
effect m (is.StockDirectory x) =
    record m { securities = map.insert m.securities x.header.locate (entered (map.get m.securities x.header.locate) x.entry) }
effect m (is.TradingAction x) = record m { securities = changed (with_action (action_of x)) x.header.locate m.securities }
effect m (is.RegSho x) = record m { securities = changed (with_sho x.action) x.header.locate m.securities }
effect m (is.Halt x) = record m { securities = changed (with_halt x.market_code x.action) x.header.locate m.securities }
effect m (is.Position x) = record m { securities = changed (with_position x.mpid (position_of x)) x.header.locate m.securities }
-- "Add Order Message", without and with attribution
effect m (is.AddOrder x) = record m { orders = book.added (order_of x None) m.orders }
effect m (is.AttributedAddOrder x) = record m { orders = book.added (order_of x.order (Some x.attribution)) m.orders }
-- "Order Executed Message", "Order Executed With Price Message", "Order Cancel Message", "Order Delete Message", "Order Replace Message"
effect m (is.OrderExecuted x) = record m { orders = book.taken x.reference x.shares m.orders }
effect m (is.OrderExecutedWithPrice x) = record m { orders = book.taken x.execution.reference x.execution.shares m.orders }
effect m (is.OrderCancel x) = record m { orders = book.taken x.reference x.shares m.orders }
effect m (is.OrderDelete x) = record m { orders = book.without x.reference m.orders }
effect m (is.OrderReplace x) = record m { orders = book.replaced x.original x.reference x.shares x.price m.orders }
-- trade messages do not change orders
effect m (is.Trade x) = m
effect m (is.CrossTrade x) = m
effect m (is.BrokenTrade x) = m
effect m (is.End next) = m
effect m (is.Other payload) = m

-- a security without an action at this market code
abbrev pub lacks_halt : Option Listing → ℕ → Bool
lacks_halt None market_code = false
lacks_halt (Some s) market_code = not (is_some (map.get s.halts market_code))

-- a security without a position of this market participant
abbrev pub lacks_position : Option Listing → List ℕ → Bool
lacks_position None mpid = false
lacks_position (Some s) mpid = not (is_some (map.get s.positions mpid))

-- the messages that take memory: those that add an order, a directory entry, or the first halt of a market code or position of a participant
abbrev pub takes_memory : Content → Message → Bool
takes_memory m (is.SystemEvent x) = false
takes_memory m (is.StockDirectory x) = not (is_some (map.get m.securities x.header.locate))
takes_memory m (is.TradingAction x) = false
takes_memory m (is.RegSho x) = false
takes_memory m (is.Halt x) = lacks_halt (map.get m.securities x.header.locate) x.market_code
takes_memory m (is.Position x) = lacks_position (map.get m.securities x.header.locate) x.mpid
takes_memory m (is.AddOrder x) = true
takes_memory m (is.AttributedAddOrder x) = true
takes_memory m (is.OrderExecuted x) = false
takes_memory m (is.OrderExecutedWithPrice x) = false
takes_memory m (is.OrderCancel x) = false
takes_memory m (is.OrderDelete x) = false
takes_memory m (is.OrderReplace x) = true
takes_memory m (is.Trade x) = false
takes_memory m (is.CrossTrade x) = false
takes_memory m (is.BrokenTrade x) = false
takes_memory m (is.End next) = false
takes_memory m (is.Other payload) = false
