-- Messages and markets restricted to some locates.
use Rattle.std.specs.Prelude.{ℕ, Bool, false, not, List, Option, Some, None}
use Rattle.std.specs.List.{filter}
use Rattle.std.specs.FinMap as map
use Rattle.itch_codec.specs.declared.message.Message.{Message}
use Rattle.itch_codec.specs.declared.message.Message.TheVariants as is
use Rattle.itch_market.specs.Content.{Content}

-- the locate of a message about a security or an order
abbrev pub locate_of : Message → Option ℕ
locate_of (is.SystemEvent x) = None
locate_of (is.StockDirectory x) = Some x.header.locate
locate_of (is.TradingAction x) = Some x.header.locate
locate_of (is.RegSho x) = Some x.header.locate
locate_of (is.Halt x) = Some x.header.locate
locate_of (is.Position x) = Some x.header.locate
locate_of (is.AddOrder x) = Some x.header.locate
locate_of (is.AttributedAddOrder x) = Some x.order.header.locate
locate_of (is.OrderExecuted x) = Some x.header.locate
locate_of (is.OrderExecutedWithPrice x) = Some x.execution.header.locate
locate_of (is.OrderCancel x) = Some x.header.locate
locate_of (is.OrderDelete x) = Some x.header.locate
locate_of (is.OrderReplace x) = Some x.header.locate
locate_of (is.Trade x) = None
locate_of (is.CrossTrade x) = None
locate_of (is.BrokenTrade x) = None
locate_of (is.End next) = None
locate_of (is.Other payload) = None

-- a locate that is not in the set of wanted ones
abbrev pub is_out : (ℕ → Bool) → Option ℕ → Bool
is_out wanted None = false
is_out wanted (Some locate) = not (wanted locate)

-- the message is about a security or an order at a locate that is not wanted
abbrev pub skips : (ℕ → Bool) → Message → Bool
skips wanted x = is_out wanted (locate_of x)

-- the messages that are not skipped, in their order
abbrev pub kept : (ℕ → Bool) → List Message → List Message
kept wanted ms = filter (λ x. not (skips wanted x)) ms

-- a market's event, and its securities and orders at the wanted locates
abbrev pub only : (ℕ → Bool) → Content → Content
only wanted m = record m { securities = map.retain_keys m.securities wanted; orders = filter (λ x. wanted x.locate) m.orders }
