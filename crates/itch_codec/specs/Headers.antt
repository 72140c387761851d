-- The common parts of messages: a type, a header with a time, and for some the order that they are about.
use Rattle.std.specs.Prelude.{ℕ, nat_lt, List, length, Option, None, Some, option_map, if◌then◌else◌}
use Rattle.itch_codec.specs.declared.header.Header.{Header}
use Rattle.itch_codec.specs.declared.message.Message.{Message}
use Rattle.itch_codec.specs.declared.message.Message.TheVariants as is
use Rattle.itch_codec.specs.Numbers.{byte_at, number_at}
use Rattle.itch_codec.specs.Messages.{Shape, Fields, Payload, shape}

-- the header of a message, if it has one
abbrev pub header : Message → Option Header
header (is.SystemEvent m) = Some m.header
header (is.StockDirectory m) = Some m.header
header (is.TradingAction m) = Some m.header
header (is.RegSho m) = Some m.header
header (is.Halt m) = Some m.header
header (is.Position m) = Some m.header
header (is.AddOrder m) = Some m.header
header (is.AttributedAddOrder m) = Some m.order.header
header (is.OrderExecuted m) = Some m.header
header (is.OrderExecutedWithPrice m) = Some m.execution.header
header (is.OrderCancel m) = Some m.header
header (is.OrderDelete m) = Some m.header
header (is.OrderReplace m) = Some m.header
header (is.Trade m) = Some m.header
header (is.CrossTrade m) = Some m.header
header (is.BrokenTrade m) = Some m.header
header (is.End next) = None
header (is.Other bytes) = None

-- the timestamp of a message in nanoseconds since midnight, if it has one
abbrev pub time_of : Message → Option ℕ
time_of message = option_map (λ (h : Header). h.stamp) (header message)

-- the timestamp of a payload that has a header, if it is long enough for one
abbrev pub stamp_in : List ℕ → Option ℕ
stamp_in payload = if nat_lt (length payload) 11 then None else Some (number_at 5 6 payload)

-- the live order that a message adds, changes or ends. A replace refers to its original order, and a Trade to no order of the book
abbrev pub reference_of : Message → Option ℕ
reference_of (is.AddOrder m) = Some m.reference
reference_of (is.AttributedAddOrder m) = Some m.order.reference
reference_of (is.OrderExecuted m) = Some m.reference
reference_of (is.OrderExecutedWithPrice m) = Some m.execution.reference
reference_of (is.OrderCancel m) = Some m.reference
reference_of (is.OrderDelete m) = Some m.reference
reference_of (is.OrderReplace m) = Some m.original
reference_of message = None

-- the first byte of a message of this shape
abbrev pub kind_of_shape : Shape → ℕ
kind_of_shape (Fields layout values) = layout.kind
kind_of_shape (Payload bytes) = byte_at 0 bytes

-- the message type: the first byte of its payload
abbrev pub kind_of : Message → ℕ
kind_of message = kind_of_shape (shape message)
