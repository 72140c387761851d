-- The values of each message's fields, in the order of its layout.
use Rattle.std.specs.Prelude.{ℕ, List, [], ◌∷◌, get_or}
use Rattle.itch_codec.specs.declared.header.Header.{Header}
use Rattle.itch_codec.specs.declared.orders.Side.{Side}
use Rattle.itch_codec.specs.declared.orders.Side.TheVariants.{Buy}
use Rattle.itch_codec.specs.declared.stocks.SystemEvent.{SystemEvent}
use Rattle.itch_codec.specs.declared.stocks.Directory.{Directory}
use Rattle.itch_codec.specs.declared.stocks.StockDirectory.{StockDirectory}
use Rattle.itch_codec.specs.declared.stocks.TradingAction.{TradingAction}
use Rattle.itch_codec.specs.declared.stocks.RegSho.{RegSho}
use Rattle.itch_codec.specs.declared.stocks.OperationalHalt.{OperationalHalt}
use Rattle.itch_codec.specs.declared.stocks.ParticipantPosition.{ParticipantPosition}
use Rattle.itch_codec.specs.declared.orders.AddOrder.{AddOrder}
use Rattle.itch_codec.specs.declared.orders.AttributedAddOrder.{AttributedAddOrder}
use Rattle.itch_codec.specs.declared.orders.OrderExecuted.{OrderExecuted}
use Rattle.itch_codec.specs.declared.orders.OrderExecutedWithPrice.{OrderExecutedWithPrice}
use Rattle.itch_codec.specs.declared.orders.OrderCancel.{OrderCancel}
use Rattle.itch_codec.specs.declared.orders.OrderDelete.{OrderDelete}
use Rattle.itch_codec.specs.declared.orders.OrderReplace.{OrderReplace}
use Rattle.itch_codec.specs.declared.trades.Trade.{Trade}
use Rattle.itch_codec.specs.declared.trades.CrossTrade.{CrossTrade}
use Rattle.itch_codec.specs.declared.trades.BrokenTrade.{BrokenTrade}
use Rattle.itch_codec.specs.Fields.{Value, Number, Bytes, TheSide}

-- the values of a header, followed by these values
abbrev pub header_values : Header → List Value → List Value
header_values h values = Number h.locate ∷ Number h.tracking ∷ Number h.stamp ∷ values

-- the values of a System Event
abbrev pub system_event_values : SystemEvent → List Value
system_event_values m = header_values m.header (Number m.code ∷ [])

-- the values of a directory entry
abbrev pub directory_values : Directory → List Value
directory_values d =
    Bytes d.stock ∷ Number d.market_category ∷ Number d.financial_status ∷ Number d.round_lot_size ∷ Number d.round_lots_only
    ∷ Number d.issue_classification ∷ Bytes d.issue_sub_type ∷ Number d.authenticity ∷ Number d.short_sale_threshold ∷ Number d.ipo_flag
    ∷ Number d.luld_price_tier ∷ Number d.etp_flag ∷ Number d.etp_leverage_factor ∷ Number d.inverse_indicator ∷ []

-- the values of a Stock Directory message
abbrev pub stock_directory_values : StockDirectory → List Value
stock_directory_values m = header_values m.header (directory_values m.entry)

-- the values of a Stock Trading Action
abbrev pub trading_action_values : TradingAction → List Value
trading_action_values m =
    header_values m.header (Bytes m.stock ∷ Number m.state ∷ Number m.reserved ∷ Bytes m.reason ∷ [])

-- the values of a Reg SHO Restriction
abbrev pub reg_sho_values : RegSho → List Value
reg_sho_values m = header_values m.header (Bytes m.stock ∷ Number m.action ∷ [])

-- the values of an Operational Halt
abbrev pub operational_halt_values : OperationalHalt → List Value
operational_halt_values m = header_values m.header (Bytes m.stock ∷ Number m.market_code ∷ Number m.action ∷ [])

-- the values of a Market Participant Position
abbrev pub participant_position_values : ParticipantPosition → List Value
participant_position_values m =
    header_values m.header (Bytes m.mpid ∷ Bytes m.stock ∷ Number m.primary_market_maker ∷ Number m.mode ∷ Number m.state ∷ [])

-- the values of a new order, followed by these values
abbrev pub order_values : AddOrder → List Value → List Value
order_values m values =
    header_values m.header (Number m.reference ∷ TheSide m.side ∷ Number m.shares ∷ Bytes m.stock ∷ Number m.price ∷ values)

-- the values of an Add Order
abbrev pub add_order_values : AddOrder → List Value
add_order_values m = order_values m []

-- the values of an Add Order with attribution
abbrev pub attributed_add_order_values : AttributedAddOrder → List Value
attributed_add_order_values m = order_values m.order (Bytes m.attribution ∷ [])

-- the values of an execution, followed by these values
abbrev pub execution_values : OrderExecuted → List Value → List Value
execution_values m values = header_values m.header (Number m.reference ∷ Number m.shares ∷ Number m.match_number ∷ values)

-- the values of an Order Executed message
abbrev pub order_executed_values : OrderExecuted → List Value
order_executed_values m = execution_values m []

-- the values of an Order Executed With Price message
abbrev pub order_executed_with_price_values : OrderExecutedWithPrice → List Value
order_executed_with_price_values m = execution_values m.execution (Number m.printable ∷ Number m.price ∷ [])

-- the values of an Order Cancel
abbrev pub order_cancel_values : OrderCancel → List Value
order_cancel_values m = header_values m.header (Number m.reference ∷ Number m.shares ∷ [])

-- the values of an Order Delete
abbrev pub order_delete_values : OrderDelete → List Value
order_delete_values m = header_values m.header (Number m.reference ∷ [])

-- the values of an Order Replace
abbrev pub order_replace_values : OrderReplace → List Value
order_replace_values m =
    header_values m.header (Number m.original ∷ Number m.reference ∷ Number m.shares ∷ Number m.price ∷ [])

-- the values of a Trade
abbrev pub trade_values : Trade → List Value
trade_values m =
    header_values m.header (Number m.reference ∷ TheSide m.side ∷ Number m.shares ∷ Bytes m.stock ∷ Number m.price ∷ Number m.match_number ∷ [])

-- the values of a Cross Trade
abbrev pub cross_trade_values : CrossTrade → List Value
cross_trade_values m =
    header_values m.header (Number m.shares ∷ Bytes m.stock ∷ Number m.price ∷ Number m.match_number ∷ Number m.cross_type ∷ [])

-- the values of a Broken Trade
abbrev pub broken_trade_values : BrokenTrade → List Value
broken_trade_values m = header_values m.header (Number m.match_number ∷ [])

-- the number of a value
abbrev pub number_in : Value → ℕ
number_in (Number number) = number
number_in value = 0

-- the bytes of a value
abbrev pub bytes_in : Value → List ℕ
bytes_in (Bytes bytes) = bytes
bytes_in value = []

-- the side of a value
abbrev pub side_in : Value → Side
side_in (TheSide side) = side
side_in value = Buy

-- the number at this position in the values, counted from 0
abbrev pub number : ℕ → List Value → ℕ
number place values = number_in (get_or values place (Number 0))

-- the bytes at this position
abbrev pub bytes : ℕ → List Value → List ℕ
bytes place values = bytes_in (get_or values place (Number 0))

-- the side at this position
abbrev pub side : ℕ → List Value → Side
side place values = side_in (get_or values place (Number 0))

-- the header in the first three values
abbrev pub header_of : List Value → Header
header_of vs = record { locate = number 0 vs; tracking = number 1 vs; stamp = number 2 vs }

-- a System Event with these values
abbrev pub system_event_of : List Value → SystemEvent
system_event_of vs = record { header = header_of vs; code = number 3 vs }

-- the directory entry in the values after a header
abbrev pub directory_of : List Value → Directory
directory_of vs = record {
  stock = bytes 3 vs;
  market_category = number 4 vs;
  financial_status = number 5 vs;
  round_lot_size = number 6 vs;
  round_lots_only = number 7 vs;
  issue_classification = number 8 vs;
  issue_sub_type = bytes 9 vs;
  authenticity = number 10 vs;
  short_sale_threshold = number 11 vs;
  ipo_flag = number 12 vs;
  luld_price_tier = number 13 vs;
  etp_flag = number 14 vs;
  etp_leverage_factor = number 15 vs;
  inverse_indicator = number 16 vs;
}

-- a Stock Directory message with these values
abbrev pub stock_directory_of : List Value → StockDirectory
stock_directory_of vs = record { header = header_of vs; entry = directory_of vs }

-- a Stock Trading Action with these values
abbrev pub trading_action_of : List Value → TradingAction
trading_action_of vs =
    record { header = header_of vs; stock = bytes 3 vs; state = number 4 vs; reserved = number 5 vs; reason = bytes 6 vs }

-- a Reg SHO Restriction with these values
abbrev pub reg_sho_of : List Value → RegSho
reg_sho_of vs = record { header = header_of vs; stock = bytes 3 vs; action = number 4 vs }

-- an Operational Halt with these values
abbrev pub operational_halt_of : List Value → OperationalHalt
operational_halt_of vs = record { header = header_of vs; stock = bytes 3 vs; market_code = number 4 vs; action = number 5 vs }

-- a Market Participant Position with these values
abbrev pub participant_position_of : List Value → ParticipantPosition
participant_position_of vs =
    record { header = header_of vs; mpid = bytes 3 vs; stock = bytes 4 vs; primary_market_maker = number 5 vs; mode = number 6 vs; state = number 7 vs }

-- an Add Order with these values
abbrev pub add_order_of : List Value → AddOrder
add_order_of vs =
    record { header = header_of vs; reference = number 3 vs; side = side 4 vs; shares = number 5 vs; stock = bytes 6 vs; price = number 7 vs }

-- an Add Order with attribution with these values
abbrev pub attributed_add_order_of : List Value → AttributedAddOrder
attributed_add_order_of vs = record { order = add_order_of vs; attribution = bytes 8 vs }

-- an Order Executed message with these values
abbrev pub order_executed_of : List Value → OrderExecuted
order_executed_of vs =
    record { header = header_of vs; reference = number 3 vs; shares = number 4 vs; match_number = number 5 vs }

-- an Order Executed With Price message with these values
abbrev pub order_executed_with_price_of : List Value → OrderExecutedWithPrice
order_executed_with_price_of vs = record { execution = order_executed_of vs; printable = number 6 vs; price = number 7 vs }

-- an Order Cancel with these values
abbrev pub order_cancel_of : List Value → OrderCancel
order_cancel_of vs = record { header = header_of vs; reference = number 3 vs; shares = number 4 vs }

-- an Order Delete with these values
abbrev pub order_delete_of : List Value → OrderDelete
order_delete_of vs = record { header = header_of vs; reference = number 3 vs }

-- an Order Replace with these values
abbrev pub order_replace_of : List Value → OrderReplace
order_replace_of vs =
    record { header = header_of vs; original = number 3 vs; reference = number 4 vs; shares = number 5 vs; price = number 6 vs }

-- a Trade with these values
abbrev pub trade_of : List Value → Trade
trade_of vs = record {
  header = header_of vs;
  reference = number 3 vs;
  side = side 4 vs;
  shares = number 5 vs;
  stock = bytes 6 vs;
  price = number 7 vs;
  match_number = number 8 vs;
}

-- a Cross Trade with these values
abbrev pub cross_trade_of : List Value → CrossTrade
cross_trade_of vs = record {
  header = header_of vs;
  shares = number 3 vs;
  stock = bytes 4 vs;
  price = number 5 vs;
  match_number = number 6 vs;
  cross_type = number 7 vs;
}

-- a Broken Trade with these values
abbrev pub broken_trade_of : List Value → BrokenTrade
broken_trade_of vs = record { header = header_of vs; match_number = number 3 vs }
