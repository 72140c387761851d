-- The fields of a message as C gets them, by the standard's names (TotalView-ITCH 5.0, "Message Formats").
use Rattle.std.specs.Prelude.{◌≡◌, ◌⊎◌, ℕ, List, replicate, Some}
use Rattle.itch_codec.specs.declared.fault.CodecFault.{CodecFault}
use Rattle.itch_codec.specs.declared.header.Header.{Header}
use Rattle.itch_codec.specs.declared.message.Message.{Message}
use Rattle.itch_codec.specs.declared.message.Message.TheVariants as is
use Rattle.itch_codec.specs.declared.orders.AddOrder.{AddOrder}
use Rattle.itch_codec.specs.declared.orders.AttributedAddOrder.{AttributedAddOrder}
use Rattle.itch_codec.specs.declared.orders.OrderCancel.{OrderCancel}
use Rattle.itch_codec.specs.declared.orders.OrderDelete.{OrderDelete}
use Rattle.itch_codec.specs.declared.orders.OrderExecuted.{OrderExecuted}
use Rattle.itch_codec.specs.declared.orders.OrderExecutedWithPrice.{OrderExecutedWithPrice}
use Rattle.itch_codec.specs.declared.orders.OrderReplace.{OrderReplace}
use Rattle.itch_codec.specs.declared.stocks.OperationalHalt.{OperationalHalt}
use Rattle.itch_codec.specs.declared.stocks.ParticipantPosition.{ParticipantPosition}
use Rattle.itch_codec.specs.declared.stocks.RegSho.{RegSho}
use Rattle.itch_codec.specs.declared.stocks.StockDirectory.{StockDirectory}
use Rattle.itch_codec.specs.declared.stocks.SystemEvent.{SystemEvent}
use Rattle.itch_codec.specs.declared.stocks.TradingAction.{TradingAction}
use Rattle.itch_codec.specs.declared.trades.BrokenTrade.{BrokenTrade}
use Rattle.itch_codec.specs.declared.trades.CrossTrade.{CrossTrade}
use Rattle.itch_codec.specs.declared.trades.Trade.{Trade}
use Rattle.itch_codec.specs.Fields.{side_byte}
use Rattle.itch_codec.specs.Messages.{Spells, fault}
use Rattle.itch_codec.specs.Numbers.{byte_at}
use Rattle.itchsnap_c.specs.declared.answers.Answer.{Answer}
use Rattle.itchsnap_c.specs.declared.fields.Fields.{Fields}
use Rattle.itchsnap_c.specs.Codes.{codec_answer, done}

-- a type alone: each other field is 0
abbrev pub blank : ℕ → Fields
blank message_type = record {
  timestamp = 0;
  order_reference_number = 0;
  original_order_reference_number = 0;
  new_order_reference_number = 0;
  match_number = 0;
  shares = 0;
  sequence_number = 0;
  executed_shares = 0;
  cancelled_shares = 0;
  price = 0;
  execution_price = 0;
  cross_price = 0;
  round_lot_size = 0;
  etp_leverage_factor = 0;
  stock_locate = 0;
  tracking_number = 0;
  stock = replicate 8 0;
  mpid = replicate 4 0;
  attribution = replicate 4 0;
  reason = replicate 4 0;
  issue_sub_type = replicate 2 0;
  message_type = message_type;
  buy_sell_indicator = 0;
  printable = 0;
  cross_type = 0;
  event_code = 0;
  market_category = 0;
  financial_status_indicator = 0;
  round_lots_only = 0;
  issue_classification = 0;
  authenticity = 0;
  short_sale_threshold_indicator = 0;
  ipo_flag = 0;
  luld_reference_price_tier = 0;
  etp_flag = 0;
  inverse_indicator = 0;
  trading_state = 0;
  reserved = 0;
  reg_sho_action = 0;
  market_code = 0;
  operational_halt_action = 0;
  primary_market_maker = 0;
  market_maker_mode = 0;
  market_participant_state = 0;
}

-- a type and a header
abbrev pub headed : ℕ → Header → Fields
headed message_type h = record (blank message_type) { stock_locate = h.locate; tracking_number = h.tracking; timestamp = h.stamp }

abbrev pub system_event : SystemEvent → Fields
system_event m = record (headed 83 m.header) { event_code = m.code }

abbrev pub stock_directory : StockDirectory → Fields
stock_directory m = record (headed 82 m.header) {
  stock = m.entry.stock;
  market_category = m.entry.market_category;
  financial_status_indicator = m.entry.financial_status;
  round_lot_size = m.entry.round_lot_size;
  round_lots_only = m.entry.round_lots_only;
  issue_classification = m.entry.issue_classification;
  issue_sub_type = m.entry.issue_sub_type;
  authenticity = m.entry.authenticity;
  short_sale_threshold_indicator = m.entry.short_sale_threshold;
  ipo_flag = m.entry.ipo_flag;
  luld_reference_price_tier = m.entry.luld_price_tier;
  etp_flag = m.entry.etp_flag;
  etp_leverage_factor = m.entry.etp_leverage_factor;
  inverse_indicator = m.entry.inverse_indicator;
}

abbrev pub trading_action : TradingAction → Fields
trading_action m = record (headed 72 m.header) { stock = m.stock; trading_state = m.state; reserved = m.reserved; reason = m.reason }

abbrev pub reg_sho : RegSho → Fields
reg_sho m = record (headed 89 m.header) { stock = m.stock; reg_sho_action = m.action }

abbrev pub operational_halt : OperationalHalt → Fields
operational_halt m = record (headed 104 m.header) { stock = m.stock; market_code = m.market_code; operational_halt_action = m.action }

abbrev pub participant_position : ParticipantPosition → Fields
participant_position m = record (headed 76 m.header) {
  mpid = m.mpid;
  stock = m.stock;
  primary_market_maker = m.primary_market_maker;
  market_maker_mode = m.mode;
  market_participant_state = m.state;
}

-- a new order, in a message of a type
abbrev pub order_of : ℕ → AddOrder → Fields
order_of message_type m = record (headed message_type m.header) {
  order_reference_number = m.reference;
  buy_sell_indicator = side_byte m.side;
  shares = m.shares;
  stock = m.stock;
  price = m.price;
}

abbrev pub add_order : AddOrder → Fields
add_order m = order_of 65 m

abbrev pub attributed_add_order : AttributedAddOrder → Fields
attributed_add_order m = record (order_of 70 m.order) { attribution = m.attribution }

-- an execution, in a message of a type
abbrev pub execution_of : ℕ → OrderExecuted → Fields
execution_of message_type m =
    record (headed message_type m.header) { order_reference_number = m.reference; executed_shares = m.shares; match_number = m.match_number }

abbrev pub order_executed : OrderExecuted → Fields
order_executed m = execution_of 69 m

abbrev pub order_executed_with_price : OrderExecutedWithPrice → Fields
order_executed_with_price m = record (execution_of 67 m.execution) { printable = m.printable; execution_price = m.price }

abbrev pub order_cancel : OrderCancel → Fields
order_cancel m = record (headed 88 m.header) { order_reference_number = m.reference; cancelled_shares = m.shares }

abbrev pub order_delete : OrderDelete → Fields
order_delete m = record (headed 68 m.header) { order_reference_number = m.reference }

abbrev pub order_replace : OrderReplace → Fields
order_replace m = record (headed 85 m.header) {
  original_order_reference_number = m.original;
  new_order_reference_number = m.reference;
  shares = m.shares;
  price = m.price;
}

abbrev pub trade : Trade → Fields
trade m = record (headed 80 m.header) {
  order_reference_number = m.reference;
  buy_sell_indicator = side_byte m.side;
  shares = m.shares;
  stock = m.stock;
  price = m.price;
  match_number = m.match_number;
}

abbrev pub cross_trade : CrossTrade → Fields
cross_trade m = record (headed 81 m.header) {
  shares = m.shares;
  stock = m.stock;
  cross_price = m.price;
  match_number = m.match_number;
  cross_type = m.cross_type;
}

abbrev pub broken_trade : BrokenTrade → Fields
broken_trade m = record (headed 66 m.header) { match_number = m.match_number }

-- the fields of a message; of one whose type is not decoded, the type alone
abbrev pub fields_of : Message → Fields
fields_of (is.SystemEvent m) = system_event m
fields_of (is.StockDirectory m) = stock_directory m
fields_of (is.TradingAction m) = trading_action m
fields_of (is.RegSho m) = reg_sho m
fields_of (is.Halt m) = operational_halt m
fields_of (is.Position m) = participant_position m
fields_of (is.AddOrder m) = add_order m
fields_of (is.AttributedAddOrder m) = attributed_add_order m
fields_of (is.OrderExecuted m) = order_executed m
fields_of (is.OrderExecutedWithPrice m) = order_executed_with_price m
fields_of (is.OrderCancel m) = order_cancel m
fields_of (is.OrderDelete m) = order_delete m
fields_of (is.OrderReplace m) = order_replace m
fields_of (is.Trade m) = trade m
fields_of (is.CrossTrade m) = cross_trade m
fields_of (is.BrokenTrade m) = broken_trade m
fields_of (is.End next) = record (blank 71) { sequence_number = next }
fields_of (is.Other bytes) = blank (byte_at 0 bytes)

-- a payload spells a message, and these are its fields; or it has a fault, and the fields that were there stay
abbrev pub Decodes : List ℕ → Fields → Answer → Fields → Type 0
Decodes payload old answer new =
    ((m : Message) × Spells m payload × (answer ≡ done) × (new ≡ fields_of m))
    ⊎ ((f : CodecFault) × (fault payload ≡ Some f) × (answer ≡ codec_answer f) × (new ≡ old))
