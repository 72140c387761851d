-- The range of the fields of each message: each value fits its width and class. Every side fits.
use Rattle.std.specs.Prelude.{ℕ, ◌<◌, ◌≤◌, ◌^◌, List}
use Rattle.itch_codec.specs.Fields.{AreBytes, IsBytes, IsAlpha}
use Rattle.itch_codec.specs.Layouts.{IsUndecoded}
use Rattle.itch_codec.specs.declared.header.Header.{Header}
use Rattle.itch_codec.specs.declared.stocks.Directory.{Directory}
use Rattle.itch_codec.specs.declared.stocks.SystemEvent.{SystemEvent}
use Rattle.itch_codec.specs.declared.stocks.StockDirectory.{StockDirectory}
use Rattle.itch_codec.specs.declared.stocks.TradingAction.{TradingAction}
use Rattle.itch_codec.specs.declared.stocks.RegSho.{RegSho}
use Rattle.itch_codec.specs.declared.stocks.OperationalHalt.{OperationalHalt}
use Rattle.itch_codec.specs.declared.stocks.ParticipantPosition.{ParticipantPosition}
use Rattle.itch_codec.specs.declared.orders.AddOrder.{AddOrder}
use Rattle.itch_codec.specs.declared.orders.AttributedAddOrder.{AttributedAddOrder}
use Rattle.itch_codec.specs.declared.orders.OrderExecuted.{OrderExecuted}
use Rattle.itch_codec.specs.declared.orders.OrderExecutedWithPrice.{OrderExecutedWithPrice}
use Rattle.itch_codec.specs.declared.orders.OrderCancel.{OrderCancel}
use Rattle.itch_codec.specs.declared.orders.OrderDelete.{OrderDelete}
use Rattle.itch_codec.specs.declared.orders.OrderReplace.{OrderReplace}
use Rattle.itch_codec.specs.declared.trades.Trade.{Trade}
use Rattle.itch_codec.specs.declared.trades.CrossTrade.{CrossTrade}
use Rattle.itch_codec.specs.declared.trades.BrokenTrade.{BrokenTrade}
use Rattle.itch_codec.specs.declared.message.Message.{Message}
use Rattle.itch_codec.specs.declared.message.Message.TheVariants as is

-- the fields of a header fit
pub record IsHeader (h : Header) : Type 0 where
  pub locate : h.locate < 2 ^ 16
  pub tracking : h.tracking < 2 ^ 16
  pub stamp : h.stamp < 2 ^ 48

-- the fields of a directory entry fit
pub record IsDirectory (d : Directory) : Type 0 where
  pub stock : IsAlpha 8 d.stock
  pub market_category : d.market_category < 256
  pub financial_status : d.financial_status < 256
  pub round_lot_size : d.round_lot_size < 2 ^ 32
  pub round_lots_only : d.round_lots_only < 256
  pub issue_classification : d.issue_classification < 256
  pub issue_sub_type : IsBytes 2 d.issue_sub_type
  pub authenticity : d.authenticity < 256
  pub short_sale_threshold : d.short_sale_threshold < 256
  pub ipo_flag : d.ipo_flag < 256
  pub luld_price_tier : d.luld_price_tier < 256
  pub etp_flag : d.etp_flag < 256
  pub etp_leverage_factor : d.etp_leverage_factor < 2 ^ 32
  pub inverse_indicator : d.inverse_indicator < 256

-- the fields of a System Event fit
pub record IsSystemEvent (m : SystemEvent) : Type 0 where
  pub header : IsHeader m.header
  pub code : m.code < 256

-- the fields of a Stock Directory message fit
pub record IsStockDirectory (m : StockDirectory) : Type 0 where
  pub header : IsHeader m.header
  pub entry : IsDirectory m.entry

-- the fields of a Stock Trading Action fit
pub record IsTradingAction (m : TradingAction) : Type 0 where
  pub header : IsHeader m.header
  pub stock : IsAlpha 8 m.stock
  pub state : m.state < 256
  pub reserved : m.reserved < 256
  pub reason : IsBytes 4 m.reason

-- the fields of a Reg SHO Restriction fit
pub record IsRegSho (m : RegSho) : Type 0 where
  pub header : IsHeader m.header
  pub stock : IsAlpha 8 m.stock
  pub action : m.action < 256

-- the fields of an Operational Halt fit
pub record IsOperationalHalt (m : OperationalHalt) : Type 0 where
  pub header : IsHeader m.header
  pub stock : IsAlpha 8 m.stock
  pub market_code : m.market_code < 256
  pub action : m.action < 256

-- the fields of a Market Participant Position fit
pub record IsParticipantPosition (m : ParticipantPosition) : Type 0 where
  pub header : IsHeader m.header
  pub mpid : IsAlpha 4 m.mpid
  pub stock : IsAlpha 8 m.stock
  pub primary_market_maker : m.primary_market_maker < 256
  pub mode : m.mode < 256
  pub state : m.state < 256

-- the fields of an Add Order fit
pub record IsAddOrder (m : AddOrder) : Type 0 where
  pub header : IsHeader m.header
  pub reference : m.reference < 2 ^ 64
  pub shares : m.shares < 2 ^ 32
  pub stock : IsAlpha 8 m.stock
  pub price : m.price < 2 ^ 32

-- the fields of an Add Order with attribution fit
pub record IsAttributedAddOrder (m : AttributedAddOrder) : Type 0 where
  pub order : IsAddOrder m.order
  pub attribution : IsAlpha 4 m.attribution

-- the fields of an Order Executed message fit
pub record IsOrderExecuted (m : OrderExecuted) : Type 0 where
  pub header : IsHeader m.header
  pub reference : m.reference < 2 ^ 64
  pub shares : m.shares < 2 ^ 32
  pub match_number : m.match_number < 2 ^ 64

-- the fields of an Order Executed With Price message fit
pub record IsOrderExecutedWithPrice (m : OrderExecutedWithPrice) : Type 0 where
  pub execution : IsOrderExecuted m.execution
  pub printable : m.printable < 256
  pub price : m.price < 2 ^ 32

-- the fields of an Order Cancel fit
pub record IsOrderCancel (m : OrderCancel) : Type 0 where
  pub header : IsHeader m.header
  pub reference : m.reference < 2 ^ 64
  pub shares : m.shares < 2 ^ 32

-- the fields of an Order Delete fit
pub record IsOrderDelete (m : OrderDelete) : Type 0 where
  pub header : IsHeader m.header
  pub reference : m.reference < 2 ^ 64

-- the fields of an Order Replace fit
pub record IsOrderReplace (m : OrderReplace) : Type 0 where
  pub header : IsHeader m.header
  pub original : m.original < 2 ^ 64
  pub reference : m.reference < 2 ^ 64
  pub shares : m.shares < 2 ^ 32
  pub price : m.price < 2 ^ 32

-- the fields of a Trade fit
pub record IsTrade (m : Trade) : Type 0 where
  pub header : IsHeader m.header
  pub reference : m.reference < 2 ^ 64
  pub shares : m.shares < 2 ^ 32
  pub stock : IsAlpha 8 m.stock
  pub price : m.price < 2 ^ 32
  pub match_number : m.match_number < 2 ^ 64

-- the fields of a Cross Trade fit
pub record IsCrossTrade (m : CrossTrade) : Type 0 where
  pub header : IsHeader m.header
  pub shares : m.shares < 2 ^ 64
  pub stock : IsAlpha 8 m.stock
  pub price : m.price < 2 ^ 32
  pub match_number : m.match_number < 2 ^ 64
  pub cross_type : m.cross_type < 256

-- the fields of a Broken Trade fit
pub record IsBrokenTrade (m : BrokenTrade) : Type 0 where
  pub header : IsHeader m.header
  pub match_number : m.match_number < 2 ^ 64

-- the bytes of an undecoded message
pub record IsOther (bytes : List ℕ) : Type 0 where
  pub undecoded : IsUndecoded bytes
  pub wide : AreBytes bytes

-- a sequence number
pub record IsSequence (number : ℕ) : Type 0 where
  pub low : 1 ≤ number
  pub high : number ≤ 10 ^ 19

-- each field of the message fits its width and class
abbrev pub IsMessage : Message → Type 0
IsMessage (is.SystemEvent m) = IsSystemEvent m
IsMessage (is.StockDirectory m) = IsStockDirectory m
IsMessage (is.TradingAction m) = IsTradingAction m
IsMessage (is.RegSho m) = IsRegSho m
IsMessage (is.Halt m) = IsOperationalHalt m
IsMessage (is.Position m) = IsParticipantPosition m
IsMessage (is.AddOrder m) = IsAddOrder m
IsMessage (is.AttributedAddOrder m) = IsAttributedAddOrder m
IsMessage (is.OrderExecuted m) = IsOrderExecuted m
IsMessage (is.OrderExecutedWithPrice m) = IsOrderExecutedWithPrice m
IsMessage (is.OrderCancel m) = IsOrderCancel m
IsMessage (is.OrderDelete m) = IsOrderDelete m
IsMessage (is.OrderReplace m) = IsOrderReplace m
IsMessage (is.Trade m) = IsTrade m
IsMessage (is.CrossTrade m) = IsCrossTrade m
IsMessage (is.BrokenTrade m) = IsBrokenTrade m
IsMessage (is.End next) = IsSequence next
IsMessage (is.Other bytes) = IsOther bytes
