-- The keys of the JSON object for a message, and the keys of the fields of each message type, in the order of its layout (TotalView-ITCH 5.0,
-- "Message Formats").
use Rattle.std.specs.Prelude.{ℕ, List, [], ◌∷◌, codes}
use Rattle.itch_codec.specs.declared.names.Key.{Key}
use Rattle.itch_codec.specs.declared.names.Key.TheVariants as key
use Rattle.itch_codec.specs.declared.message.Message.{Message}
use Rattle.itch_codec.specs.declared.message.Message.TheVariants as is

-- the text of a key
abbrev pub key_text : Key → List ℕ
key_text key.Kind = codes "type"
key_text key.Length = codes "length"
key_text key.StockLocate = codes "stock_locate"
key_text key.TrackingNumber = codes "tracking_number"
key_text key.Time = codes "time"
key_text key.EventCode = codes "event_code"
key_text key.Stock = codes "stock"
key_text key.MarketCategory = codes "market_category"
key_text key.FinancialStatusIndicator = codes "financial_status_indicator"
key_text key.RoundLotSize = codes "round_lot_size"
key_text key.RoundLotsOnly = codes "round_lots_only"
key_text key.IssueClassification = codes "issue_classification"
key_text key.IssueSubType = codes "issue_sub_type"
key_text key.Authenticity = codes "authenticity"
key_text key.ShortSaleThresholdIndicator = codes "short_sale_threshold_indicator"
key_text key.IpoFlag = codes "ipo_flag"
key_text key.LuldReferencePriceTier = codes "luld_reference_price_tier"
key_text key.EtpFlag = codes "etp_flag"
key_text key.EtpLeverageFactor = codes "etp_leverage_factor"
key_text key.InverseIndicator = codes "inverse_indicator"
key_text key.TradingState = codes "trading_state"
key_text key.Reserved = codes "reserved"
key_text key.Reason = codes "reason"
key_text key.RegShoAction = codes "reg_sho_action"
key_text key.MarketCode = codes "market_code"
key_text key.OperationalHaltAction = codes "operational_halt_action"
key_text key.Mpid = codes "mpid"
key_text key.PrimaryMarketMaker = codes "primary_market_maker"
key_text key.MarketMakerMode = codes "market_maker_mode"
key_text key.MarketParticipantState = codes "market_participant_state"
key_text key.OrderReferenceNumber = codes "order_reference_number"
key_text key.BuySellIndicator = codes "buy_sell_indicator"
key_text key.Shares = codes "shares"
key_text key.Price = codes "price"
key_text key.Attribution = codes "attribution"
key_text key.ExecutedShares = codes "executed_shares"
key_text key.MatchNumber = codes "match_number"
key_text key.Printable = codes "printable"
key_text key.ExecutionPrice = codes "execution_price"
key_text key.CancelledShares = codes "cancelled_shares"
key_text key.OriginalOrderReferenceNumber = codes "original_order_reference_number"
key_text key.NewOrderReferenceNumber = codes "new_order_reference_number"
key_text key.CrossPrice = codes "cross_price"
key_text key.CrossType = codes "cross_type"
key_text key.SequenceNumber = codes "sequence_number"

-- the keys of a header, followed by these keys
abbrev pub header_keys : List Key → List Key
header_keys keys = key.StockLocate ∷ key.TrackingNumber ∷ key.Time ∷ keys

-- System Event
abbrev pub system_event_keys : List Key
system_event_keys = header_keys (key.EventCode ∷ [])

-- a directory entry
abbrev pub directory_keys : List Key
directory_keys =
    key.Stock ∷ key.MarketCategory ∷ key.FinancialStatusIndicator ∷ key.RoundLotSize ∷ key.RoundLotsOnly
    ∷ key.IssueClassification ∷ key.IssueSubType ∷ key.Authenticity ∷ key.ShortSaleThresholdIndicator
    ∷ key.IpoFlag ∷ key.LuldReferencePriceTier ∷ key.EtpFlag ∷ key.EtpLeverageFactor ∷ key.InverseIndicator ∷ []

-- Stock Directory
abbrev pub stock_directory_keys : List Key
stock_directory_keys = header_keys directory_keys

-- Stock Trading Action
abbrev pub trading_action_keys : List Key
trading_action_keys = header_keys (key.Stock ∷ key.TradingState ∷ key.Reserved ∷ key.Reason ∷ [])

-- Reg SHO Restriction
abbrev pub reg_sho_keys : List Key
reg_sho_keys = header_keys (key.Stock ∷ key.RegShoAction ∷ [])

-- Operational Halt
abbrev pub operational_halt_keys : List Key
operational_halt_keys = header_keys (key.Stock ∷ key.MarketCode ∷ key.OperationalHaltAction ∷ [])

-- Market Participant Position
abbrev pub participant_position_keys : List Key
participant_position_keys =
    header_keys (key.Mpid ∷ key.Stock ∷ key.PrimaryMarketMaker ∷ key.MarketMakerMode ∷ key.MarketParticipantState ∷ [])

-- a new order, followed by these keys
abbrev pub order_keys : List Key → List Key
order_keys keys =
    header_keys (key.OrderReferenceNumber ∷ key.BuySellIndicator ∷ key.Shares ∷ key.Stock ∷ key.Price ∷ keys)

-- Add Order without attribution
abbrev pub add_order_keys : List Key
add_order_keys = order_keys []

-- Add Order with MPID Attribution
abbrev pub attributed_add_order_keys : List Key
attributed_add_order_keys = order_keys (key.Attribution ∷ [])

-- an execution, followed by these keys
abbrev pub execution_keys : List Key → List Key
execution_keys keys =
    header_keys (key.OrderReferenceNumber ∷ key.ExecutedShares ∷ key.MatchNumber ∷ keys)

-- Order Executed
abbrev pub order_executed_keys : List Key
order_executed_keys = execution_keys []

-- Order Executed With Price
abbrev pub order_executed_with_price_keys : List Key
order_executed_with_price_keys = execution_keys (key.Printable ∷ key.ExecutionPrice ∷ [])

-- Order Cancel
abbrev pub order_cancel_keys : List Key
order_cancel_keys = header_keys (key.OrderReferenceNumber ∷ key.CancelledShares ∷ [])

-- Order Delete
abbrev pub order_delete_keys : List Key
order_delete_keys = header_keys (key.OrderReferenceNumber ∷ [])

-- Order Replace
abbrev pub order_replace_keys : List Key
order_replace_keys =
    header_keys (key.OriginalOrderReferenceNumber ∷ key.NewOrderReferenceNumber ∷ key.Shares ∷ key.Price ∷ [])

-- Trade, non-cross
abbrev pub trade_keys : List Key
trade_keys = order_keys (key.MatchNumber ∷ [])

-- Cross Trade
abbrev pub cross_trade_keys : List Key
cross_trade_keys =
    header_keys (key.Shares ∷ key.Stock ∷ key.CrossPrice ∷ key.MatchNumber ∷ key.CrossType ∷ [])

-- Broken Trade
abbrev pub broken_trade_keys : List Key
broken_trade_keys = header_keys (key.MatchNumber ∷ [])

-- End of Snapshot, which has no header
abbrev pub end_of_snapshot_keys : List Key
end_of_snapshot_keys = key.SequenceNumber ∷ []

-- the keys of a message's fields
abbrev pub keys : Message → List Key
keys (is.SystemEvent m) = system_event_keys
keys (is.StockDirectory m) = stock_directory_keys
keys (is.TradingAction m) = trading_action_keys
keys (is.RegSho m) = reg_sho_keys
keys (is.Halt m) = operational_halt_keys
keys (is.Position m) = participant_position_keys
keys (is.AddOrder m) = add_order_keys
keys (is.AttributedAddOrder m) = attributed_add_order_keys
keys (is.OrderExecuted m) = order_executed_keys
keys (is.OrderExecutedWithPrice m) = order_executed_with_price_keys
keys (is.OrderCancel m) = order_cancel_keys
keys (is.OrderDelete m) = order_delete_keys
keys (is.OrderReplace m) = order_replace_keys
keys (is.Trade m) = trade_keys
keys (is.CrossTrade m) = cross_trade_keys
keys (is.BrokenTrade m) = broken_trade_keys
keys (is.End next) = end_of_snapshot_keys
keys (is.Other bytes) = []
