-- The bytes of a message, the fault of a payload, and the message of a payload (TotalView-ITCH 5.0, "Message Formats").
use Rattle.std.specs.Prelude.{◌≡◌, ℕ, ◌==◌, List, [], ◌∷◌, map, length, Option, Some, None, if◌then◌else◌}
use Rattle.itch_codec.specs.declared.fault.CodecFault.{CodecFault}
use Rattle.itch_codec.specs.declared.fault.CodecFault.TheVariants.{Empty, WrongLength}
use Rattle.itch_codec.specs.declared.message.Message.{Message}
use Rattle.itch_codec.specs.declared.message.Message.TheVariants as is
use Rattle.itch_codec.specs.Layouts.{Layout, layout_of, IsUndecoded, end_of_snapshot, system_event, stock_directory, trading_action, reg_sho, operational_halt, participant_position, add_order, attributed_add_order, order_executed, order_executed_with_price, order_cancel, order_delete, order_replace, trade, cross_trade, broken_trade}
use Rattle.itch_codec.specs.Numbers.{byte_at}
use Rattle.itch_codec.specs.Fields.{Value, Number, HasAll, joined, value_at, first_fault}
use Rattle.itch_codec.specs.Values.{number, system_event_values, system_event_of, stock_directory_values, stock_directory_of, trading_action_values, trading_action_of, reg_sho_values, reg_sho_of, operational_halt_values, operational_halt_of, participant_position_values, participant_position_of, add_order_values, add_order_of, attributed_add_order_values, attributed_add_order_of, order_executed_values, order_executed_of, order_executed_with_price_values, order_executed_with_price_of, order_cancel_values, order_cancel_of, order_delete_values, order_delete_of, order_replace_values, order_replace_of, trade_values, trade_of, cross_trade_values, cross_trade_of, broken_trade_values, broken_trade_of}

-- the bytes of a message: the fields of its layout, or the complete payload of an undecoded message
pub data Shape : Type 0 where
  Fields : (layout : Layout) (values : List Value) → Shape
  Payload : (bytes : List ℕ) → Shape

-- the layout of each message, and the values of its fields
abbrev pub shape : Message → Shape
shape (is.SystemEvent m) = Fields system_event (system_event_values m)
shape (is.StockDirectory m) = Fields stock_directory (stock_directory_values m)
shape (is.TradingAction m) = Fields trading_action (trading_action_values m)
shape (is.RegSho m) = Fields reg_sho (reg_sho_values m)
shape (is.Halt m) = Fields operational_halt (operational_halt_values m)
shape (is.Position m) = Fields participant_position (participant_position_values m)
shape (is.AddOrder m) = Fields add_order (add_order_values m)
shape (is.AttributedAddOrder m) = Fields attributed_add_order (attributed_add_order_values m)
shape (is.OrderExecuted m) = Fields order_executed (order_executed_values m)
shape (is.OrderExecutedWithPrice m) = Fields order_executed_with_price (order_executed_with_price_values m)
shape (is.OrderCancel m) = Fields order_cancel (order_cancel_values m)
shape (is.OrderDelete m) = Fields order_delete (order_delete_values m)
shape (is.OrderReplace m) = Fields order_replace (order_replace_values m)
shape (is.Trade m) = Fields trade (trade_values m)
shape (is.CrossTrade m) = Fields cross_trade (cross_trade_values m)
shape (is.BrokenTrade m) = Fields broken_trade (broken_trade_values m)
shape (is.End next) = Fields end_of_snapshot (Number next ∷ [])
shape (is.Other bytes) = Payload bytes

-- the payload has the layout's first byte and length, and each field holds its value
pub record IsLaid (layout : Layout) (values : List Value) (payload : List ℕ) : Type 0 where
  pub first : byte_at 0 payload ≡ layout.kind
  pub size : length payload ≡ layout.size
  pub fields : HasAll payload layout.columns values

-- the payload is these bytes, and its type is not in the table
pub record IsKept (bytes payload : List ℕ) : Type 0 where
  pub whole : payload ≡ bytes
  pub undecoded : IsUndecoded payload

-- the payload has this shape
abbrev pub HasShape : Shape → List ℕ → Type 0
HasShape (Fields layout values) payload = IsLaid layout values payload
HasShape (Payload bytes) payload = IsKept bytes payload

-- the payload encodes the message
abbrev pub Spells : Message → List ℕ → Type 0
Spells m payload = HasShape (shape m) payload

-- the layout's first byte and the fields' bytes; or the payload
abbrev pub bytes_of_shape : Shape → List ℕ
bytes_of_shape (Fields layout values) = layout.kind ∷ joined layout.columns values
bytes_of_shape (Payload bytes) = bytes

-- the bytes that are written for a message: its first byte, and its fields one after another
unfoldable pub spelling : Message → List ℕ
spelling m = bytes_of_shape (shape m)

-- the message is End of Snapshot
abbrev pub IsEnd : Message → Type 0
IsEnd (is.End next) = Unit {0}
IsEnd m = ⊥

-- the message is the payload of an undecoded type
abbrev pub IsWhole : Shape → Type 0
IsWhole (Payload bytes) = Unit {0}
IsWhole (Fields layout values) = ⊥

abbrev pub IsKeptWhole : Message → Type 0
IsKeptWhole m = IsWhole (shape m)

-- the fault of a payload of this layout: its length, or else the fault of the first field that has one
abbrev pub laid_fault : Layout → List ℕ → Option CodecFault
laid_fault layout payload =
    if length payload == layout.size
    then first_fault payload layout.columns
    else Some (WrongLength layout.kind layout.size (length payload))

-- the fault of a payload of this layout, or none if its type is not in the table
abbrev pub fault_by_layout : Option Layout → List ℕ → Option CodecFault
fault_by_layout None payload = None
fault_by_layout (Some layout) payload = laid_fault layout payload

-- the reason why a payload is not a valid message, if it is not one
abbrev pub fault : List ℕ → Option CodecFault
fault [] = Some Empty
fault (kind ∷ rest) = fault_by_layout (layout_of kind) (kind ∷ rest)

-- the message of this type with these values
abbrev pub made : ℕ → List Value → Message
made kind values =
    if kind == system_event.kind then is.SystemEvent (system_event_of values) else (
    if kind == stock_directory.kind then is.StockDirectory (stock_directory_of values) else (
    if kind == trading_action.kind then is.TradingAction (trading_action_of values) else (
    if kind == reg_sho.kind then is.RegSho (reg_sho_of values) else (
    if kind == operational_halt.kind then is.Halt (operational_halt_of values) else (
    if kind == participant_position.kind then is.Position (participant_position_of values) else (
    if kind == add_order.kind then is.AddOrder (add_order_of values) else (
    if kind == attributed_add_order.kind then is.AttributedAddOrder (attributed_add_order_of values) else (
    if kind == order_executed.kind then is.OrderExecuted (order_executed_of values) else (
    if kind == order_executed_with_price.kind then is.OrderExecutedWithPrice (order_executed_with_price_of values) else (
    if kind == order_cancel.kind then is.OrderCancel (order_cancel_of values) else (
    if kind == order_delete.kind then is.OrderDelete (order_delete_of values) else (
    if kind == order_replace.kind then is.OrderReplace (order_replace_of values) else (
    if kind == trade.kind then is.Trade (trade_of values) else (
    if kind == cross_trade.kind then is.CrossTrade (cross_trade_of values) else (
    if kind == broken_trade.kind then is.BrokenTrade (broken_trade_of values) else (
    is.End (number 0 values)))))))))))))))))

-- the message of a payload of this layout, or the payload if its type is not in the table
abbrev pub message_by_layout : Option Layout → List ℕ → Message
message_by_layout None payload = is.Other payload
message_by_layout (Some layout) payload = made layout.kind (map (value_at payload) layout.columns)

-- the message of a payload without a fault
unfoldable pub message_of : List ℕ → Message
message_of payload = message_by_layout (layout_of (byte_at 0 payload)) payload
