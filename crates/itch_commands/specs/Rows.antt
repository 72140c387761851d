-- The comma-separated values of messages of one type: a line with the names of the columns, and a row for each message (RFC 4180).
use Rattle.std.specs.Prelude.{ℕ, ◌/◌, ◌%◌, ◌==◌, List, [], ◌∷◌, ◌++◌, codes, decimal, length, Option, None, Some, if◌then◌else◌}
use Rattle.std.specs.List.{flat_map}
use Rattle.itch_codec.specs.Clock.{clock, is_timestamp}
use Rattle.itch_codec.specs.Fields.{Value, Number, Bytes, TheSide, side_byte}
use Rattle.itch_codec.specs.Headers.{header, kind_of}
use Rattle.itch_codec.specs.Layouts.{Class, Integer, Price, Text, OneSide, Code, Codes, Digits, layout_of}
use Rattle.itch_codec.specs.Lines.{hex_digit, price_text}
use Rattle.itch_codec.specs.Messages.{message_by_layout}
use Rattle.itch_codec.specs.Names.{key_text}
use Rattle.itch_codec.specs.Shown.{Form, shown}
use Rattle.itch_codec.specs.Text.{before_spaces, is_unprintable}
use Rattle.itch_codec.specs.Values.{number_in}
use Rattle.itch_codec.specs.declared.header.Header.{Header}
use Rattle.itch_codec.specs.declared.stocks.Directory.{Directory}
use Rattle.itch_codec.specs.declared.orders.AddOrder.{AddOrder}
use Rattle.itch_codec.specs.declared.orders.OrderExecuted.{OrderExecuted}
use Rattle.itch_codec.specs.declared.message.Message.{Message}
use Rattle.itch_codec.specs.declared.message.Message.TheVariants as is
use Rattle.itch_commands.specs.Forms.{csv_text}

-- a byte of any kind as text: one that is not printable by its number
abbrev pub code_char : ℕ → List ℕ
code_char byte =
    if is_unprintable byte then codes "\\x" ++ hex_digit (byte / 16) ∷ hex_digit (byte % 16) ∷ [] else byte ∷ []

-- bytes of any kind as a field
unfoldable pub codes_field : List ℕ → List ℕ
codes_field bytes = csv_text (flat_map code_char bytes)

-- the value of a field: a number in decimal digits, a price with four decimals, a text without the spaces at its end, a side as it is
-- spelled, and bytes of any kind
abbrev pub field_by : Class → Value → List ℕ
field_by Integer (Number number) = decimal number
field_by Price (Number number) = price_text number
field_by Text (Bytes bytes) = csv_text (before_spaces bytes)
field_by OneSide (TheSide side) = side_byte side ∷ []
field_by Code (Number byte) = codes_field (byte ∷ [])
field_by Codes (Bytes bytes) = codes_field bytes
field_by Digits (Number number) = decimal number
field_by class value = []

-- a comma and the value of a field of this class
unfoldable pub column_by : Class → Value → List ℕ
column_by class value = codes "," ++ field_by class value

-- a timestamp is two columns: the time of the day, and the nanoseconds since midnight
unfoldable pub time_columns : ℕ → List ℕ
time_columns nanoseconds = codes "," ++ clock nanoseconds ++ codes "," ++ decimal nanoseconds

-- a field of this class and width
abbrev pub row_field : Class → ℕ → Value → List ℕ
row_field class width value = if is_timestamp class width then time_columns (number_in value) else column_by class value

-- a row after its number: the type and the fields are columns
abbrev pub row_form : Form
row_form = record { kind = λ kind. column_by Code (Number kind); undecoded = []; field = λ key class width value. row_field class width value }

-- the row of a message with this number: its number, its type, and its fields in the order of its layout
abbrev pub row : ℕ → Message → List ℕ
row number message = decimal number ++ shown row_form message ++ codes "\n"

-- the names of the same columns
abbrev pub name_form : Form
name_form = record {
  kind = λ kind. codes ",type";
  undecoded = [];
  field = λ key class width value. if is_timestamp class width then codes ",time,ns" else codes "," ++ key_text key;
}

-- the line with the names of the columns of the row of this message
abbrev pub heading_of : Message → List ℕ
heading_of message = codes "number" ++ shown name_form message ++ codes "\n"

-- the line with the names of the columns of a type: those of any message of this type
abbrev pub heading : ℕ → List ℕ
heading kind = heading_of (message_by_layout (layout_of kind) (kind ∷ []))

-- the row of a message of this type; another message has none under its heading
abbrev pub row_of : ℕ → ℕ → Message → List ℕ
row_of kind number message = if kind_of message == kind then row number message else []

-- the columns of a header
abbrev pub header_row : Header → List ℕ
header_row h = column_by Integer (Number h.locate) ++ (column_by Integer (Number h.tracking) ++ time_columns h.stamp)

-- the columns of a header, if there is one
abbrev pub header_if : Option Header → List ℕ
header_if None = []
header_if (Some h) = header_row h

-- a row up to the header of its message
abbrev pub row_start : ℕ → Message → List ℕ
row_start number message = decimal number ++ (column_by Code (Number (kind_of message)) ++ header_if (header message))

-- the first columns of a directory entry, and the others
abbrev pub first_fields : Directory → List ℕ
first_fields x =
    column_by Text (Bytes x.stock) ++ (column_by Code (Number x.market_category) ++ (column_by Code (Number x.financial_status) ++ (column_by Integer (Number x.round_lot_size)
    ++ (column_by Code (Number x.round_lots_only) ++ (column_by Code (Number x.issue_classification) ++ column_by Codes (Bytes x.issue_sub_type))))))

abbrev pub last_fields : Directory → List ℕ
last_fields x =
    column_by Code (Number x.authenticity) ++ (column_by Code (Number x.short_sale_threshold) ++ (column_by Code (Number x.ipo_flag) ++ (column_by Code (Number x.luld_price_tier)
    ++ (column_by Code (Number x.etp_flag) ++ (column_by Integer (Number x.etp_leverage_factor) ++ column_by Code (Number x.inverse_indicator))))))

-- the columns of a new order
abbrev pub order_row : AddOrder → List ℕ
order_row x =
    column_by Integer (Number x.reference) ++ (column_by OneSide (TheSide x.side) ++ (column_by Integer (Number x.shares)
    ++ (column_by Text (Bytes x.stock) ++ column_by Price (Number x.price))))

-- the columns of an execution
abbrev pub execution_row : OrderExecuted → List ℕ
execution_row x = column_by Integer (Number x.reference) ++ (column_by Integer (Number x.shares) ++ column_by Integer (Number x.match_number))

-- the columns of a message after its header
abbrev pub own_fields : Message → List ℕ
own_fields (is.SystemEvent x) = column_by Code (Number x.code)
own_fields (is.StockDirectory x) = first_fields x.entry ++ last_fields x.entry
own_fields (is.TradingAction x) =
    column_by Text (Bytes x.stock) ++ (column_by Code (Number x.state) ++ (column_by Code (Number x.reserved) ++ column_by Codes (Bytes x.reason)))
own_fields (is.RegSho x) = column_by Text (Bytes x.stock) ++ column_by Code (Number x.action)
own_fields (is.Halt x) = column_by Text (Bytes x.stock) ++ (column_by Code (Number x.market_code) ++ column_by Code (Number x.action))
own_fields (is.Position x) =
    column_by Text (Bytes x.mpid) ++ (column_by Text (Bytes x.stock) ++ (column_by Code (Number x.primary_market_maker)
    ++ (column_by Code (Number x.mode) ++ column_by Code (Number x.state))))
own_fields (is.AddOrder x) = order_row x
own_fields (is.AttributedAddOrder x) = order_row x.order ++ column_by Text (Bytes x.attribution)
own_fields (is.OrderExecuted x) = execution_row x
own_fields (is.OrderExecutedWithPrice x) = execution_row x.execution ++ (column_by Code (Number x.printable) ++ column_by Price (Number x.price))
own_fields (is.OrderCancel x) = column_by Integer (Number x.reference) ++ column_by Integer (Number x.shares)
own_fields (is.OrderDelete x) = column_by Integer (Number x.reference)
own_fields (is.OrderReplace x) =
    column_by Integer (Number x.original) ++ (column_by Integer (Number x.reference) ++ (column_by Integer (Number x.shares) ++ column_by Price (Number x.price)))
own_fields (is.Trade x) =
    column_by Integer (Number x.reference) ++ (column_by OneSide (TheSide x.side) ++ (column_by Integer (Number x.shares)
    ++ (column_by Text (Bytes x.stock) ++ (column_by Price (Number x.price) ++ column_by Integer (Number x.match_number)))))
own_fields (is.CrossTrade x) =
    column_by Integer (Number x.shares) ++ (column_by Text (Bytes x.stock) ++ (column_by Price (Number x.price)
    ++ (column_by Integer (Number x.match_number) ++ column_by Code (Number x.cross_type))))
own_fields (is.BrokenTrade x) = column_by Integer (Number x.match_number)
own_fields (is.End next) = column_by Digits (Number next)
own_fields (is.Other bytes) = column_by Integer (Number (length bytes))
