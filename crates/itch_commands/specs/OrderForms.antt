-- The line of a message with the order behind it, in each form.
use Rattle.std.specs.Prelude.{ℕ, ◌-◌, ◌/◌, ◌%◌, List, [], ◌∷◌, ◌++◌, length, take, codes, decimal, Option, None, Some, if◌then◌else◌}
use Rattle.itch_codec.specs.Clock.{clock}
use Rattle.itch_codec.specs.Fields.{side_byte}
use Rattle.itch_codec.specs.Headers.{header, kind_of}
use Rattle.itch_codec.specs.Json.{json_line}
use Rattle.itch_codec.specs.Lines.{hex_digit, line_of, price_text}
use Rattle.itch_codec.specs.Named.{named_line}
use Rattle.itch_codec.specs.Text.{before_spaces, is_unprintable}
use Rattle.itch_codec.specs.declared.header.Header.{Header}
use Rattle.itch_codec.specs.declared.message.Message.{Message}
use Rattle.itch_codec.specs.declared.message.Message.TheVariants as is
use Rattle.itch_commands.specs.Forms.{csv_text, json_text}
use Rattle.itch_commands.specs.declared.form.OrderForm.{OrderForm}
use Rattle.itch_commands.specs.declared.form.OrderForm.TheVariants as form
use Rattle.itch_commands.specs.declared.show.orders.behind.Behind.{Behind}

-- a text without its last characters
abbrev pub without_last : ℕ → List ℕ → List ℕ
without_last most text = take (length text - most) text

-- a stock without trailing spaces; no stock is an empty one
abbrev pub stock_text : Option (List ℕ) → List ℕ
stock_text None = []
stock_text (Some stock) = before_spaces stock

-- the attribution at the end of a line, if there is one
abbrev pub attribution_word : Option (List ℕ) → List ℕ
attribution_word None = []
attribution_word (Some mpid) = codes " [" ++ before_spaces mpid ++ codes "]"

-- the part after a message: the side, stock and price of the order, its shares before and after, and its attribution
abbrev pub order_words : Behind → List ℕ
order_words b =
    codes " | " ++ side_byte b.order.side ∷ [] ++ codes " [" ++ stock_text b.stock ++ codes "] " ++ price_text b.order.price ++ codes " "
    ++ decimal b.order.shares ++ codes " " ++ decimal b.left ++ attribution_word b.order.mpid ++ codes "\n"

-- the value of an attribution: a string, or null
abbrev pub attribution_value : Option (List ℕ) → List ℕ
attribution_value None = codes "null"
attribution_value (Some mpid) = codes "\"" ++ json_text (before_spaces mpid) ++ codes "\""

-- the side, stock and price as members of the object of a message
abbrev pub price_members : Behind → List ℕ
price_members b =
    codes ",\"buy_sell_indicator\":\"" ++ side_byte b.order.side ∷ [] ++ codes "\",\"stock\":\"" ++ json_text (stock_text b.stock)
    ++ codes "\",\"order_price\":\"" ++ price_text b.order.price ++ codes "\""

-- the shares before and after and the attribution as members, and the end of the object
abbrev pub share_members : Behind → List ℕ
share_members b =
    codes ",\"shares_before\":" ++ decimal b.order.shares ++ codes ",\"shares_after\":" ++ decimal b.left
    ++ codes ",\"attribution\":" ++ attribution_value b.order.mpid ++ codes "}\n"

-- the part after the members of a message
abbrev pub order_members : Behind → List ℕ
order_members b = price_members b ++ share_members b

-- the line with the names of the columns
abbrev pub order_columns : List ℕ
order_columns =
    codes "number,type,stock_locate,tracking_number,time,ns,order_reference_number,buy_sell_indicator,stock,order_price,shares_before,"
    ++ codes "shares_after,attribution,executed_shares,match_number,printable,execution_price,cancelled_shares,new_order_reference_number,"
    ++ codes "shares,price\n"

-- the heading of all lines
abbrev pub order_head : OrderForm → List ℕ
order_head form.Text = []
order_head form.Named = []
order_head form.Json = []
order_head form.Csv = order_columns

-- the columns of a header
abbrev pub header_columns : Option Header → List ℕ
header_columns None = []
header_columns (Some h) =
    decimal h.locate ++ codes "," ++ decimal h.tracking ++ codes "," ++ clock h.stamp ++ codes "," ++ decimal h.stamp ++ codes ","

-- the columns of any message: its number, its type and its header
abbrev pub message_columns : ℕ → Message → List ℕ
message_columns number message = decimal number ++ codes "," ++ kind_of message ∷ [] ++ codes "," ++ header_columns (header message)

-- an attribution as a field, which is empty without one
abbrev pub attribution_field : Option (List ℕ) → List ℕ
attribution_field None = []
attribution_field (Some mpid) = csv_text (before_spaces mpid)

-- the columns of an order
abbrev pub order_fields : Behind → List ℕ
order_fields b =
    decimal b.order.reference ++ codes "," ++ side_byte b.order.side ∷ [] ++ codes "," ++ csv_text (stock_text b.stock)
    ++ codes "," ++ price_text b.order.price ++ codes "," ++ decimal b.order.shares ++ codes "," ++ decimal b.left
    ++ codes "," ++ attribution_field b.order.mpid

-- any byte as a field: one that is not printable by its number
abbrev pub code_field : ℕ → List ℕ
code_field byte =
    if is_unprintable byte then codes "\\x" ++ hex_digit (byte / 16) ∷ hex_digit (byte % 16) ∷ [] else csv_text (byte ∷ [])

-- The columns of one type of message, each after a comma: executed shares, match number, printable and execution price; the cancelled
-- shares; and the reference, shares and price of the new order.
abbrev pub own_columns : Message → List ℕ
own_columns (is.OrderExecuted x) = codes "," ++ decimal x.shares ++ codes "," ++ decimal x.match_number ++ codes ",,,,,,\n"
own_columns (is.OrderExecutedWithPrice x) =
    codes "," ++ decimal x.execution.shares ++ codes "," ++ decimal x.execution.match_number ++ codes "," ++ code_field x.printable
    ++ codes "," ++ price_text x.price ++ codes ",,,,\n"
own_columns (is.OrderCancel x) = codes ",,,,," ++ decimal x.shares ++ codes ",,,\n"
own_columns (is.OrderReplace x) =
    codes ",,,,,," ++ decimal x.reference ++ codes "," ++ decimal x.shares ++ codes "," ++ price_text x.price ++ codes "\n"
own_columns message = codes ",,,,,,,,\n"

-- The line of a message with this number and the order behind it. As text and as JSON it is the line of the message, with the order
-- before its end.
abbrev pub order_line : OrderForm → ℕ → Message → Behind → List ℕ
order_line form.Text number message b = without_last 1 (line_of number message) ++ order_words b
order_line form.Named number message b = without_last 1 (named_line number message) ++ order_words b
order_line form.Json number message b = without_last 2 (json_line number message) ++ order_members b
order_line form.Csv number message b = message_columns number message ++ (order_fields b ++ own_columns message)
