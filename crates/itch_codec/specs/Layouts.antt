-- The layout of each message type, as data (TotalView-ITCH 5.0, "Message Formats").
use Rattle.std.specs.Prelude.{◌≡◌, ℕ, ◌==◌, List, [], ◌∷◌, Option, None, Some, if◌then◌else◌}

-- the class of a field: a number, a price, a text, a side, one byte or several bytes of any value, or a number in decimal digits
pub data Class : Type 0 where
  Integer : Class
  Price : Class
  Text : Class
  OneSide : Class
  Code : Class
  Codes : Class
  Digits : Class

-- a field: its offset in the message, its number of bytes, and its class
pub record Column : Type 0 where
  pub offset : ℕ
  pub width : ℕ
  pub class : Class

-- a message type: its first byte, its number of bytes, and its fields in order
pub record Layout : Type 0 where
  pub kind : ℕ
  pub size : ℕ
  pub columns : List Column

-- a column of this many bytes from this offset on
abbrev pub column : ℕ → ℕ → Class → Column
column offset width class = record { offset = offset; width = width; class = class }

-- stock locate, tracking number and timestamp precede the fields
abbrev pub with_header : List Column → List Column
with_header columns = column 1 2 Integer ∷ column 3 2 Integer ∷ column 5 6 Integer ∷ columns

-- a message type with a header before its fields
abbrev pub message_type : ℕ → ℕ → List Column → Layout
message_type kind size columns = record { kind = kind; size = size; columns = with_header columns }

-- System Event, S: event code
abbrev pub system_event : Layout
system_event = message_type 83 12 (column 11 1 Code ∷ [])

-- the fields of a directory entry
abbrev pub directory_columns : List Column
directory_columns =
    column 11 8 Text ∷ column 19 1 Code ∷ column 20 1 Code ∷ column 21 4 Integer ∷ column 25 1 Code ∷ column 26 1 Code ∷ column 27 2 Codes
    ∷ column 29 1 Code ∷ column 30 1 Code ∷ column 31 1 Code ∷ column 32 1 Code ∷ column 33 1 Code ∷ column 34 4 Integer ∷ column 38 1 Code ∷ []

-- Stock Directory, R: header and entry
abbrev pub stock_directory : Layout
stock_directory = message_type 82 39 directory_columns

-- Stock Trading Action, H: stock, trading state, reserved, reason
abbrev pub trading_action : Layout
trading_action = message_type 72 25 (column 11 8 Text ∷ column 19 1 Code ∷ column 20 1 Code ∷ column 21 4 Codes ∷ [])

-- Reg SHO Restriction, Y: stock, action
abbrev pub reg_sho : Layout
reg_sho = message_type 89 20 (column 11 8 Text ∷ column 19 1 Code ∷ [])

-- Operational Halt, h: stock, market code, action
abbrev pub operational_halt : Layout
operational_halt = message_type 104 21 (column 11 8 Text ∷ column 19 1 Code ∷ column 20 1 Code ∷ [])

-- Market Participant Position, L: MPID, stock, primary market maker, mode, state
abbrev pub participant_position : Layout
participant_position =
    message_type 76 26 (column 11 4 Text ∷ column 15 8 Text ∷ column 23 1 Code ∷ column 24 1 Code ∷ column 25 1 Code ∷ [])

-- the fields of a new order
abbrev pub order_columns : List Column → List Column
order_columns columns =
    column 11 8 Integer ∷ column 19 1 OneSide ∷ column 20 4 Integer ∷ column 24 8 Text ∷ column 32 4 Price ∷ columns

-- Add Order without attribution, A
abbrev pub add_order : Layout
add_order = message_type 65 36 (order_columns [])

-- Add Order with MPID Attribution, F: as A, then attribution
abbrev pub attributed_add_order : Layout
attributed_add_order = message_type 70 40 (order_columns (column 36 4 Text ∷ []))

-- the fields of an execution
abbrev pub execution_columns : List Column → List Column
execution_columns columns = column 11 8 Integer ∷ column 19 4 Integer ∷ column 23 8 Integer ∷ columns

-- Order Executed, E
abbrev pub order_executed : Layout
order_executed = message_type 69 31 (execution_columns [])

-- Order Executed With Price, C: as E, then printable, price
abbrev pub order_executed_with_price : Layout
order_executed_with_price = message_type 67 36 (execution_columns (column 31 1 Code ∷ column 32 4 Price ∷ []))

-- Order Cancel, X: reference, cancelled shares
abbrev pub order_cancel : Layout
order_cancel = message_type 88 23 (column 11 8 Integer ∷ column 19 4 Integer ∷ [])

-- Order Delete, D: reference
abbrev pub order_delete : Layout
order_delete = message_type 68 19 (column 11 8 Integer ∷ [])

-- Order Replace, U: original reference, new reference, shares, price
abbrev pub order_replace : Layout
order_replace = message_type 85 35 (column 11 8 Integer ∷ column 19 8 Integer ∷ column 27 4 Integer ∷ column 31 4 Price ∷ [])

-- Trade, non-cross, P: as A, then match number
abbrev pub trade : Layout
trade = message_type 80 44 (order_columns (column 36 8 Integer ∷ []))

-- Cross Trade, Q: shares, stock, cross price, match number, cross type
abbrev pub cross_trade : Layout
cross_trade = message_type 81 40 (column 11 8 Integer ∷ column 19 8 Text ∷ column 27 4 Price ∷ column 31 8 Integer ∷ column 39 1 Code ∷ [])

-- Broken Trade, B: match number
abbrev pub broken_trade : Layout
broken_trade = message_type 66 19 (column 11 8 Integer ∷ [])

-- End of Snapshot (GLIMPSE 5.0): the sequence number in twenty digits, and no header
abbrev pub end_of_snapshot : Layout
end_of_snapshot = record { kind = 71; size = 21; columns = column 1 20 Digits ∷ [] }

-- every message type that is decoded
abbrev pub table : List Layout
table =
    system_event ∷ stock_directory ∷ trading_action ∷ reg_sho ∷ operational_halt ∷ participant_position ∷ add_order ∷ attributed_add_order ∷ order_executed ∷ order_executed_with_price
    ∷ order_cancel ∷ order_delete ∷ order_replace ∷ trade ∷ cross_trade ∷ broken_trade ∷ end_of_snapshot ∷ []

-- the first layout in a list with this first byte
abbrev pub layout_in : List Layout → ℕ → Option Layout
layout_in [] kind = None
layout_in (layout ∷ layouts) kind = if kind == layout.kind then Some layout else layout_in layouts kind

-- the layout of the type with this first byte
abbrev pub layout_of : ℕ → Option Layout
layout_of kind = layout_in table kind

-- a payload that is not empty, and whose type is not in the table
abbrev pub IsUndecoded : List ℕ → Type 0
IsUndecoded [] = ⊥
IsUndecoded (kind ∷ rest) = layout_of kind ≡ None
