-- The fields of a message: the values of a column of the layout, their bytes, and their faults.
use Rattle.std.specs.Prelude.{◌≡◌, ℕ, ◌+◌, ◌<◌, ◌≤◌, ◌==◌, ◌||◌, List, [], ◌∷◌, ◌++◌, length, Option, Some, None, option_map, unwrap_or, Result, Ok, Err, if◌then◌else◌}
use Rattle.std.specs.List.{AllByRecursion}
use Rattle.itch_codec.specs.declared.orders.Side.{Side}
use Rattle.itch_codec.specs.declared.orders.Side.TheVariants.{Buy, Sell}
use Rattle.itch_codec.specs.declared.fault.CodecFault.{CodecFault}
use Rattle.itch_codec.specs.declared.fault.CodecFault.TheVariants.{BadText, BadSide, BadNumber}
use Rattle.itch_codec.specs.Text.{IsPrintable, first_unprintable}
use Rattle.itch_codec.specs.Numbers.{slice_at, number_at, byte_at, be, dec20, SpellsNumber, read20}
use Rattle.itch_codec.specs.Layouts.{Class, Integer, Price, Text, OneSide, Code, Codes, Digits, Column}

-- numbers that are bytes
abbrev pub AreBytes : List ℕ → Type 0
AreBytes bytes = AllByRecursion (λ byte. byte < 256) bytes

-- n bytes
abbrev pub IsBytes : ℕ → List ℕ → Type 0
IsBytes width bytes = (length bytes ≡ width) × AreBytes bytes

-- n printable bytes
abbrev pub IsAlpha : ℕ → List ℕ → Type 0
IsAlpha width bytes = (length bytes ≡ width) × IsPrintable bytes

-- the value of a field of a message
pub data Value : Type 0 where
  Number : (number : ℕ) → Value
  Bytes : (bytes : List ℕ) → Value
  TheSide : (side : Side) → Value

-- the byte of a side: B or S
abbrev pub side_byte : Side → ℕ
side_byte Buy = 66
side_byte Sell = 83

-- the field of the payload at this place, of this width, holds the value
abbrev pub HasAt : Class → ℕ → ℕ → List ℕ → Value → Type 0
HasAt Integer offset width payload (Number number) = number ≡ number_at offset width payload
HasAt Price offset width payload (Number number) = number ≡ number_at offset width payload
HasAt Text offset width payload (Bytes bytes) = (bytes ≡ slice_at offset width payload) × IsPrintable bytes
HasAt OneSide offset width payload (TheSide side) = byte_at offset payload ≡ side_byte side
HasAt Code offset width payload (Number byte) = byte ≡ byte_at offset payload
HasAt Codes offset width payload (Bytes bytes) = bytes ≡ slice_at offset width payload
HasAt Digits offset width payload (Number number) = SpellsNumber (slice_at offset width payload) number × (1 ≤ number)
HasAt class offset width payload value = ⊥

-- a column's field holds the value
abbrev pub Has : List ℕ → Column → Value → Type 0
Has payload column value = HasAt column.class column.offset column.width payload value

-- each column's field holds its value
abbrev pub HasAll : List ℕ → List Column → List Value → Type 0
HasAll payload [] [] = Unit {0}
HasAll payload (column ∷ columns) (value ∷ values) = Has payload column value × HasAll payload columns values
HasAll payload columns values = ⊥

-- the bytes of a value in a field of this class and width
abbrev pub bytes_at : Class → ℕ → Value → List ℕ
bytes_at Digits width (Number number) = dec20 number
bytes_at Code width (Number byte) = byte ∷ []
bytes_at class width (Number number) = be width number
bytes_at class width (Bytes bytes) = bytes
bytes_at class width (TheSide side) = side_byte side ∷ []

-- the bytes of the fields, one field after another
unfoldable pub joined : List Column → List Value → List ℕ
joined [] values = []
joined (column ∷ columns) [] = []
joined (column ∷ columns) (value ∷ values) = bytes_at column.class column.width value ++ joined columns values

-- the side of a byte that is B or S
abbrev pub side_of : ℕ → Side
side_of byte = if byte == 66 then Buy else Sell

-- the value of a field, if it has no fault
abbrev pub value_by : Class → ℕ → ℕ → List ℕ → Value
value_by Integer offset width payload = Number (number_at offset width payload)
value_by Price offset width payload = Number (number_at offset width payload)
value_by Text offset width payload = Bytes (slice_at offset width payload)
value_by OneSide offset width payload = TheSide (side_of (byte_at offset payload))
value_by Code offset width payload = Number (byte_at offset payload)
value_by Codes offset width payload = Bytes (slice_at offset width payload)
value_by Digits offset width payload = Number (unwrap_or (read20 (slice_at offset width payload)) 0)

-- the value of a column's field, if it has no fault
abbrev pub value_at : List ℕ → Column → Value
value_at payload column = value_by column.class column.offset column.width payload

-- the fault of a text that is not printable, at its first unprintable byte
abbrev pub text_fault : {F : Type 0} → (ℕ → F) → ℕ → List ℕ → Option F
text_fault bad offset text = option_map (λ place. bad (offset + place)) (first_unprintable text)

-- a byte that is neither B nor S
abbrev pub side_fault : ℕ → List ℕ → Option CodecFault
side_fault offset payload = if byte_at offset payload == 66 || byte_at offset payload == 83 then None else Some (BadSide offset)

-- no number, and the number 0, have this fault
abbrev pub positive_fault : {F : Type 0} → F → Option ℕ → Option F
positive_fault bad number = if unwrap_or number 0 == 0 then Some bad else None

-- the fault of a field: a text that is not printable, a byte that is not a side, or digits that are not a number from 1 on
abbrev pub fault_by : Class → ℕ → ℕ → List ℕ → Option CodecFault
fault_by Text offset width payload = text_fault BadText offset (slice_at offset width payload)
fault_by OneSide offset width payload = side_fault offset payload
fault_by Digits offset width payload = positive_fault BadNumber (read20 (slice_at offset width payload))
fault_by class offset width payload = None

-- the fault of a column's field
abbrev pub field_fault : List ℕ → Column → Option CodecFault
field_fault payload column = fault_by column.class column.offset column.width payload

-- the first of two faults
abbrev pub first_of : {F : Type 0} → Option F → Option F → Option F
first_of (Some fault) later = Some fault
first_of None later = later

-- the fault of the first field that has one
abbrev pub first_fault : List ℕ → List Column → Option CodecFault
first_fault payload [] = None
first_fault payload (column ∷ columns) = first_of (field_fault payload column) (first_fault payload columns)

-- the result meets this condition, and there is no fault; or the result is this fault
abbrev pub Reads : {X F : Type 0} → (X → Type 0) → Option F → Result X F → Type 0
Reads Is fault (Ok x) = Is x × (fault ≡ None)
Reads Is fault (Err found) = fault ≡ Some found
