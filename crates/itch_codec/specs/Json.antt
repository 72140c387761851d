-- The line of JSON for a message: an object with its number, its type and its fields in order (RFC 8259).
use Rattle.std.specs.Prelude.{ℕ, ◌/◌, ◌%◌, ◌==◌, ◌||◌, List, [], ◌∷◌, ◌++◌, codes, decimal, if◌then◌else◌}
use Rattle.std.specs.List.{flat_map}
use Rattle.itch_codec.specs.Text.{before_spaces, is_unprintable}
use Rattle.itch_codec.specs.Layouts.{Class, Integer, Price, Text, OneSide, Code, Codes, Digits}
use Rattle.itch_codec.specs.Fields.{Value, Number, Bytes, TheSide, side_byte}
use Rattle.itch_codec.specs.Values.{number_in}
use Rattle.itch_codec.specs.Lines.{price_text, hex_digit}
use Rattle.itch_codec.specs.Clock.{clock, is_timestamp}
use Rattle.itch_codec.specs.Shown.{Form, shown}
use Rattle.itch_codec.specs.Names.{key_text}
use Rattle.itch_codec.specs.declared.names.Key.{Key}
use Rattle.itch_codec.specs.declared.names.Key.TheVariants as is
use Rattle.itch_codec.specs.declared.message.Message.{Message}

-- a byte inside a string: with a backslash before it if it is a quotation mark or a backslash, and as its number if it is not printable
abbrev pub escaped : ℕ → List ℕ
escaped byte =
    if byte == 34 || byte == 92 then codes "\\" ++ byte ∷ [] else (
    if is_unprintable byte then codes "\\u00" ++ hex_digit (byte / 16) ∷ hex_digit (byte % 16) ∷ [] else byte ∷ [])

-- a string of these bytes
unfoldable pub quoted : List ℕ → List ℕ
quoted bytes = codes "\"" ++ flat_map escaped bytes ++ codes "\""

-- the value of a field: numbers in decimal digits, and all other values as strings: prices with four decimals, texts without the spaces at
-- their end, sides as their letters, and any other bytes
abbrev pub json_by : Class → Value → List ℕ
json_by Integer (Number number) = decimal number
json_by Price (Number number) = codes "\"" ++ price_text number ++ codes "\""
json_by Text (Bytes bytes) = quoted (before_spaces bytes)
json_by OneSide (TheSide side) = codes "\"" ++ side_byte side ∷ codes "\""
json_by Code (Number byte) = quoted (byte ∷ [])
json_by Codes (Bytes bytes) = quoted bytes
json_by Digits (Number number) = decimal number
json_by class value = []

-- a comma, a key and the value of a field of this class
unfoldable pub member : Key → Class → Value → List ℕ
member key class value = codes ",\"" ++ key_text key ++ codes "\":" ++ json_by class value

-- the two members of a timestamp: the time of day under its key, and the nanoseconds since midnight
unfoldable pub times : Key → ℕ → List ℕ
times key nanoseconds =
    codes ",\"" ++ key_text key ++ codes "\":\"" ++ clock nanoseconds ++ codes "\",\"ns\":" ++ decimal nanoseconds

-- the members of a field with this key, class and width
abbrev pub json_field : Key → Class → ℕ → Value → List ℕ
json_field key class width value = if is_timestamp class width then times key (number_in value) else member key class value

-- the form of an object after its number: the type and the fields are members
abbrev pub json_form : Form
json_form = record { kind = λ kind. member is.Kind Code (Number kind); undecoded = []; field = json_field }

-- the line of a message with this number
abbrev pub json_line : ℕ → Message → List ℕ
json_line number message = codes "{\"number\":" ++ decimal number ++ shown json_form message ++ codes "}\n"
