-- The line of text for a message: its number, the letter of its type, and its fields in order, separated by single spaces.
use Rattle.std.specs.Prelude.{ℕ, ◌+◌, ◌/◌, ◌%◌, nat_lt, List, [], ◌∷◌, ◌++◌, codes, decimal, if◌then◌else◌}
use Rattle.itch_codec.specs.Text.{before_spaces}
use Rattle.itch_codec.specs.Layouts.{Class, Integer, Price, Text, OneSide, Code, Codes, Digits}
use Rattle.itch_codec.specs.Fields.{Value, Number, Bytes, TheSide, side_byte}
use Rattle.itch_codec.specs.Shown.{Form, shown}
use Rattle.itch_codec.specs.declared.message.Message.{Message}

-- the last four decimal digits of a number
abbrev pub four_digits : ℕ → List ℕ
four_digits n = (48 + n / 1000 % 10) ∷ (48 + n / 100 % 10) ∷ (48 + n / 10 % 10) ∷ (48 + n % 10) ∷ []

-- a price with its four decimals
abbrev pub price_text : ℕ → List ℕ
price_text price = decimal (price / 10000) ++ 46 ∷ four_digits price

-- a hexadecimal digit, in lower case
abbrev pub hex_digit : ℕ → ℕ
hex_digit n = if nat_lt n 10 then 48 + n else 87 + n

-- two hexadecimal digits for each byte
unfoldable pub hex : List ℕ → List ℕ
hex [] = []
hex (byte ∷ bytes) = hex_digit (byte / 16) ∷ hex_digit (byte % 16) ∷ hex bytes

-- the text of a field's value: numbers in decimal digits, prices with four decimals, texts in square brackets without the spaces at their
-- end, sides as their letters, and any other bytes in hexadecimal digits
abbrev pub word_by : Class → Value → List ℕ
word_by Integer (Number number) = decimal number
word_by Price (Number number) = price_text number
word_by Text (Bytes bytes) = codes "[" ++ before_spaces bytes ++ codes "]"
word_by OneSide (TheSide side) = side_byte side ∷ []
word_by Code (Number byte) = hex (byte ∷ [])
word_by Codes (Bytes bytes) = hex bytes
word_by Digits (Number number) = decimal number
word_by class value = []

-- a space and the value of a field of this class
unfoldable pub word : Class → Value → List ℕ
word class value = codes " " ++ word_by class value

-- the form of a line: the type as its letter, and a space before each field
abbrev pub line_form : Form
line_form = record { kind = λ kind. kind ∷ []; undecoded = codes "other"; field = λ key class width value. word class value }

-- the line of a message with this number
abbrev pub line_of : ℕ → Message → List ℕ
line_of number message = decimal number ++ codes " " ++ shown line_form message ++ codes "\n"
