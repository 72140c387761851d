-- The line of text for a message with its codes as characters and its timestamp as a time of day. The rest is as in Lines.
use Rattle.std.specs.Prelude.{ℕ, ◌/◌, ◌%◌, ◌==◌, ◌||◌, List, [], ◌∷◌, ◌++◌, codes, decimal, if◌then◌else◌}
use Rattle.std.specs.List.{flat_map}
use Rattle.itch_codec.specs.Text.{is_unprintable}
use Rattle.itch_codec.specs.Layouts.{Class, Code, Codes}
use Rattle.itch_codec.specs.Fields.{Value, Number, Bytes}
use Rattle.itch_codec.specs.Values.{number_in}
use Rattle.itch_codec.specs.Lines.{hex_digit, word}
use Rattle.itch_codec.specs.Clock.{clock, is_timestamp}
use Rattle.itch_codec.specs.Shown.{Form, shown}
use Rattle.itch_codec.specs.declared.message.Message.{Message}

-- a byte as a character: with a backslash before it if it is a single quote or a backslash, and as its number if it is not printable
abbrev pub character : ℕ → List ℕ
character byte =
    if byte == 39 || byte == 92 then codes "\\" ++ byte ∷ [] else (
    if is_unprintable byte then codes "\\x" ++ hex_digit (byte / 16) ∷ hex_digit (byte % 16) ∷ [] else byte ∷ [])

-- a space, and bytes as characters in single quotes
unfoldable pub characters : List ℕ → List ℕ
characters bytes = codes " '" ++ flat_map character bytes ++ codes "'"

-- a space and a time of day
unfoldable pub clock_word : ℕ → List ℕ
clock_word nanoseconds = codes " " ++ clock nanoseconds

-- a space and the value of a field of this class
abbrev pub named_by : Class → Value → List ℕ
named_by Code (Number byte) = characters (byte ∷ [])
named_by Codes (Bytes bytes) = characters bytes
named_by class value = word class value

-- a space and a field of this class and width
abbrev pub named_field : Class → ℕ → Value → List ℕ
named_field class width value = if is_timestamp class width then clock_word (number_in value) else named_by class value

-- the form of a line with names: the type as its letter, and a space before each field
abbrev pub named_form : Form
named_form = record { kind = λ kind. kind ∷ []; undecoded = codes "other"; field = λ key class width value. named_field class width value }

-- the line of a message with this number
abbrev pub named_line : ℕ → Message → List ℕ
named_line number message = decimal number ++ codes " " ++ shown named_form message ++ codes "\n"
