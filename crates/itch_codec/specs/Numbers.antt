-- Integers in bytes, and numbers in twenty decimal digits (TotalView-ITCH 5.0, "Data Types"; GLIMPSE 5.0, "End of Snapshot").
use Rattle.std.specs.Prelude.{◌≡◌, ℕ, ◌+◌, ◌-◌, ◌<◌, ◌≤◌, ◌^◌, ◌==◌, Bool, nat_le, IsTrue, List, [], ◌∷◌, ◌++◌, length, replicate, take, drop, slice_range, slice_index, decimal, Option, Some, None, if◌then◌else◌}
use Rattle.std.specs.Char.{is_ascii_digit}
use Rattle.std.specs.List.{prefix_len, list_all}
use Rattle.std.specs.Str.{all_ascii_digits}
use Rattle.std.specs.Str.Parse.{digits_value}
use Rattle.byteorder.specs.Endian.{big_number, big_bytes}

-- n bytes of a message from this offset on
unfoldable pub slice_at : ℕ → ℕ → List ℕ → List ℕ
slice_at offset width payload = slice_range payload offset (offset + width)

-- the big-endian number in these bytes
unfoldable pub number_at : ℕ → ℕ → List ℕ → ℕ
number_at offset width payload = big_number width (slice_range payload offset (offset + width))

-- the byte of a message at this offset
abbrev pub byte_at : ℕ → List ℕ → ℕ
byte_at offset payload = slice_index payload offset

-- a number in n bytes, big-endian
unfoldable pub be : ℕ → ℕ → List ℕ
be width number = big_bytes width number

-- a text with spaces before it, up to the width of its field
abbrev pub padded_on_left : ℕ → List ℕ → List ℕ
padded_on_left width text = replicate (width - length text) 32 ++ text

-- a number in twenty bytes: its digits after spaces
unfoldable pub dec20 : ℕ → List ℕ
dec20 number = padded_on_left 20 (decimal number)

-- the byte is a space
abbrev pub is_space : ℕ → Bool
is_space byte = byte == 32

-- the field consists of spaces, at least one digit, and spaces, and the value of the digits is this number, at most 10^19
pub record IsNumber (field : List ℕ) (number : ℕ) (left digits right : List ℕ) : Type 0 where
  pub whole : field ≡ left ++ (digits ++ right)
  pub spaces_before : IsTrue (list_all is_space left)
  pub all_digits : IsTrue (all_ascii_digits digits)
  pub some_digit : 0 < length digits
  pub spaces_after : IsTrue (list_all is_space right)
  pub value : number ≡ digits_value 10 digits
  pub bounded : number ≤ 10 ^ 19

-- the field encodes the number, for some division into parts
abbrev pub SpellsNumber : List ℕ → ℕ → Type 0
SpellsNumber field number =
    (left : List ℕ) × (digits : List ℕ) × (right : List ℕ) × IsNumber field number left digits right

-- a field without its leading spaces
unfoldable pub after_spaces : List ℕ → List ℕ
after_spaces field = drop (prefix_len is_space field) field

-- the digits at the front of a text
unfoldable pub digits_in_front : List ℕ → List ℕ
digits_in_front text = take (prefix_len is_ascii_digit text) text

-- the rest of a text after the digits at its front
unfoldable pub after_digits : List ℕ → List ℕ
after_digits text = drop (prefix_len is_ascii_digit text) text

-- the value of the digits, if it is at most 10^19
abbrev pub number_of_digits : List ℕ → Option ℕ
number_of_digits digits = if nat_le (digits_value 10 digits) (10 ^ 19) then Some (digits_value 10 digits) else None

-- the number of these digits, if there is at least one, and if only spaces follow them
abbrev pub number_of_parts : List ℕ → List ℕ → Option ℕ
number_of_parts [] right = None
number_of_parts (digit ∷ digits) right = if list_all is_space right then number_of_digits (digit ∷ digits) else None

-- the number in a field of digits with spaces on both sides, if the field is of this form
unfoldable pub read20 : List ℕ → Option ℕ
read20 field = number_of_parts (digits_in_front (after_spaces field)) (after_digits (after_spaces field))
