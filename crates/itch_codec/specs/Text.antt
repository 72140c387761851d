-- Texts of a fixed width: printable characters, left-justified and padded on the right with spaces (TotalView-ITCH 5.0, "Data Types").
use Rattle.std.specs.Prelude.{◌≡◌, ℕ, ◌-◌, ◌<◌, ◌≤◌, Bool, ◌||◌, nat_lt, List, ◌++◌, length, replicate, reverse, Option, position, slice_index, ◌≢◌}
use Rattle.std.specs.List.{AllByRecursion}
use Rattle.itch_codec.specs.Numbers.{after_spaces}

-- a byte from the space to the tilde
abbrev pub IsPrintableByte : ℕ → Type 0
IsPrintableByte byte = (32 ≤ byte) × (byte ≤ 126)

-- bytes that are all printable
abbrev pub IsPrintable : List ℕ → Type 0
IsPrintable bytes = AllByRecursion IsPrintableByte bytes

-- the byte is below the space or above the tilde
abbrev pub is_unprintable : ℕ → Bool
is_unprintable byte = nat_lt byte 32 || nat_lt 126 byte

-- the position of the first byte that is not printable, if there is one
unfoldable pub first_unprintable : List ℕ → Option ℕ
first_unprintable bytes = position is_unprintable bytes

-- a text followed by spaces, up to the width of its field
abbrev pub padded_to : ℕ → List ℕ → List ℕ
padded_to width text = text ++ replicate (width - length text) 32

-- the text of a field: the field without the spaces at its end
pub record IsTextOf (field text : List ℕ) : Type 0 where
  pub whole : field ≡ padded_to (length field) text
  pub last : 0 < length text → slice_index text (length text - 1) ≢ 32

-- a field without the spaces at its end
unfoldable pub before_spaces : List ℕ → List ℕ
before_spaces field = reverse (after_spaces (reverse field))
