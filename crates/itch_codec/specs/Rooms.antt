-- The maximum length of the parts of a message, in each form.
use Rattle.std.specs.Prelude.{ℕ, ◌+◌, ◌*◌, ◌==◌, List, [], ◌∷◌, length, if◌then◌else◌}
use Rattle.itch_codec.specs.Layouts.{Class, Integer, Price, Text, OneSide, Code, Codes, Digits, Column}
use Rattle.itch_codec.specs.Messages.{Shape, Fields, Payload, shape}
use Rattle.itch_codec.specs.Names.{keys, key_text}
use Rattle.itch_codec.specs.declared.names.Key.{Key}
use Rattle.itch_codec.specs.declared.names.Key.TheVariants as is
use Rattle.itch_codec.specs.declared.message.Message.{Message}

-- the maximum length before the fields, and of a field with this key, class and width
pub record Most : Type 0 where
  pub start : ℕ
  pub field : Key → Class → ℕ → ℕ

-- the fields of these columns
unfoldable pub most_fields : Most → List Key → List Column → ℕ
most_fields most [] columns = 0
most_fields most (key ∷ keys) [] = 0
most_fields most (key ∷ keys) (column ∷ columns) = most.field key column.class column.width + most_fields most keys columns

-- a message of this shape
abbrev pub most_as : Most → List Key → Shape → ℕ
most_as most keys (Fields layout values) = most.start + most_fields most keys layout.columns
most_as most keys (Payload bytes) = most.start + (most.field is.Kind Code 1 + most.field is.Length Integer 8)

-- a message
abbrev pub most_shown : Most → Message → ℕ
most_shown most message = most_as most (keys message) (shape message)

-- a word of a line
abbrev pub word_most : Class → ℕ → ℕ
word_most Integer width = 21
word_most Price width = 26
word_most Text width = width + 3
word_most OneSide width = 2
word_most Code width = 3
word_most Codes width = 2 * width + 1
word_most Digits width = 21

-- a line
abbrev pub line_most : Most
line_most = record { start = 5; field = λ key class width. word_most class width }

-- a word of a line with names. An integer of two bytes has at most five digits, and an integer of six bytes is a time of day
abbrev pub named_word_most : Class → ℕ → ℕ
named_word_most Integer width = if width == 2 then 6 else (if width == 6 then 19 else 21)
named_word_most Code width = 7
named_word_most Codes width = 4 * width + 3
named_word_most class width = word_most class width

-- a line with names
abbrev pub named_most : Most
named_most = record { start = 5; field = λ key class width. named_word_most class width }

-- the value of a member of an object, and the characters around its key
abbrev pub member_most : Class → ℕ → ℕ
member_most Integer width = if width == 6 then 50 else 24
member_most Price width = 31
member_most Text width = 6 * width + 6
member_most OneSide width = 7
member_most Code width = 12
member_most Codes width = 6 * width + 6
member_most Digits width = 24

-- an object
abbrev pub json_most : Most
json_most = record { start = 16; field = λ key class width. length (key_text key) + member_most class width }
