-- The names of the files of a feed's sessions.
use Rattle.std.specs.Prelude.{ℕ, ◌+◌, ◌/◌, ◌%◌, ◌==◌, ◌||◌, ◌&&◌, nat_le, nat_lt, Bool, List, [], ◌∷◌, if◌then◌else◌}
use Rattle.std.specs.List.{flat_map}
use Rattle.itch_soup.specs.Names.{session_name}

-- a letter, a digit, - or _
abbrev pub is_plain : ℕ → Bool
is_plain byte = (nat_le 48 byte && nat_le byte 57) || (nat_le 65 byte && nat_le byte 90) || (nat_le 97 byte && nat_le byte 122) || byte == 45 || byte == 95

-- a hexadecimal digit
abbrev pub digit : ℕ → ℕ
digit value = if nat_lt value 10 then 48 + value else 55 + value

-- any other byte is written as % and two hexadecimal digits
abbrev pub file_character : ℕ → List ℕ
file_character byte = if is_plain byte then byte ∷ [] else 37 ∷ digit (byte / 16) ∷ digit (byte % 16) ∷ []

-- the name of a session's files, without extensions; a blank session counts as one space
abbrev pub stem_of_name : List ℕ → List ℕ
stem_of_name [] = file_character 32
stem_of_name (byte ∷ rest) = flat_map file_character (byte ∷ rest)

abbrev pub file_stem : List ℕ → List ℕ
file_stem session = stem_of_name (session_name session)
