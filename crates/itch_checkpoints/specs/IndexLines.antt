-- The index of the snapshots of a folder: one line per snapshot.
use Rattle.std.specs.Prelude.{ℕ, List, [], ◌++◌, codes, decimal, Option, None, Some}
use Rattle.itch_checkpoints.specs.declared.fingerprint.Fingerprint.{Fingerprint}
use Rattle.itch_day.specs.declared.cursor.DayCursor.{DayCursor}

-- a JSON number, or null if there is no number
abbrev pub number_or_null : Option ℕ → List ℕ
number_or_null None = codes "null"
number_or_null (Some number) = decimal number

-- the beginning of a line, about the first messages of the day
abbrev pub place_part : DayCursor → List ℕ
place_part cursor =
    codes "{\"messages\":" ++ decimal cursor.count ++ codes ",\"offset\":" ++ decimal cursor.offset ++ codes ",\"timestamp\":" ++ number_or_null cursor.latest

-- the part of a line about the messages of the snapshot, with the name of its file
abbrev pub cursor_part : DayCursor → List ℕ
cursor_part cursor = place_part cursor ++ codes ",\"file\":\"" ++ decimal cursor.count ++ codes ".snap\""

-- the part about the bytes of the day file before the offset
abbrev pub digits_part : Fingerprint → List ℕ
digits_part f = codes ",\"first\":\"" ++ f.first ++ codes "\",\"last\":\"" ++ f.last ++ codes "\""

-- the list of the snapshot's locates, if it contains only some
abbrev pub list_part : Option (List ℕ) → List ℕ
list_part None = []
list_part (Some list) = codes ",\"only\":\"" ++ list ++ codes "\""

-- the line of the snapshot after these messages
abbrev pub index_line : DayCursor → Fingerprint → Option (List ℕ) → List ℕ
index_line cursor fingerprint only = cursor_part cursor ++ (digits_part fingerprint ++ (list_part only ++ codes "}\n"))
