-- The lines of an index, and its rows.
use Rattle.std.specs.Prelude.{ℕ, List, ◌++◌, ◌-◌, ◌^◌, nat_le, Option, None, Some, codes, if◌then◌else◌}
use Rattle.std.specs.List.{flat_map}
use Rattle.hex.specs.Hex.{encode_lower}
use Rattle.itch_checkpoints.specs.IndexLines.{digits_part, place_part}
use Rattle.itch_checkpoints.specs.declared.fingerprint.Fingerprint.{Fingerprint}
use Rattle.itch_checkpoints.specs.declared.latest.Latest.{Latest}
use Rattle.itch_checkpoints.specs.declared.latest.Latest.TheVariants.{Known, Unknown}
use Rattle.itch_day.specs.declared.cursor.DayCursor.{DayCursor}
use Rattle.itch_offsets.specs.declared.row.IndexRow.{IndexRow}

-- the line of a row
abbrev pub row_line : DayCursor → Fingerprint → List ℕ
row_line cursor fingerprint = place_part cursor ++ (digits_part fingerprint ++ codes "}\n")

-- the line of the payload of a Stock Directory message
abbrev pub directory_line : List ℕ → List ℕ
directory_line payload = codes "{\"directory\":\"" ++ encode_lower payload ++ codes "\"}\n"

-- the lines of these payloads
abbrev pub directory_lines : List (List ℕ) → List ℕ
directory_lines payloads = flat_map directory_line payloads

-- the lines for a row: those of the Stock Directory messages since the row before it, which have these payloads, and that of the row
abbrev pub row_lines : List (List ℕ) → DayCursor → Fingerprint → List ℕ
row_lines payloads cursor fingerprint = directory_lines payloads ++ row_line cursor fingerprint

-- the last line, with the first digits of the digest of all lines before
abbrev pub end_line : List ℕ → List ℕ
end_line digits = codes "{\"end\":\"" ++ digits ++ codes "\"}\n"

-- The row of a line about that many messages up to that offset, after that many bytes of Stock Directory blocks: only if the line states the
-- latest timestamp and the fingerprint, and a day can have so many messages.
abbrev pub row_of : ℕ → ℕ → Latest → Option Fingerprint → ℕ → Option IndexRow
row_of count offset (Known latest) (Some fingerprint) listed =
    if nat_le count (10 ^ 19 - 1)
    then Some (record { cursor = record { count = count; offset = offset; latest = latest }; fingerprint = fingerprint; listed = listed })
    else None
row_of count offset (Known latest) None listed = None
row_of count offset Unknown fingerprint listed = None
