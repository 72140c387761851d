-- Output for people and for programs: JSON, one object per line (RFC 8259), and comma-separated values (RFC 4180).
use Rattle.std.specs.Prelude.{ℕ, ◌==◌, ◌||◌, Bool, List, [], ◌∷◌, ◌++◌, length, codes, decimal, if◌then◌else◌, Option, None, Some}
use Rattle.std.specs.List.{flat_map, list_any}
use Rattle.itch_codec.specs.Fields.{side_byte}
use Rattle.itch_codec.specs.Lines.{price_text}
use Rattle.itch_codec.specs.declared.orders.Side.{Side}
use Rattle.itch_commands.specs.Comparing.{place_line}
use Rattle.itch_commands.specs.Outputs.{ok_line}
use Rattle.itch_commands.specs.declared.form.BookForm.{BookForm}
use Rattle.itch_commands.specs.declared.form.BookForm.TheVariants as book
use Rattle.itch_commands.specs.declared.form.ReportForm.{ReportForm}
use Rattle.itch_commands.specs.declared.form.ReportForm.TheVariants as form

-- a printable character within a string of JSON: a quotation mark or a reverse solidus has a reverse solidus before it
abbrev pub json_char : ℕ → List ℕ
json_char byte = if (byte == 34) || (byte == 92) then 92 ∷ byte ∷ [] else byte ∷ []

-- a printable text within a string of JSON
abbrev pub json_text : List ℕ → List ℕ
json_text text = flat_map json_char text

-- a character within quotation marks of a field: quotation marks are doubled
abbrev pub quoted_char : ℕ → List ℕ
quoted_char byte = if byte == 34 then 34 ∷ 34 ∷ [] else byte ∷ []

-- a text has this character
abbrev pub has_char : ℕ → List ℕ → Bool
has_char char text = list_any (λ byte. byte == char) text

-- a printable text as a field: in quotation marks if it has a comma or a quotation mark
abbrev pub csv_text : List ℕ → List ℕ
csv_text text = if has_char 44 text || has_char 34 text then 34 ∷ (flat_map quoted_char text ++ 34 ∷ []) else text

-- the line that reports that this many messages follow the order rules
abbrev pub count_line : ReportForm → ℕ → List ℕ
count_line form.Text count = ok_line count
count_line form.Json count = codes "{\"messages\":" ++ decimal count ++ codes "}\n"

abbrev pub count_line_of : ReportForm → List (List ℕ) → List ℕ
count_line_of form payloads = count_line form (length payloads)

-- the line with the place where two markets differ, or the line that reports that they are the same
abbrev pub verdict_line : ReportForm → Option ℕ → List ℕ
verdict_line form.Text place = place_line place
verdict_line form.Json None = codes "{\"same\":true}\n"
verdict_line form.Json (Some place) = codes "{\"same\":false,\"place\":" ++ decimal place ++ codes "}\n"

-- the line `SIDE PRICE SHARES ORDERS`
abbrev pub level_line : Side → ℕ → ℕ → ℕ → List ℕ
level_line side price shares orders =
    side_byte side ∷ 32 ∷ (price_text price ++ 32 ∷ (decimal shares ++ 32 ∷ (decimal orders ++ 10 ∷ [])))

-- the line of a price of a book: its side, the price, all shares at it, and the number of its orders; for programs also the locate and its
-- stock
abbrev pub row : BookForm → ℕ → List ℕ → Side → ℕ → ℕ → ℕ → List ℕ
row book.Text locate stock side price shares orders = level_line side price shares orders
row book.Json locate stock side price shares orders =
    codes "{\"locate\":" ++ decimal locate ++ codes ",\"stock\":\"" ++ json_text stock ++ codes "\",\"side\":\"" ++ side_byte side ∷ []
    ++ codes "\",\"price\":\"" ++ price_text price ++ codes "\",\"shares\":" ++ decimal shares ++ codes ",\"orders\":" ++ decimal orders ++ codes "}\n"
row book.Csv locate stock side price shares orders =
    decimal locate ++ codes "," ++ csv_text stock ++ codes "," ++ side_byte side ∷ []
    ++ codes "," ++ price_text price ++ codes "," ++ decimal shares ++ codes "," ++ decimal orders ++ codes "\n"

-- the line `LOCATE STOCK`
abbrev pub title_line : ℕ → List ℕ → List ℕ
title_line locate stock = decimal locate ++ 32 ∷ (stock ++ 10 ∷ [])

-- the heading of all books
abbrev pub head : BookForm → List ℕ
head book.Text = []
head book.Json = []
head book.Csv = codes "locate,stock,side,price,shares,orders\n"

-- the heading of the book of a locate
abbrev pub title : BookForm → ℕ → List ℕ → List ℕ
title book.Text locate stock = title_line locate stock
title book.Json locate stock = []
title book.Csv locate stock = []
