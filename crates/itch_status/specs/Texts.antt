-- Pieces of the texts of the status port.
use Rattle.std.specs.Prelude.{ℕ, ◌+◌, ◌/◌, ◌%◌, ◌==◌, ◌||◌, List, [], ◌∷◌, ◌++◌, decimal, codes, if◌then◌else◌}
use Rattle.itch_codec.specs.Numbers.{after_spaces}
use Rattle.itch_codec.specs.Text.{before_spaces}

-- the last decimal digit of a number
abbrev pub digit : ℕ → ℕ
digit n = 48 + n % 10

-- a number of thousandths, with three decimals
abbrev pub thousandths : ℕ → List ℕ
thousandths n = decimal (n / 1000) ++ 46 ∷ digit (n / 100) ∷ digit (n / 10) ∷ digit n ∷ []

-- nanoseconds as seconds, with nine decimals
abbrev pub nanoseconds : ℕ → List ℕ
nanoseconds n =
    decimal (n / 1000000000) ++ 46 ∷ digit (n / 100000000) ∷ digit (n / 10000000) ∷ digit (n / 1000000) ∷ digit (n / 100000)
    ∷ digit (n / 10000) ∷ digit (n / 1000) ∷ digit (n / 100) ∷ digit (n / 10) ∷ digit n ∷ []

-- a byte of a quoted text: a quotation mark and a backslash have a backslash before them
abbrev pub escaped : ℕ → List ℕ
escaped byte = if byte == 34 || byte == 92 then 92 ∷ byte ∷ [] else byte ∷ []

-- a byte of the text of an HTML document
abbrev pub html_escaped : ℕ → List ℕ
html_escaped byte =
    if byte == 38 then codes "&amp;" else (if byte == 60 then codes "&lt;" else (if byte == 62 then codes "&gt;" else byte ∷ []))

-- a session's name: the field without the spaces at both ends
abbrev pub session_name : List ℕ → List ℕ
session_name field = after_spaces (before_spaces field)
