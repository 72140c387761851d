-- The time in a log, such as 2026-11-29T09:30:00.123Z, from an HTTP date, such as Sun, 29 Nov 2026 09:30:00 GMT.
use Rattle.std.specs.Prelude.{ℕ, ◌/◌, ◌==◌, ◌&&◌, List, [], ◌∷◌, codes, slice_index, if◌then◌else◌}
use Rattle.itch_status.specs.Texts.{digit}

-- the two digits of a month, from its three letters
abbrev pub month_digits : ℕ → ℕ → ℕ → List ℕ
month_digits first second third =
    if first == 74 && second == 97 then codes "01"
    else (if first == 70 then codes "02"
    else (if first == 77 && third == 114 then codes "03"
    else (if first == 65 && second == 112 then codes "04"
    else (if first == 77 then codes "05"
    else (if first == 74 && third == 110 then codes "06"
    else (if first == 74 then codes "07"
    else (if first == 65 then codes "08"
    else (if first == 83 then codes "09"
    else (if first == 79 then codes "10"
    else (if first == 78 then codes "11" else codes "12"))))))))))

-- the time of an HTTP date and of milliseconds since 1970
abbrev pub utc_text : List ℕ → ℕ → List ℕ
utc_text date ms =
    let at = slice_index date in
    let month = month_digits (at 8) (at 9) (at 10) in
    at 12 ∷ at 13 ∷ at 14 ∷ at 15 ∷ 45 ∷ slice_index month 0 ∷ slice_index month 1 ∷ 45 ∷ at 5 ∷ at 6 ∷ 84
    ∷ at 17 ∷ at 18 ∷ 58 ∷ at 20 ∷ at 21 ∷ 58 ∷ at 23 ∷ at 24 ∷ 46 ∷ digit (ms / 100) ∷ digit (ms / 10) ∷ digit ms ∷ 90 ∷ []
