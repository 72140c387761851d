-- Times of day as text: hours of one digit or two, minutes, then seconds and their decimals if there are any; or nanoseconds since midnight.
use Rattle.std.specs.Prelude.{ℕ, ◌+◌, ◌*◌, ◌^◌, ◌-◌, ◌<◌, ◌≤◌, ◌≡◌, nat_eq, if◌then◌else◌, List, [], ◌∷◌, length}
use Rattle.std.specs.Str.Parse.{digits_value, AllDigits, IsNumeral}
use Rattle.std.specs.Bool.{MatchBool}

-- the nanoseconds of a second
abbrev pub second : ℕ
second = 1000000000

-- two digits, of a number below an end
abbrev pub IsTwoDigits : ℕ → ℕ → ℕ → Type 0
IsTwoDigits end ten one = AllDigits 10 (ten ∷ one ∷ []) × (digits_value 10 (ten ∷ one ∷ []) < end)

-- one to nine digits
abbrev pub AreDecimals : List ℕ → Type 0
AreDecimals digits = IsNumeral 10 digits × (length digits ≤ 9)

-- the nanoseconds of decimals of a second
abbrev pub decimals_value : List ℕ → ℕ
decimals_value digits = digits_value 10 digits * 10 ^ (9 - length digits)

-- seconds, and decimals after a point if there are any
abbrev pub IsSeconds : List ℕ → Type 0
IsSeconds (ten ∷ one ∷ []) = IsTwoDigits 60 ten one
IsSeconds (ten ∷ one ∷ point ∷ decimals) = IsTwoDigits 60 ten one × (point ≡ 46) × AreDecimals decimals
IsSeconds text = ⊥

abbrev pub seconds_value : List ℕ → ℕ
seconds_value (ten ∷ one ∷ []) = digits_value 10 (ten ∷ one ∷ []) * second
seconds_value (ten ∷ one ∷ point ∷ decimals) = digits_value 10 (ten ∷ one ∷ []) * second + decimals_value decimals
seconds_value text = 0

-- minutes, and seconds after a colon if there are any
abbrev pub IsMinutes : List ℕ → Type 0
IsMinutes (ten ∷ one ∷ []) = IsTwoDigits 60 ten one
IsMinutes (ten ∷ one ∷ colon ∷ seconds) = IsTwoDigits 60 ten one × (colon ≡ 58) × IsSeconds seconds
IsMinutes text = ⊥

abbrev pub minutes_value : List ℕ → ℕ
minutes_value (ten ∷ one ∷ []) = digits_value 10 (ten ∷ one ∷ []) * 60 * second
minutes_value (ten ∷ one ∷ colon ∷ seconds) = digits_value 10 (ten ∷ one ∷ []) * 60 * second + seconds_value seconds
minutes_value text = 0

-- a number of nanoseconds
abbrev pub IsNumber : List ℕ → Type 0
IsNumber text = IsNumeral 10 text × (digits_value 10 text < 2 ^ 64)

-- a time of day: hours of two digits before a colon, or else a number
abbrev pub IsLongTime : List ℕ → Type 0
IsLongTime (ten ∷ one ∷ colon ∷ minutes) = MatchBool (nat_eq colon 58) (IsTwoDigits 24 ten one × IsMinutes minutes) (IsNumber (ten ∷ one ∷ colon ∷ minutes))
IsLongTime text = IsNumber text

abbrev pub long_time_value : List ℕ → ℕ
long_time_value (ten ∷ one ∷ colon ∷ minutes) = if nat_eq colon 58 then digits_value 10 (ten ∷ one ∷ []) * 3600 * second + minutes_value minutes else digits_value 10 (ten ∷ one ∷ colon ∷ minutes)
long_time_value text = digits_value 10 text

-- the same, where the hours may be of one digit
abbrev pub IsTime : List ℕ → Type 0
IsTime (one ∷ colon ∷ minutes) = MatchBool (nat_eq colon 58) (AllDigits 10 (one ∷ []) × IsMinutes minutes) (IsLongTime (one ∷ colon ∷ minutes))
IsTime text = IsNumber text

abbrev pub time_value : List ℕ → ℕ
time_value (one ∷ colon ∷ minutes) = if nat_eq colon 58 then digits_value 10 (one ∷ []) * 3600 * second + minutes_value minutes else long_time_value (one ∷ colon ∷ minutes)
time_value text = digits_value 10 text
