-- A time of day as text: hours, minutes, seconds and nine decimals, as in 09:30:00.000000001.
use Rattle.std.specs.Prelude.{ℕ, ◌+◌, ◌/◌, ◌%◌, ◌==◌, Bool, false, List, [], ◌∷◌, ◌++◌}
use Rattle.itch_codec.specs.Layouts.{Class, Integer}

-- the last two decimal digits of a number
unfoldable pub two_digits : ℕ → List ℕ
two_digits n = (48 + n / 10 % 10) ∷ (48 + n % 10) ∷ []

-- the last nine decimal digits of a number
unfoldable pub nine_digits : ℕ → List ℕ
nine_digits n =
    (48 + n / 100000000 % 10) ∷ (48 + n / 10000000 % 10) ∷ (48 + n / 1000000 % 10) ∷ (48 + n / 100000 % 10) ∷ (48 + n / 10000 % 10)
    ∷ (48 + n / 1000 % 10) ∷ (48 + n / 100 % 10) ∷ (48 + n / 10 % 10) ∷ (48 + n % 10) ∷ []

-- nanoseconds since midnight as a time of day. A timestamp is below 2^48, which is less than 79 hours
unfoldable pub clock : ℕ → List ℕ
clock nanoseconds =
    two_digits (nanoseconds / 3600000000000) ++ 58 ∷ two_digits (nanoseconds / 60000000000 % 60)
    ++ 58 ∷ two_digits (nanoseconds / 1000000000 % 60) ++ 46 ∷ nine_digits nanoseconds

-- the field is a timestamp: only timestamps are integers of six bytes
abbrev pub is_timestamp : Class → ℕ → Bool
is_timestamp Integer width = width == 6
is_timestamp class width = false
