-- Digits one by one.
use Rattle.std.proofs.Common.{◌<◌, ◌≤◌, ◌^◌, ◌≡◌, ℕ, zero, suc, ◌+◌, ◌*◌, List, [], ◌∷◌, length, take, get_or, arith}
use Rattle.std.specs.Str.Parse.{digits_value, AllDigits}
use Rattle.std.specs.Char.{digit_value}
use Rattle.std.proofs.lemmas.List.{length-take}
use Rattle.std.proofs.lemmas.Str.Parse.{digits_value_short, numerals_by_value, tells_digits}

pub below_a_billion : (ds : List ℕ) → AllDigits 10 ds → length ds ≤ 9 → digits_value 10 ds < 10 ^ 9
below_a_billion ds are_digits short = digits_value_short (numerals_by_value (AllDigits 10) tells_digits) ds 9 are_digits short

pub each_digit : (ds : List ℕ) (i : ℕ) → AllDigits 10 ds → i < length ds → digit_value (get_or ds i 0) < 10
each_digit [] i are_digits within = omega arith
each_digit (d ∷ ds) zero are_digits within = are_digits.0
each_digit (d ∷ ds) (suc i) are_digits within = each_digit ds i are_digits.1 (omega arith)

pub beginning_below : (ds : List ℕ) (i : ℕ) → AllDigits 10 (take i ds) → length ds ≤ 9 → digits_value 10 (take i ds) < 10 ^ 9
beginning_below ds i are_digits short = below_a_billion (take i ds) are_digits (simp (length-take) (omega arith))
