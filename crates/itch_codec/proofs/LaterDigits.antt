-- The digits of a number after a first 1: the last digits of another number, with their zeros.
use Rattle.std.proofs.Common.{◌≡◌, ℕ, zero, suc, ◌+◌, ◌/◌, ◌%◌, ◌^◌, ◌<◌, ◌≤◌, List, [], ◌∷◌, ◌++◌, length, drop, decimal, ap, ◌∙◌, arith}
use Rattle.std.proofs.lemmas.Fmt.{decimal_digit, decimal_step}
use Rattle.itch_codec.specs.Clock.{two_digits, nine_digits}
use Rattle.itch_codec.specs.Lines.{four_digits}

-- this many of the last digits of a number
abbrev last : ℕ → ℕ → List ℕ
last zero n = []
last (suc k) n = last k (n / 10) ++ (48 + n % 10) ∷ []

-- one more digit
one_more : (number front digit : ℕ) (digits : List ℕ) → 10 ≤ number → number < 2 ^ 64 → number / 10 ≡ front → number % 10 ≡ digit → decimal front ≡ digits
    → decimal number ≡ digits ++ (48 + digit) ∷ []
one_more number front digit digits some fits front_is digit_is are =
    decimal_step number some fits ∙ (λ i. decimal (front_is i) ++ (48 + digit_is i) ∷ []) ∙ ap (λ ds. ds ++ (48 + digit) ∷ []) are

one : (n : ℕ) → decimal (10 + n % 10) ≡ 49 ∷ last 1 n
one n = one_more (10 + n % 10) 1 (n % 10) (49 ∷ []) (omega arith) (omega arith) (omega arith) (omega arith) (decimal_digit 1 (omega arith))

two : (n : ℕ) → decimal (100 + n % 100) ≡ 49 ∷ last 2 n
two n = one_more (100 + n % 100) (10 + n / 10 % 10) (n % 10) (49 ∷ last 1 (n / 10)) (omega arith) (omega arith) (omega arith) (omega arith) (one (n / 10))

three : (n : ℕ) → decimal (1000 + n % 1000) ≡ 49 ∷ last 3 n
three n = one_more (1000 + n % 1000) (100 + n / 10 % 100) (n % 10) (49 ∷ last 2 (n / 10)) (omega arith) (omega arith) (omega arith) (omega arith) (two (n / 10))

four : (n : ℕ) → decimal (10000 + n % 10000) ≡ 49 ∷ last 4 n
four n = one_more (10000 + n % 10000) (1000 + n / 10 % 1000) (n % 10) (49 ∷ last 3 (n / 10)) (omega arith) (omega arith) (omega arith) (omega arith) (three (n / 10))

five : (n : ℕ) → decimal (100000 + n % 100000) ≡ 49 ∷ last 5 n
five n = one_more (100000 + n % 100000) (10000 + n / 10 % 10000) (n % 10) (49 ∷ last 4 (n / 10)) (omega arith) (omega arith) (omega arith) (omega arith) (four (n / 10))

six : (n : ℕ) → decimal (1000000 + n % 1000000) ≡ 49 ∷ last 6 n
six n = one_more (1000000 + n % 1000000) (100000 + n / 10 % 100000) (n % 10) (49 ∷ last 5 (n / 10)) (omega arith) (omega arith) (omega arith) (omega arith) (five (n / 10))

seven : (n : ℕ) → decimal (10000000 + n % 10000000) ≡ 49 ∷ last 7 n
seven n = one_more (10000000 + n % 10000000) (1000000 + n / 10 % 1000000) (n % 10) (49 ∷ last 6 (n / 10)) (omega arith) (omega arith) (omega arith) (omega arith) (six (n / 10))

eight : (n : ℕ) → decimal (100000000 + n % 100000000) ≡ 49 ∷ last 8 n
eight n = one_more (100000000 + n % 100000000) (10000000 + n / 10 % 10000000) (n % 10) (49 ∷ last 7 (n / 10)) (omega arith) (omega arith) (omega arith) (omega arith) (seven (n / 10))

nine : (n : ℕ) → decimal (1000000000 + n % 1000000000) ≡ 49 ∷ last 9 n
nine n = one_more (1000000000 + n % 1000000000) (100000000 + n / 10 % 100000000) (n % 10) (49 ∷ last 8 (n / 10)) (omega arith) (omega arith) (omega arith) (omega arith) (eight (n / 10))

pub two-later : (n : ℕ) → decimal (100 + n % 100) ≡ 49 ∷ two_digits n
unfolding two_digits
two-later n = two n

pub four-later : (n : ℕ) → decimal (10000 + n % 10000) ≡ 49 ∷ four_digits n
four-later n =
    let third : n / 10 / 10 ≡ n / 100 = omega arith in
    let fourth : n / 10 / 10 / 10 ≡ n / 1000 = omega arith in
    four n ∙ (λ i. 49 ∷ (48 + fourth i % 10) ∷ (48 + third i % 10) ∷ (48 + n / 10 % 10) ∷ (48 + n % 10) ∷ [])

pub nine-later : (n : ℕ) → decimal (1000000000 + n % 1000000000) ≡ 49 ∷ nine_digits n
unfolding nine_digits
nine-later n =
    let third : n / 10 / 10 ≡ n / 100 = omega arith in
    let fourth : n / 10 / 10 / 10 ≡ n / 1000 = omega arith in
    let fifth : n / 10 / 10 / 10 / 10 ≡ n / 10000 = omega arith in
    let sixth : n / 10 / 10 / 10 / 10 / 10 ≡ n / 100000 = omega arith in
    let seventh : n / 10 / 10 / 10 / 10 / 10 / 10 ≡ n / 1000000 = omega arith in
    let eighth : n / 10 / 10 / 10 / 10 / 10 / 10 / 10 ≡ n / 10000000 = omega arith in
    let ninth : n / 10 / 10 / 10 / 10 / 10 / 10 / 10 / 10 ≡ n / 100000000 = omega arith in
    nine n
    ∙ (λ i. 49 ∷ (48 + ninth i % 10) ∷ (48 + eighth i % 10) ∷ (48 + seventh i % 10) ∷ (48 + sixth i % 10) ∷ (48 + fifth i % 10)
    ∷ (48 + fourth i % 10) ∷ (48 + third i % 10) ∷ (48 + n / 10 % 10) ∷ (48 + n % 10) ∷ [])

pub ruleset later = (two-later, four-later, nine-later)
