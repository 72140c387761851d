-- Which allocation is refused: the number that go through before it, or none if there is no refusal to come.
use Rattle.std.specs.Prelude.{ℕ, zero, suc, Bool, true, false, Option, Some, None}

-- whether the next allocation goes through
abbrev pub goes_through : Option ℕ → Bool
goes_through None = true
goes_through (Some zero) = false
goes_through (Some (suc n)) = true

-- the number after one more allocation
abbrev pub after_one : Option ℕ → Option ℕ
after_one None = None
after_one (Some zero) = None
after_one (Some (suc n)) = Some n
