-- Exactly one allocation is refused.
use Rattle.std.proofs.Common.{◌≡◌, ◌≢◌, ℕ, zero, suc, true, false, Some, None, refl, ap}
use Rattle.std.specs.Fn.{iterate}
use Rattle.test_doubles.specs.Countdown.{goes_through, after_one}

none_after : (place : ℕ) → goes_through (iterate after_one place None) ≡ true
none_after zero = refl
none_after (suc p) = none_after p

pub refused_there : (nth : ℕ) → goes_through (iterate after_one nth (Some nth)) ≡ false
refused_there zero = refl
refused_there (suc n) = refused_there n

pub granted_elsewhere : (nth place : ℕ) → place ≢ nth → goes_through (iterate after_one place (Some nth)) ≡ true
granted_elsewhere zero zero other = absurd (other refl)
granted_elsewhere (suc n) zero other = refl
granted_elsewhere zero (suc p) other = none_after p
granted_elsewhere (suc n) (suc p) other = granted_elsewhere n p (λ same. other (ap suc same))
