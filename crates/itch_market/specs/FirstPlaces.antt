-- The first number with a value.
use Rattle.std.specs.Prelude.{◌≡◌, ℕ, ◌<◌, Option, None, Some}

-- n is the first number at which f has a value, and that value is x
pub record IsFirst {A : Type 0} (f : ℕ → Option A) (n : ℕ) (x : A) : Type 0 where
  pub here : f n ≡ Some x
  pub before : (i : ℕ) → i < n → f i ≡ None
