-- The first difference of two lists.
use Rattle.std.specs.Prelude.{◌≡◌, ◌≢◌, ℕ, ◌<◌, List, slice_get}

-- the lists agree at the first n positions, and at the next one they differ, or only one of them has it
pub record IsParting {A : Type 0} (xs ys : List A) (n : ℕ) : Type 0 where
  pub before : (i : ℕ) → i < n → slice_get xs i ≡ slice_get ys i
  pub there : slice_get xs n ≢ slice_get ys n
