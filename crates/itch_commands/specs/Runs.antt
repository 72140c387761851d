-- The progress of writing the list of a set's locates.
use Rattle.std.specs.Prelude.{◌≡◌, ℕ, ◌<◌, ◌≤◌, ◌+◌, Bool, false, nat_lt, not, ◌||◌, if◌then◌else◌, List, [], ◌∷◌, Option, None, Some}
use Rattle.std.specs.List.{AllByRecursion, list_any}
use Rattle.itch_market.specs.Wanted.{Wanted, has}
use Rattle.itch_commands.specs.Locates.{AreApart, is_in, list_text}

-- the separator before a range, by whether it is the first one
abbrev pub comma : Bool → List ℕ
comma is_first = if is_first then [] else 44 ∷ []

-- the separator before a range that follows these
abbrev pub before_next : List (ℕ × ℕ) → List ℕ
before_next [] = []
before_next (r ∷ rs) = 44 ∷ []

-- a locate is in the run that has begun, if one has
abbrev pub in_run : Option ℕ → ℕ → Bool
in_run None locate = false
in_run (Some begin) locate = not (nat_lt locate begin)

-- the beginning of the run that has begun, or else of the next one
abbrev pub bound : Option ℕ → ℕ → ℕ
bound None next = next
bound (Some begin) next = begin

-- a run that has begun began before
abbrev pub IsBegun : Option ℕ → ℕ → Type 0
IsBegun None next = 0 ≤ next
IsBegun (Some begin) next = begin < next

-- the locates below the next one are in the list, except those of a run that has begun
pub record IsWritten (set : Wanted) (text : List ℕ) (is_first : Bool) (begun : Option ℕ) (next : ℕ) : Type 0 where
  pub ranges : List (ℕ × ℕ)
  pub spelled : text ≡ list_text ranges
  pub between : comma is_first ≡ before_next ranges
  pub apart : AreApart ranges
  pub before : AllByRecursion (λ r. r.1 + 1 < bound begun next) ranges
  pub start : IsBegun begun next
  pub members : (locate : ℕ) → locate < next → has set locate ≡ (list_any (is_in locate) ranges || in_run begun locate)
