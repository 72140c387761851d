-- A set of locates, as contracts describe it.
use Rattle.std.specs.Prelude.{ℕ, Bool, ◌||◌, List}
use Rattle.std.specs.List.{list_any}
use Rattle.std.specs.Ordering.{nat_cmp, eq_by_cmp}

-- all locates, or the listed ones
pub record Wanted : Type 0 where
  pub all : Bool
  pub listed : List ℕ

-- the locate is in the set
abbrev pub has : Wanted → ℕ → Bool
has wanted locate = wanted.all || list_any (eq_by_cmp nat_cmp locate) wanted.listed
