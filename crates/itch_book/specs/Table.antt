-- A table as contracts describe it: a link for each of some keys.
use Rattle.std.specs.Prelude.{◌≡◌, ℕ, List, length, eqb, Option, None, Some, is_some}
use Rattle.std.specs.List.{list_any, IsDistinct}
use Rattle.std.specs.Map.{lookup, update}
use Rattle.itch_book.specs.Pages.{Paged, link_at}

-- links in pages, and other links
pub record Links : Type 0 where
  pub near : Paged
  pub far : List (ℕ × ℕ)

-- the first of two results, or else the second
abbrev pub or_else : Option ℕ → Option ℕ → Option ℕ
or_else None other = other
or_else (Some link) other = Some link

-- the link of a key
abbrev pub at : Links → ℕ → Option ℕ
at t k = or_else (link_at t.near k) (lookup (eqb k) t.far)

-- the new table has this link for the key, and the same link as before for every other key
abbrev pub Updates : Links → Links → ℕ → Option ℕ → Type 0
Updates old new key link = (q : ℕ) → at new q ≡ update eqb (at old) key link q

-- each key has the same link as before
abbrev pub IsSame : Links → Links → Type 0
IsSame old new = (q : ℕ) → at new q ≡ at old q

-- each key is in only one of the two parts
abbrev pub IsParted : Paged → List (ℕ × ℕ) → Type 0
IsParted near far = (k link : ℕ) → link_at near k ≡ Some link → lookup (eqb k) far ≡ None

-- f has a link for exactly this number of keys: the listed ones, each listed once
pub record IsCount (f : ℕ → Option ℕ) (n : ℕ) : Type 0 where
  pub keys : List ℕ
  pub distinct : IsDistinct eqb keys
  pub long : length keys ≡ n
  pub known : (k : ℕ) → is_some (f k) ≡ list_any (eqb k) keys

-- a table between calls
pub record IsTable (near : Paged) (far : List (ℕ × ℕ)) (len : ℕ) : Type 0 where
  pub parted : IsParted near far
  pub count : IsCount (at (record { near = near; far = far })) len
