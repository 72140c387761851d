-- Orders by reference, kept in some order together with a table of their places.
use Rattle.std.specs.Prelude.{◌≡◌, ℕ, ◌^◌, ◌<◌, List, map, length, Option, Some, is_some, eqb, slice_get, slice_index_or}
use Rattle.std.specs.List.{list_any, IsDistinct}
use Rattle.std.specs.Map.{keys_of}
use Rattle.itch_book.specs.Table.{Links, at}
use Rattle.itch_book.specs.declared.arrived.Arrived.{Arrived}

-- the orders by reference, in some order, as contracts describe them
pub record Referred : Type 0 where
  pub entries : List (ℕ × Arrived)

-- the reference of an order
abbrev pub reference_of : Arrived → ℕ
reference_of x = x.order.reference

-- the orders, each with its reference
abbrev pub under_references : List Arrived → List (ℕ × Arrived)
under_references xs = map (λ x. (reference_of x, x)) xs

-- the references alone
abbrev pub references_of : List Arrived → List ℕ
references_of xs = map reference_of xs

-- the entry at a place has this reference
abbrev pub IsAt : List (ℕ × Arrived) → ℕ → ℕ → Type 0
IsAt es reference place = slice_get (keys_of es) place ≡ Some reference

-- f maps each key to its place, and no other number to a place
pub record IsPlaced (f : ℕ → Option ℕ) (keys : List ℕ) : Type 0 where
  pub leads : (i : ℕ) → i < length keys → f (slice_index_or keys i 0) ≡ Some i
  pub back : (k i : ℕ) → f k ≡ Some i → (i < length keys) × (slice_index_or keys i 0 ≡ k)

-- f is defined for exactly these keys, which are distinct
pub record IsKnown (f : ℕ → Option ℕ) (keys : List ℕ) : Type 0 where
  pub distinct : IsDistinct eqb keys
  pub known : (k : ℕ) → is_some (f k) ≡ list_any (eqb k) keys

-- the table contains exactly the place of each order's reference
pub record IsReferred (places : Links) (orders : List Arrived) : Type 0 where
  pub placed : IsPlaced (at places) (references_of orders)
  pub few : length orders < 2 ^ 32
