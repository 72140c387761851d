-- The content of a tree of waiting messages.
use Rattle.std.specs.Prelude.{◌≡◌, ℕ, ◌<◌, ◌^◌, List, map, Some}
use Rattle.std.specs.Ordering.{nat_cmp}
use Rattle.std.specs.FinMap as finite
use Rattle.std.specs.BTreeMap.{BTreeMap}
use Rattle.std.specs.declared.vec.Vec.{Vec}

-- the bytes of an entry
abbrev pub entry_of : {A : Type 0} → ℕ × Vec ℕ A → ℕ × List ℕ
entry_of e = (e.0, e.1.items)

-- the payloads by number
abbrev pub waits_of : {A : Type 0} → BTreeMap ℕ (Vec ℕ A) → finite.FinMap nat_cmp (List ℕ)
waits_of m = finite.from_entries (map entry_of m.entries)

-- each number is below 10^19
abbrev pub AreNumbers : finite.FinMap nat_cmp (List ℕ) → Type 0
AreNumbers w = (i : ℕ) (p : List ℕ) → finite.get w i ≡ Some p → i < 10 ^ 19
