-- The prices of a side in JSON.
use Rattle.std.proofs.Common.{◌≡◌, ◌-◌, ◌≤◌, List, [], ◌∷◌, ◌++◌, flat_map, length, take, drop, sym, ap, get_or, arith}
use Rattle.std.proofs.lemmas.List.{take_all}
use Rattle.itch_depth.specs.Changes.{json_level, json_levels, next_level}
use Rattle.itch_depth.specs.declared.changes.best.DepthLevel.{DepthLevel}

-- the first, and then the others
pub json_parts : (xs : List DepthLevel) (d : DepthLevel) → 1 ≤ length xs → json_levels xs ≡ json_level (get_or xs 0 d) ++ flat_map next_level (take (length xs - 1) (drop 1 xs))
json_parts [] d some = absurd (omega (arith, some))
json_parts (x ∷ xs) d some = ap (λ ys. json_level x ++ flat_map next_level ys) (sym (take_all (length (x ∷ xs) - 1) xs (omega arith)))
