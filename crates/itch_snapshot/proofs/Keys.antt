-- The keys of a finite map of numbers.
use Rattle.std.proofs.Common.{◌≡◌, ℕ, ◌+◌, ◌<◌, ◌≤◌, length, List, [], ◌∷◌, Some, IsSome, is_some, ap, arith}
use Rattle.std.specs.List.{AllByRecursion}
use Rattle.std.specs.Ordering.{nat_cmp}
use Rattle.std.specs.Map.{keys_of}
use Rattle.std.specs.FinMap as finite
use Rattle.std.specs.FinMap.{FinMap}
use Rattle.itch_book.proofs.Lists.{All-weaker_rec, All-both_rec}
use Rattle.itch_snapshot.proofs.Locates.{Rise, each_entry}

module _ {X : Type 0} where
  each_key : (m : FinMap nat_cmp X) (es : List (ℕ × X)) → AllByRecursion (λ e. finite.get m e.0 ≡ Some e.1) es → AllByRecursion (λ q. IsSome (finite.get m q)) (keys_of es)
  each_key m [] here = tt
  each_key m (e ∷ es) here = (ap is_some here.0, each_key m es here.1)

  -- each key has a value
  pub each_listed : (m : FinMap nat_cmp X) → AllByRecursion (λ q. IsSome (finite.get m q)) (finite.keys m)
  each_listed m = each_key m (finite.entries m) (each_entry m)

  -- ascending numbers below a bound are no more than the bound
  pub rise_short : (es : List (ℕ × X)) (first bound : ℕ) → Rise es → AllByRecursion (λ e. (first ≤ e.0) × (e.0 < bound)) es → first ≤ bound → length es + first ≤ bound
  rise_short [] first bound rising within room = omega arith
  rise_short (e ∷ es) first bound rising within room =
      let rest : length es + (e.0 + 1) ≤ bound =
      rise_short es (e.0 + 1) bound rising.1
      (All-weaker_rec (λ f. (e.0 < f.0) × ((first ≤ f.0) × (f.0 < bound))) (λ f. (e.0 + 1 ≤ f.0) × (f.0 < bound)) (λ f h. (omega (arith, h.0), h.1.1)) es
      (All-both_rec (λ f. e.0 < f.0) (λ f. (first ≤ f.0) × (f.0 < bound)) es rising.0 within.1))
      (omega (arith, within.0.1)) in
      omega (arith, rest, within.0.0)
