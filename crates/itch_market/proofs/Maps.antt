-- Finite maps with numeric keys: look-ups after an insertion, and entries with ascending keys.
use Rattle.std.proofs.Common.{◌≡◌, ◌≢◌, ℕ, Bool, true, false, cond, List, Option, Some, None, IsSome, refl, ap, ◌∙◌, nat_cmp, eqb, arith}
use Rattle.std.specs.Ordering.{eq_by_cmp}
use Rattle.std.specs.Cmp.{nat_cmp_total}
use Rattle.std.specs.FinMap as map
use Rattle.std.specs.FinMap.{nat_cmp-IsAntisymmetric}
use Rattle.std.specs.Map.{keys_of}
use Rattle.std.specs.List.Sorted.{IsStrictlySortedBy}
use Rattle.std.proofs.lemmas.Bool.Decides.{nat_tests}
use Rattle.itch_market.proofs.Trees as any

pub key_tests : (q k : ℕ) → eq_by_cmp nat_cmp q k ≡ eqb q k
key_tests q k = grind (arith, nat_tests)

module _ {X : Type 0} where
  pub get-insert : (m : map.FinMap nat_cmp X) (k : ℕ) (v : X) (q : ℕ) → map.get (map.insert m k v) q ≡ cond (eqb q k) (Some v) (map.get m q)
  get-insert m k v q = map.get-insert nat_cmp_total m k v q ∙ ap (λ b. cond b (Some v) (map.get m q)) (key_tests q k)

  pub get_there : (m : map.FinMap nat_cmp X) (k : ℕ) (v : X) → map.get (map.insert m k v) k ≡ Some v
  get_there m k v = let same : eqb k k ≡ true = grind (arith, nat_tests) in rw (get-insert m k v k, same) refl

  pub get_elsewhere : (m : map.FinMap nat_cmp X) (k : ℕ) (v : X) (q : ℕ) → q ≢ k → map.get (map.insert m k v) q ≡ map.get m q
  get_elsewhere m k v q other = let off : eqb q k ≡ false = grind (arith, nat_tests) in rw (get-insert m k v q, off) refl

  -- a map is determined by its values for all keys
  pub same_map : (m n : map.FinMap nat_cmp X) → ((q : ℕ) → map.get m q ≡ map.get n q) → m ≡ n
  same_map = map.same_map nat_cmp_total nat_cmp-IsAntisymmetric

  once : (b : Bool) (v w : X) (o : Option X) → cond b (Some w) (cond b (Some v) o) ≡ cond b (Some w) o
  once true v w o = refl
  once false v w o = refl

  pub insert_twice : (m : map.FinMap nat_cmp X) (k : ℕ) (v w : X) → map.insert (map.insert m k v) k w ≡ map.insert m k w
  insert_twice m k v w =
      same_map _ _ (λ q. rw (get-insert (map.insert m k v) k w q, get-insert m k v q, get-insert m k w q) (once (eqb q k) v w (map.get m q)))

  -- a key with a value differs from a key without one
  pub missing_key : (m : map.FinMap nat_cmp X) (k q : ℕ) → map.get m k ≡ None → IsSome (map.get m q) → q ≢ k
  missing_key m k q none some same = let there = rw (same, none) at some in cc

  -- entries with ascending keys are the entries of their map
  pub entries_of_rising : (es : List (ℕ × X)) → IsStrictlySortedBy nat_cmp (keys_of es) → map.entries (map.from_entries {R = nat_cmp} es) ≡ es
  entries_of_rising = any.entries_of_tree nat_cmp_total nat_cmp-IsAntisymmetric
