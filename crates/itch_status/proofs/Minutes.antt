-- The seconds of a minute.
use Rattle.std.proofs.Common.{◌≡◌, ℕ, List, [], ◌∷◌, ◌++◌, length, take, drop, set, subst, arith}
use Rattle.std.proofs.Math.Seq.{set-append_seam}

-- a second that was rotated to the end is replaced there
pub last_set : (xs : List ℕ) (p : ℕ) → length xs ≡ 60 → set (drop 1 xs ++ take 1 xs) 59 p ≡ drop 1 xs ++ p ∷ []
last_set [] p counted = absurd (omega (arith, counted))
last_set (x ∷ ys) p counted =
    let rest : length ys ≡ 59 = omega (arith, counted) in
    subst (λ k. set (ys ++ x ∷ []) k p ≡ ys ++ p ∷ []) rest (set-append_seam ys x [] p)
