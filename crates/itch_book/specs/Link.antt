-- A link in one word: a place, or the largest number for no place.
use Rattle.std.specs.Prelude.{◌≡◌, ℕ, Bool, true, false, Option, Some, None, cond, eqb, refl}
use Rattle.std.proofs.Common.{sym}
use Rattle.std.proofs.lemmas.Bool.{eqb-true}

-- the place that a word represents
abbrev pub place_of : ℕ → Option ℕ
place_of word = cond (eqb word 4294967295) None (Some word)

-- the word that represents a place
abbrev pub word_of : Option ℕ → ℕ
word_of None = 4294967295
word_of (Some place) = place

-- no two words represent the same place
pub word_of-place_of : (word : ℕ) → word_of (place_of word) ≡ word
word_of-place_of word = by_test (eqb word 4294967295) refl
  where
    by_test : (b : Bool) → eqb word 4294967295 ≡ b → word_of (cond b None (Some word)) ≡ word
    by_test true e = sym (eqb-true word 4294967295 e)
    by_test false e = refl
