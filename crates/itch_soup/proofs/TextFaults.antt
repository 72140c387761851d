-- Texts that are not accepted: the first byte that is not printable.
use Rattle.std.proofs.Common.{◌≡◌, ℕ, ◌<◌, Bool, true, false, not, ltb, List, length, Option, None, Some, refl, arith}
use Rattle.std.specs.Prelude.{option_map}
use Rattle.std.proofs.lemmas.Bool.Decides.{nat_tests}
use Rattle.std.specs.List.{prefix_len}
use Rattle.itch_codec.specs.declared.text.AlphaFault.TheVariants.{NotPrintable}
use Rattle.itch_codec.specs.Text.{is_unprintable, first_unprintable}
use Rattle.itch_codec.proofs.Texts.{printable-none}

first_lt : (bytes : List ℕ) (place : ℕ) (b : Bool) → ltb (prefix_len (λ byte. not (is_unprintable byte)) bytes) (length bytes) ≡ b
    → first_unprintable bytes ≡ Some place → place < length bytes
unfolding first_unprintable
first_lt bytes place true e h = let k = rw e at h in grind (arith, nat_tests)
first_lt bytes place false e h = absurd (let k = rw e at h in cc)

-- the first byte that is not printable is one of the bytes
pub first_unprintable-lt : (bytes : List ℕ) (place : ℕ) → first_unprintable bytes ≡ Some place → place < length bytes
first_unprintable-lt bytes place h = first_lt bytes place _ refl h

found_lt : (bytes : List ℕ) (place : ℕ) (found : Option ℕ) → first_unprintable bytes ≡ found → option_map NotPrintable found ≡ Some (NotPrintable place)
    → place < length bytes
found_lt bytes place None e h = absurd (cc)
found_lt bytes place (Some other) e h = let same : other ≡ place = cc in first_unprintable-lt bytes place (cc)

-- so is the position in the fault of a text
pub not_printable-lt : (bytes : List ℕ) (place : ℕ) → option_map NotPrintable (first_unprintable bytes) ≡ Some (NotPrintable place) → place < length bytes
not_printable-lt bytes place h = found_lt bytes place (first_unprintable bytes) refl h

pub ruleset printing = (printable-none, not_printable-lt)
