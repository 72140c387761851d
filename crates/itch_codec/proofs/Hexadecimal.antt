-- Bytes in hexadecimal digits, one after another.
use Rattle.std.proofs.Common.{◌≡◌, ℕ, ◌+◌, ◌<◌, ◌/◌, ◌%◌, List, [], ◌∷◌, ◌++◌, length, take, get_or, refl, ap, ◌∙◌}
use Rattle.std.proofs.Math.Numerals.{add-one}
use Rattle.std.proofs.Math.Seq.{take-suc}
use Rattle.itch_codec.specs.Lines.{hex_digit, hex}

hex-append : (xs ys : List ℕ) → hex (xs ++ ys) ≡ hex xs ++ hex ys
unfolding hex
hex-append [] ys = refl
hex-append (x ∷ xs) ys = ap (λ zs. hex_digit (x / 16) ∷ hex_digit (x % 16) ∷ zs) (hex-append xs ys)

hex-one : (byte : ℕ) → hex (byte ∷ []) ≡ hex_digit (byte / 16) ∷ hex_digit (byte % 16) ∷ []
unfolding hex
hex-one byte = refl

pub hex-none : hex [] ≡ []
unfolding hex
hex-none = refl

-- one more byte
pub hex-take : (bytes : List ℕ) (i : ℕ) → i < length bytes
    → hex (take (i + 1) bytes) ≡ hex (take i bytes) ++ (hex_digit (get_or bytes i 0 / 16) ∷ hex_digit (get_or bytes i 0 % 16) ∷ [])
hex-take bytes i h =
    rw (add-one i) (ap hex (take-suc bytes i 0 h) ∙ hex-append (take i bytes) (get_or bytes i 0 ∷ [])
    ∙ ap (λ zs. hex (take i bytes) ++ zs) (hex-one (get_or bytes i 0)))
