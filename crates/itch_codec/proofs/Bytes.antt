-- Bytes, and the numbers that they encode.
use Rattle.std.proofs.Common.{◌≡◌, ℕ, zero, suc, ◌+◌, ◌*◌, ◌<◌, ◌≤◌, ◌^◌, ◌/◌, List, [], ◌∷◌, length, take, drop, get_or, refl, sym, ap, ◌∙◌, arith}
use Rattle.std.specs.Int.{byte_at, bytes_high_first}
use Rattle.std.proofs.Math.Nat.{mod-lt}
use Rattle.std.proofs.lemmas.List.{append-nil, length-take, length-drop}
use Rattle.std.proofs.lemmas.Nat.{same_from_place}
use Rattle.byteorder.specs.Endian.{big_from, big_number}
use Rattle.byteorder.specs.Numbers.{big_from-cons, big_from-lt, big_number-reads_back, length-bytes_high_first}
use Rattle.itch_codec.specs.Fields.{AreBytes}
use Rattle.itch_codec.specs.Numbers.{slice_at, be}

pub all_bytes : (bytes : List ℕ) → ((k : ℕ) → get_or bytes k 0 < 256) → AreBytes bytes
all_bytes [] h = tt
all_bytes (byte ∷ bytes) h = (h 0, all_bytes bytes (λ k. h (suc k)))

pub each_byte : (bytes : List ℕ) → AreBytes bytes → (k : ℕ) → get_or bytes k 0 < 256
each_byte [] h k = omega arith
each_byte (byte ∷ bytes) h zero = h.0
each_byte (byte ∷ bytes) h (suc k) = each_byte bytes h.1 k

pub take_bytes : (n : ℕ) (bytes : List ℕ) → AreBytes bytes → AreBytes (take n bytes)
take_bytes zero bytes h = tt
take_bytes (suc n) [] h = tt
take_bytes (suc n) (byte ∷ bytes) h = (h.0, take_bytes n bytes h.1)

pub drop_bytes : (n : ℕ) (bytes : List ℕ) → AreBytes bytes → AreBytes (drop n bytes)
drop_bytes zero bytes h = h
drop_bytes (suc n) [] h = tt
drop_bytes (suc n) (byte ∷ bytes) h = drop_bytes n bytes h.1

pub slice_bytes : (offset width : ℕ) (payload : List ℕ) → AreBytes payload → AreBytes (slice_at offset width payload)
unfolding slice_at
slice_bytes offset width payload h = take_bytes _ _ (drop_bytes offset payload h)

pub length-slice_at : (offset width : ℕ) (payload : List ℕ) → offset + width ≤ length payload → length (slice_at offset width payload) ≡ width
unfolding slice_at
length-slice_at offset width payload h = simp (length-take, length-drop) (omega arith)

byte_small : (n x : ℕ) → byte_at n x < 256
byte_small zero x = mod-lt x (omega arith)
byte_small (suc n) x = mod-lt (x / 256 ^ suc n) (omega arith)

number_bytes : (n x : ℕ) → AreBytes (bytes_high_first n x)
number_bytes zero x = tt
number_bytes (suc n) x = (byte_small n x, number_bytes n x)

-- bytes that encode the same number are equal
same_number : (n : ℕ) (xs ys : List ℕ) → length xs ≡ n → length ys ≡ n → AreBytes xs → AreBytes ys → big_number n xs ≡ big_number n ys → xs ≡ ys
same_number zero [] [] _ _ _ _ _ = refl
same_number zero (x ∷ xs) ys lx _ _ _ _ = absurd (omega arith)
same_number zero [] (y ∷ ys) _ ly _ _ _ = absurd (omega arith)
same_number (suc n) [] ys lx _ _ _ _ = absurd (omega arith)
same_number (suc n) (x ∷ xs) [] _ ly _ _ _ = absurd (omega arith)
same_number (suc n) (x ∷ xs) (y ∷ ys) lx ly bx by h =
    let fx = big_from-cons 0 n x xs in
    let fy = big_from-cons 0 n y ys in
    let sx = big_from-lt 0 n xs (each_byte xs bx.1) in
    let sy = big_from-lt 0 n ys (each_byte ys by.1) in
    let e : x * 256 ^ n + big_from 0 n xs ≡ y * 256 ^ n + big_from 0 n ys = omega (arith, h) in
    let same = same_from_place x (big_from 0 n xs) y (big_from 0 n ys) (256 ^ n) sx sy e in
    let rest = same_number n xs ys (omega arith) (omega arith) bx.1 by.1 same.1 in
    λ i. same.0 i ∷ rest i

-- the bytes of the number that these bytes encode
pub be-number : (width : ℕ) (bytes : List ℕ) → length bytes ≡ width → AreBytes bytes → be width (big_number width bytes) ≡ bytes
unfolding be
be-number width bytes len h =
    let small = big_from-lt 0 width bytes (each_byte bytes h) in
    same_number width (bytes_high_first width (big_number width bytes)) bytes (length-bytes_high_first width _) len (number_bytes width _) h
    (ap (big_number width) (sym (append-nil _)) ∙ big_number-reads_back width (big_number width bytes) [] small)
