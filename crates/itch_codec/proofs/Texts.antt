-- Printable bytes, and the first byte that is not printable.
use Rattle.std.proofs.Common.{◌≡◌, ℕ, zero, suc, ◌+◌, ◌-◌, ◌<◌, ◌≤◌, Bool, true, false, not, ltb, List, [], ◌∷◌, ◌++◌, length, take, drop, replicate, get_or, slice_index, None, refl, sym, ap, ◌∙◌, arith}
use Rattle.std.specs.List.{prefix_len, list_all}
use Rattle.std.proofs.Math.Numerals.{one-add}
use Rattle.std.proofs.lemmas.List.Sums.{prefix_len-le-length}
use Rattle.std.proofs.lemmas.Bool.Decides.{nat_tests}
use Rattle.std.specs.Str.{IsUtf8}
use Rattle.std.proofs.lemmas.Str.{IsUtf8-from_ascii}
use Rattle.std.proofs.lemmas.List.{length-take, length-drop, length-replicate, ext_get_or, get_or-drop, get_or-take, get_or-replicate, take-append-drop}
use Rattle.itch_codec.specs.Text.{IsPrintable, is_unprintable, first_unprintable, padded_to}

abbrev printed_len : List ℕ → ℕ
printed_len bytes = prefix_len (λ byte. not (is_unprintable byte)) bytes

printable_byte : (byte : ℕ) → (32 ≤ byte) × (byte ≤ 126) → is_unprintable byte ≡ false
printable_byte byte h = grind (arith, nat_tests)

byte_printable : (byte : ℕ) → is_unprintable byte ≡ false → (32 ≤ byte) × (byte ≤ 126)
byte_printable byte h = grind (arith, nat_tests)

printable-len : (bytes : List ℕ) → IsPrintable bytes → printed_len bytes ≡ length bytes
printable-len [] h = refl
printable-len (byte ∷ bytes) h = rw (printable_byte byte h.0, printable-len bytes h.1, one-add) refl

len_step : (byte : ℕ) (bytes : List ℕ) (b : Bool) → is_unprintable byte ≡ b → printed_len (byte ∷ bytes) ≡ length (byte ∷ bytes)
    → (is_unprintable byte ≡ false) × (printed_len bytes ≡ length bytes)
len_step byte bytes true e h = absurd (grind (arith, rw e at h))
len_step byte bytes false e h = let k = rw e at h in (e, omega (arith, k))

len-printable : (bytes : List ℕ) → printed_len bytes ≡ length bytes → IsPrintable bytes
len-printable [] h = tt
len-printable (byte ∷ bytes) h =
    let step = len_step byte bytes (is_unprintable byte) refl h in (byte_printable byte step.0, len-printable bytes step.1)

none_len : (bytes : List ℕ) (b : Bool) → ltb (printed_len bytes) (length bytes) ≡ b → first_unprintable bytes ≡ None → printed_len bytes ≡ length bytes
unfolding first_unprintable
none_len bytes true e h = absurd (let k = rw e at h in cc)
none_len bytes false e h =
    let le = prefix_len-le-length (λ byte. not (is_unprintable byte)) bytes in grind (arith, nat_tests)

-- if no unprintable byte is found, all bytes are printable
pub none-printable : (bytes : List ℕ) → first_unprintable bytes ≡ None → IsPrintable bytes
none-printable bytes h = len-printable bytes (none_len bytes _ refl h)

-- no unprintable byte is found in printable bytes
pub printable-none : (bytes : List ℕ) → IsPrintable bytes → first_unprintable bytes ≡ None
unfolding first_unprintable
printable-none bytes h =
    let e = printable-len bytes h in
    let t : ltb (printed_len bytes) (length bytes) ≡ false = grind (arith, nat_tests) in rw t refl

pub ruleset printing = (none-printable, printable-none)

-- whether no byte is unprintable
abbrev pub all_printable : List ℕ → Bool
all_printable bytes = list_all (λ byte. not (is_unprintable byte)) bytes

all_step : (byte : ℕ) (bytes : List ℕ) (b : Bool) → is_unprintable byte ≡ b → all_printable (byte ∷ bytes) ≡ true
    → (is_unprintable byte ≡ false) × (all_printable bytes ≡ true)
all_step byte bytes true e h = absurd (let k = rw e at h in cc)
all_step byte bytes false e h = let k = rw e at h in (e, k)

pub all-printable : (bytes : List ℕ) → all_printable bytes ≡ true → IsPrintable bytes
all-printable [] h = tt
all-printable (byte ∷ bytes) h =
    let step = all_step byte bytes (is_unprintable byte) refl h in (byte_printable byte step.0, all-printable bytes step.1)

pub printable-all : (bytes : List ℕ) → IsPrintable bytes → all_printable bytes ≡ true
printable-all [] h = refl
printable-all (byte ∷ bytes) h = rw (printable_byte byte h.0, printable-all bytes h.1) refl

-- all bytes after the text are spaces
pub text-whole : (field : List ℕ) (len : ℕ) → len ≤ length field → ((k : ℕ) → len ≤ k → k < length field → slice_index field k ≡ 32)
    → field ≡ padded_to (length field) (take len field)
text-whole field len within spaces =
    let size : length (take len field) ≡ len = simp length-take (omega arith) in
    let left : length (drop len field) ≡ length field - len = length-drop len field in
    let following : drop len field ≡ replicate (length field - len) 32 =
    ext_get_or 0 (drop len field) (replicate (length field - len) 32) (left ∙ sym (length-replicate (length field - len) 32)) (λ i h.
    get_or-drop len field i 0 ∙ spaces (len + i) (omega arith) (omega arith) ∙ sym (get_or-replicate (length field - len) i 32 0 (omega arith))) in
    sym (take-append-drop len field) ∙ ap (λ xs. take len field ++ xs) (following ∙ ap (λ k. replicate (length field - k) 32) (sym size))

-- printable bytes are text
printable_at : (bytes : List ℕ) → IsPrintable bytes → (i : ℕ) → get_or bytes i 0 < 128
printable_at [] h i = omega arith
printable_at (byte ∷ bytes) h zero = let high = h.0.1 in omega arith
printable_at (byte ∷ bytes) h (suc i) = printable_at bytes h.1 i

printable_take : (len : ℕ) (bytes : List ℕ) → IsPrintable bytes → IsPrintable (take len bytes)
printable_take zero bytes h = tt
printable_take (suc len) [] h = tt
printable_take (suc len) (byte ∷ bytes) h = (h.0, printable_take len bytes h.1)

pub printable-utf8 : (len : ℕ) (bytes : List ℕ) → IsPrintable bytes → IsUtf8 (take len bytes)
printable-utf8 len bytes h = IsUtf8-from_ascii (take len bytes) (printable_at (take len bytes) (printable_take len bytes h))

pub ruleset trimming = (text-whole, printable-utf8, length-take, get_or-take)
