-- Fields one after another: their values in the joined bytes, and the payload as these bytes.
use Rattle.std.proofs.Common.{◌≡◌, ℕ, ◌+◌, ◌-◌, ◌<◌, ◌≤◌, ◌^◌, ◌==◌, ◌&&◌, Bool, true, false, not, List, [], ◌∷◌, ◌++◌, length, drop, refl, sym, ap, ◌∙◌, subst, arith}
use Rattle.std.proofs.lemmas.Bool.{and_parts}
use Rattle.std.proofs.lemmas.Bool.Decides.{nat_tests}
use Rattle.std.proofs.lemmas.List.{append-nil, append_assoc, take_at, drop_at, length-append, get_or_at, drop_all, take-append-drop, drop-drop, drop_more}
use Rattle.byteorder.specs.Endian.{big_number, big_bytes}
use Rattle.byteorder.specs.Numbers.{big_number-reads_back, big_from-lt, length-bytes_high_first}
use Rattle.itch_codec.specs.Numbers.{slice_at, number_at, byte_at, be, dec20, SpellsNumber}
use Rattle.itch_codec.specs.Layouts.{Class, Integer, Price, Text, OneSide, Code, Codes, Digits, Column}
use Rattle.itch_codec.specs.Fields.{AreBytes, Value, Number, Bytes, TheSide, HasAt, HasAll, bytes_at, joined, side_byte, IsAlpha, IsBytes}
use Rattle.itch_codec.proofs.Numbers.{dec20-spells, length-dec20}
use Rattle.itch_codec.proofs.Bytes.{be-number, slice_bytes, length-slice_at, each_byte}

-- the value fits the field's width and class
abbrev pub FitsAt : Class → ℕ → Value → Type 0
FitsAt Integer width (Number number) = number < 256 ^ width
FitsAt Price width (Number number) = number < 256 ^ width
FitsAt Text width (Bytes bytes) = IsAlpha width bytes
FitsAt OneSide width (TheSide side) = Unit {0}
FitsAt Code width (Number byte) = byte < 256
FitsAt Codes width (Bytes bytes) = IsBytes width bytes
FitsAt Digits width (Number number) = (1 ≤ number) × (number ≤ 10 ^ 19)
FitsAt class width value = ⊥

-- the width of a field of this class
abbrev pub is_wide : Class → ℕ → Bool
is_wide OneSide width = width == 1
is_wide Code width = width == 1
is_wide Digits width = width == 20
is_wide class width = true

-- the fields follow one another without gaps, from one offset to another
abbrev pub is_gapless : ℕ → ℕ → List Column → Bool
is_gapless at end [] = at == end
is_gapless at end (c ∷ cs) = (at == c.offset) && (is_wide c.class c.width && is_gapless (at + c.width) end cs)

record IsNext (at end : ℕ) (c : Column) (cs : List Column) : Type 0 where
  here : at ≡ c.offset
  wide : is_wide c.class c.width ≡ true
  rest : is_gapless (at + c.width) end cs ≡ true

same : (m n : ℕ) → (m == n) ≡ true → m ≡ n
same m n h = grind (arith, nat_tests)

three_true : (a b c : Bool) → (a && (b && c)) ≡ true → (a ≡ true) × (b ≡ true) × (c ≡ true)
three_true true true true h = (refl, refl, refl)
three_true true true false h = absurd (cc)
three_true true false c h = absurd (cc)
three_true false b c h = absurd (cc)

next_is : (at end : ℕ) (c : Column) (cs : List Column) → is_gapless at end (c ∷ cs) ≡ true → IsNext at end c cs
next_is at end c cs h =
    let all = three_true _ _ _ h in record { here = same at c.offset all.0; wide = all.1; rest = all.2 }

pub gapless_le : (at end : ℕ) (cs : List Column) → is_gapless at end cs ≡ true → at ≤ end
gapless_le at end [] h = let e = same at end h in omega arith
gapless_le at end (c ∷ cs) h = let le = gapless_le (at + c.width) end cs (next_is at end c cs h).rest in omega arith

-- a part in the middle
slice_mid : (offset width : ℕ) (front bytes rest : List ℕ) → length front ≡ offset → length bytes ≡ width
    → slice_at offset width (front ++ (bytes ++ rest)) ≡ bytes
unfolding slice_at
slice_mid offset width front bytes rest f b = rw (drop_at front (bytes ++ rest) offset f) (take_at bytes rest _ (omega arith))

number-slice : (offset width : ℕ) (payload : List ℕ) → number_at offset width payload ≡ big_number width (slice_at offset width payload)
unfolding number_at slice_at
number-slice offset width payload = refl

number-be : (width n : ℕ) → n < 256 ^ width → big_number width (be width n) ≡ n
unfolding be
number-be width n h = ap (big_number width) (sym (append-nil (big_bytes width n))) ∙ big_number-reads_back width n [] h

length-be : (width n : ℕ) → length (be width n) ≡ width
unfolding be
length-be width n = length-bytes_high_first width n

pub bytes_len : (class : Class) (width : ℕ) (value : Value) → is_wide class width ≡ true → FitsAt class width value
    → length (bytes_at class width value) ≡ width
bytes_len Integer width (Number n) w h = length-be width n
bytes_len Price width (Number n) w h = length-be width n
bytes_len Text width (Bytes bytes) w h = h.0
bytes_len OneSide width (TheSide side) w h = let e = same width 1 w in omega arith
bytes_len Code width (Number n) w h = let e = same width 1 w in omega arith
bytes_len Codes width (Bytes bytes) w h = h.0
bytes_len Digits width (Number n) w h = let e = same width 20 w in length-dec20 n (omega arith) ∙ sym e
bytes_len class width value w h = absurd h

-- a number is in its bytes
number_mid : (offset width n : ℕ) (front rest : List ℕ) → n < 256 ^ width → length front ≡ offset → n ≡ number_at offset width (front ++ (be width n ++ rest))
number_mid offset width n front rest h f =
    sym (number-slice offset width _ ∙ ap (big_number width) (slice_mid offset width front (be width n) rest f (length-be width n)) ∙ number-be width n h)

-- a value that fits is in its bytes
has_mid : (class : Class) (offset width : ℕ) (value : Value) (front rest : List ℕ) → is_wide class width ≡ true → FitsAt class width value → length front ≡ offset
    → HasAt class offset width (front ++ (bytes_at class width value ++ rest)) value
has_mid Integer offset width (Number n) front rest w h f = number_mid offset width n front rest h f
has_mid Price offset width (Number n) front rest w h f = number_mid offset width n front rest h f
has_mid Text offset width (Bytes bytes) front rest w h f = (sym (slice_mid offset width front bytes rest f h.0), h.1)
has_mid OneSide offset width (TheSide side) front rest w h f = get_or_at front (side_byte side) rest 0 offset f
has_mid Code offset width (Number n) front rest w h f = sym (get_or_at front n rest 0 offset f)
has_mid Codes offset width (Bytes bytes) front rest w h f = sym (slice_mid offset width front bytes rest f h.0)
has_mid Digits offset width (Number n) front rest w h f =
    let e = same width 20 w in
    let there = slice_mid offset width front (dec20 n) rest f (length-dec20 n (omega arith) ∙ sym e) in
    (subst (λ field. SpellsNumber field n) (sym there) (dec20-spells n h.1), h.0)
has_mid class offset width value front rest w h f = absurd h

-- each value fits its column
abbrev pub FitAll : List Column → List Value → Type 0
FitAll [] [] = Unit {0}
FitAll (column ∷ columns) (value ∷ values) = FitsAt column.class column.width value × FitAll columns values
FitAll columns values = ⊥

-- values that fit are in their joined bytes
pub joined_has : (at end : ℕ) (cs : List Column) (vs : List Value) (front payload : List ℕ) → is_gapless at end cs ≡ true → FitAll cs vs → length front ≡ at
    → payload ≡ front ++ joined cs vs → HasAll payload cs vs
unfolding joined
joined_has at end [] [] front payload g h f e = tt
joined_has at end [] (v ∷ vs) front payload g h f e = absurd h
joined_has at end (c ∷ cs) [] front payload g h f e = absurd h
joined_has at end (c ∷ cs) (v ∷ vs) front payload g h f e =
    let next = next_is at end c cs g in
    let bytes = bytes_at c.class c.width v in
    let len = bytes_len c.class c.width v next.wide h.0 in (
      subst (λ p. HasAt c.class c.offset c.width p v) (sym e) (has_mid c.class c.offset c.width v front (joined cs vs) next.wide h.0 (f ∙ next.here)),
      joined_has (at + c.width) end cs vs (front ++ bytes) payload next.rest h.1 (length-append front bytes ∙ omega arith)
          (e ∙ sym (append_assoc front bytes (joined cs vs))),
    )

pub joined_len : (at end : ℕ) (cs : List Column) (vs : List Value) → is_gapless at end cs ≡ true → FitAll cs vs → at + length (joined cs vs) ≡ end
unfolding joined
joined_len at end [] [] g h = let e = same at end g in omega arith
joined_len at end [] (v ∷ vs) g h = absurd h
joined_len at end (c ∷ cs) [] g h = absurd h
joined_len at end (c ∷ cs) (v ∷ vs) g h =
    let next = next_is at end c cs g in
    let len = bytes_len c.class c.width v next.wide h.0 in
    let rest = joined_len (at + c.width) end cs vs next.rest h.1 in
    let whole = length-append (bytes_at c.class c.width v) (joined cs vs) in omega arith

-- the value in a payload's bytes
slice_one : (offset width : ℕ) (payload : List ℕ) → width ≡ 1 → offset < length payload → slice_at offset width payload ≡ byte_at offset payload ∷ []
unfolding slice_at
slice_one offset width payload w h =
    let one : (offset + width) - offset ≡ 1 = omega arith in rw (one, drop_more payload offset 0 h) refl

abbrev is_digits : Class → Bool
is_digits Digits = true
is_digits class = false

-- no field is a number in decimal digits
abbrev pub has_no_digits : List Column → Bool
has_no_digits [] = true
has_no_digits (c ∷ cs) = not (is_digits c.class) && has_no_digits cs

no_digits : (c : Column) (cs : List Column) → has_no_digits (c ∷ cs) ≡ true → (not (is_digits c.class) ≡ true) × (has_no_digits cs ≡ true)
no_digits c cs h = and_parts _ _ h

-- the bytes of a number are those of its field
number_bytes : (offset width n : ℕ) (payload : List ℕ) → AreBytes payload → offset + width ≤ length payload → n ≡ number_at offset width payload
    → be width n ≡ slice_at offset width payload
number_bytes offset width n payload b l h =
    ap (be width) (h ∙ number-slice offset width payload)
    ∙ be-number width (slice_at offset width payload) (length-slice_at offset width payload l) (slice_bytes offset width payload b)

has_bytes : (class : Class) (offset width : ℕ) (payload : List ℕ) (value : Value) → not (is_digits class) ≡ true → is_wide class width ≡ true
    → AreBytes payload → offset + width ≤ length payload → HasAt class offset width payload value → bytes_at class width value ≡ slice_at offset width payload
has_bytes Integer offset width payload (Number n) d w b l h = number_bytes offset width n payload b l h
has_bytes Price offset width payload (Number n) d w b l h = number_bytes offset width n payload b l h
has_bytes Text offset width payload (Bytes bytes) d w b l h = h.0
has_bytes OneSide offset width payload (TheSide side) d w b l h =
    let one = same width 1 w in ap (λ byte. byte ∷ []) (sym h) ∙ sym (slice_one offset width payload one (omega arith))
has_bytes Code offset width payload (Number n) d w b l h =
    let one = same width 1 w in ap (λ byte. byte ∷ []) h ∙ sym (slice_one offset width payload one (omega arith))
has_bytes Codes offset width payload (Bytes bytes) d w b l h = h
has_bytes Digits offset width payload value d w b l h = absurd (cc)
has_bytes class offset width payload value d w b l h = absurd h

drop_slice : (offset width : ℕ) (payload : List ℕ) → drop offset payload ≡ slice_at offset width payload ++ drop (offset + width) payload
unfolding slice_at
drop_slice offset width payload =
    let size : (offset + width) - offset ≡ width = omega arith in
    sym (take-append-drop width (drop offset payload)) ∙ rw (size, drop-drop width offset payload) refl

-- a payload with all these fields is their joined bytes
pub has_joined : (at : ℕ) (cs : List Column) (vs : List Value) (payload : List ℕ) → is_gapless at (length payload) cs ≡ true → has_no_digits cs ≡ true → AreBytes payload
    → HasAll payload cs vs → drop at payload ≡ joined cs vs
unfolding joined
has_joined at [] [] payload g d b h = let e = same at (length payload) g in drop_all at payload (omega arith)
has_joined at [] (v ∷ vs) payload g d b h = absurd h
has_joined at (c ∷ cs) [] payload g d b h = absurd h
has_joined at (c ∷ cs) (v ∷ vs) payload g d b h =
    let next = next_is at (length payload) c cs g in
    let le = gapless_le (at + c.width) (length payload) cs next.rest in
    let here = next.here in
    let none = no_digits c cs d in
    let first = has_bytes c.class c.offset c.width payload v none.0 next.wide b (omega arith) h.0 in
    let rest = has_joined (at + c.width) cs vs payload next.rest none.1 b h.1 in
    drop_slice at c.width payload
    ∙ ap (λ o. slice_at o c.width payload ++ drop (at + c.width) payload) here
    ∙ ap (λ xs. xs ++ drop (at + c.width) payload) (sym first)
    ∙ ap (λ xs. bytes_at c.class c.width v ++ xs) rest

-- a number in bytes is below the limit of its width
number_fits : (offset width n : ℕ) (payload : List ℕ) → AreBytes payload → n ≡ number_at offset width payload → n < 256 ^ width
number_fits offset width n payload b h =
    let e = h ∙ number-slice offset width payload in
    let small = big_from-lt 0 width (slice_at offset width payload) (each_byte _ (slice_bytes offset width payload b)) in
    subst (λ k. k < 256 ^ width) (sym e) small

-- the value of a field of bytes fits
has_fits : (class : Class) (offset width : ℕ) (payload : List ℕ) (value : Value) → is_wide class width ≡ true → AreBytes payload
    → offset + width ≤ length payload → HasAt class offset width payload value → FitsAt class width value
has_fits Integer offset width payload (Number n) w b l h = number_fits offset width n payload b h
has_fits Price offset width payload (Number n) w b l h = number_fits offset width n payload b h
has_fits Text offset width payload (Bytes bytes) w b l h = (ap length h.0 ∙ length-slice_at offset width payload l, h.1)
has_fits OneSide offset width payload (TheSide side) w b l h = tt
has_fits Code offset width payload (Number n) w b l h = subst (λ k. k < 256) (sym h) (each_byte payload b offset)
has_fits Codes offset width payload (Bytes bytes) w b l h =
    (ap length h ∙ length-slice_at offset width payload l, subst AreBytes (sym h) (slice_bytes offset width payload b))
has_fits Digits offset width payload (Number n) w b l h = (h.1, h.0.3.bounded)
has_fits class offset width payload value w b l h = absurd h

pub all_fit : (at : ℕ) (cs : List Column) (vs : List Value) (payload : List ℕ) → is_gapless at (length payload) cs ≡ true → AreBytes payload
    → HasAll payload cs vs → FitAll cs vs
all_fit at [] [] payload g b h = tt
all_fit at [] (v ∷ vs) payload g b h = absurd h
all_fit at (c ∷ cs) [] payload g b h = absurd h
all_fit at (c ∷ cs) (v ∷ vs) payload g b h =
    let next = next_is at (length payload) c cs g in
    let le = gapless_le (at + c.width) (length payload) cs next.rest in
    let here = next.here in
    (has_fits c.class c.offset c.width payload v next.wide b (omega arith) h.0, all_fit (at + c.width) cs vs payload next.rest b h.1)
