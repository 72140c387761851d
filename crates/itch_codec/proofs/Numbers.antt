-- Numbers in twenty digits: the written field encodes the number, and reading returns the encoded number.
use Rattle.std.proofs.Common.{◌≡◌, ℕ, zero, suc, ◌+◌, ◌-◌, ◌*◌, ◌<◌, ◌≤◌, ◌^◌, ◌&&◌, Bool, true, false, cond, leb, List, [], ◌∷◌, ◌++◌, length, take, drop, replicate, get_or, Some, refl, sym, ap, ◌∙◌, arith}
use Rattle.std.specs.Prelude.{decimal}
use Rattle.std.specs.Char.{is_ascii_digit, digit_value}
use Rattle.std.specs.List.{prefix_len, list_all}
use Rattle.std.specs.Str.{all_ascii_digits}
use Rattle.std.specs.Str.Parse.{digits_value}
use Rattle.std.proofs.Math.Numerals.{one-add}
use Rattle.std.proofs.lemmas.List.{append-nil, take_at, drop_at, take-append-drop, length-append, length-replicate, length-take, length-drop, take-replicate}
use Rattle.std.proofs.lemmas.List.Sums.{prefix_len-le-length, take_while-cons}
use Rattle.std.proofs.lemmas.Bool.{and_parts}
use Rattle.std.proofs.lemmas.Bool.Decides.{nat_tests}
use Rattle.std.proofs.lemmas.Int.Digits.{digits_value_more}
use Rattle.std.proofs.lemmas.Str.Parse.{IsNumeralModel, numerals_by_value, tells_all_ascii_digits, digits_value_short, digits_value-take-le, digit_at}
use Rattle.std.proofs.lemmas.Fmt.{length-decimal-le, decimal_nonempty, digits_decimal, digits_value-decimal}
use Rattle.itch_codec.specs.Numbers.{dec20, SpellsNumber, IsNumber, read20, is_space, after_spaces, digits_in_front, after_digits, number_of_digits, number_of_parts}

pub numerals : IsNumeralModel (λ ds. all_ascii_digits ds ≡ true) (digits_value 10)
numerals = numerals_by_value _ tells_all_ascii_digits

-- digits written at the end of twenty spaces
pub written_at : (n start : ℕ) (field : List ℕ) → start + length (decimal n) ≡ 20 → drop start field ≡ decimal n ++ []
    → take start field ≡ take start (replicate 20 32) → field ≡ dec20 n
unfolding dec20
written_at n start field sum written before =
    let left : take start (replicate 20 32) ≡ replicate (20 - length (decimal n)) 32 =
    take-replicate start 20 32 (omega arith) ∙ ap (λ k. replicate k 32) (omega arith) in
    sym (take-append-drop start field) ∙ ap (λ xs. xs ++ drop start field) (before ∙ left)
    ∙ ap (λ xs. replicate (20 - length (decimal n)) 32 ++ xs) (written ∙ append-nil (decimal n))

pub decimal-short : (n : ℕ) → n < 2 ^ 64 → length (decimal n) ≤ 20
decimal-short n h = length-decimal-le 20 n (omega arith) (omega arith) h

pub length-dec20 : (n : ℕ) → n < 2 ^ 64 → length (dec20 n) ≡ 20
unfolding dec20
length-dec20 n h =
    let short = decimal-short n h in
    length-append (replicate (20 - length (decimal n)) 32) (decimal n)
    ∙ ap (λ k. k + length (decimal n)) (length-replicate (20 - length (decimal n)) 32) ∙ omega arith

-- the value of digits during reading
pub digit_low : (ds : List ℕ) (i : ℕ) → all_ascii_digits ds ≡ true → i < length ds → 48 ≤ get_or ds i 0
digit_low ds i all h = (digit_at ds i (numerals.to ds all) h).0

digit_small : (c : ℕ) → 48 ≤ c → c ≤ 57 → digit_value c ≡ c - 48
digit_small c low high = grind (arith, nat_tests)

pub value_more : (ds : List ℕ) (i : ℕ) → all_ascii_digits ds ≡ true → i < length ds
    → digits_value 10 (take (i + 1) ds) ≡ digits_value 10 (take i ds) * 10 + (get_or ds i 0 - 48)
value_more ds i all h =
    let more = digits_value_more 10 ds i h in
    let digit = digit_at ds i (numerals.to ds all) h in
    more ∙ ap (λ k. digits_value 10 (take i ds) * 10 + k) (digit_small (get_or ds i 0) digit.0 digit.1)

pub value_small : (ds : List ℕ) (i : ℕ) → all_ascii_digits ds ≡ true → length ds ≤ 20 → digits_value 10 (take i ds) < 10 ^ 20
value_small ds i all short =
    let le = digits_value-take-le 10 ds i (omega arith) in
    let lt = digits_value_short numerals ds 20 all short in omega arith

pub ruleset counting = (digit_low, value_more, value_small)

-- conditions on the front of a list
front_step : (p : ℕ → Bool) (x : ℕ) (xs : List ℕ) (b : Bool) → p x ≡ b → list_all p xs ≡ true → list_all p (cond b (x ∷ xs) []) ≡ true
front_step p x xs true e h = rw (e, h) refl
front_step p x xs false e h = refl

pub front_passes : (p : ℕ → Bool) (xs : List ℕ) → list_all p (take (prefix_len p xs) xs) ≡ true
front_passes p [] = refl
front_passes p (x ∷ xs) = rw (take_while-cons p x xs) (front_step p x _ (p x) refl (front_passes p xs))

pub all_ascii-list_all : (ds : List ℕ) → all_ascii_digits ds ≡ list_all is_ascii_digit ds
all_ascii-list_all [] = refl
all_ascii-list_all (d ∷ ds) = ap (λ b. is_ascii_digit d && b) (all_ascii-list_all ds)

pub digits_pass : (text : List ℕ) → all_ascii_digits (digits_in_front text) ≡ true
unfolding digits_in_front
digits_pass text = all_ascii-list_all (take (prefix_len is_ascii_digit text) text) ∙ front_passes is_ascii_digit text

prefix_len-split : (p : ℕ → Bool) (xs ys : List ℕ) → list_all p xs ≡ true → prefix_len p ys ≡ 0 → prefix_len p (xs ++ ys) ≡ length xs
prefix_len-split p [] ys h none = none
prefix_len-split p (x ∷ xs) ys h none =
    let both = and_parts (p x) (list_all p xs) h in rw (both.0, prefix_len-split p xs ys both.1 none, one-add) refl

digit_no_space : (d : ℕ) → is_ascii_digit d ≡ true → is_space d ≡ false
digit_no_space d h = grind (arith, nat_tests)

space_no_digit : (b : ℕ) → is_space b ≡ true → is_ascii_digit b ≡ false
space_no_digit b h = grind (arith, nat_tests)

no_space_in_front : (ds right : List ℕ) → all_ascii_digits ds ≡ true → 0 < length ds → prefix_len is_space (ds ++ right) ≡ 0
no_space_in_front [] right all some = absurd (omega arith)
no_space_in_front (d ∷ ds) right all some = rw (digit_no_space d (and_parts _ _ all).0) refl

no_digit_in_front : (right : List ℕ) → list_all is_space right ≡ true → prefix_len is_ascii_digit right ≡ 0
no_digit_in_front [] h = refl
no_digit_in_front (b ∷ right) h = rw (space_no_digit b (and_parts _ _ h).0) refl

-- the parts of a field and its number
pub record ArePartsOf (n : ℕ) (digits right : List ℕ) : Type 0 where
  pub some_digit : 0 < length digits
  pub blank : list_all is_space right ≡ true
  pub value : n ≡ digits_value 10 digits
  pub bounded : n ≤ 10 ^ 19

number_found : (n : ℕ) (digits : List ℕ) (b : Bool) → leb (digits_value 10 digits) (10 ^ 19) ≡ b → number_of_digits digits ≡ Some n
    → (n ≡ digits_value 10 digits) × (n ≤ 10 ^ 19)
number_found n digits true e h =
    let found = rw e at h in
    let same : n ≡ digits_value 10 digits = cc in
    let low : digits_value 10 digits ≤ 10 ^ 19 = grind (arith, nat_tests) in (same, omega arith)
number_found n digits false e h = absurd (let found = rw e at h in cc)

parts_found : (n d : ℕ) (ds right : List ℕ) (b : Bool) → list_all is_space right ≡ b → number_of_parts (d ∷ ds) right ≡ Some n → ArePartsOf n (d ∷ ds) right
parts_found n d ds right true e h =
    let found = number_found n (d ∷ ds) _ refl (rw e at h) in
    record { some_digit = omega arith; blank = e; value = found.0; bounded = found.1 }
parts_found n d ds right false e h = absurd (let found = rw e at h in cc)

number_parts : (n : ℕ) (digits right : List ℕ) → number_of_parts digits right ≡ Some n → ArePartsOf n digits right
number_parts n [] right h = absurd (cc)
number_parts n (d ∷ ds) right h = parts_found n d ds right _ refl h

parts_number : (n : ℕ) (digits right : List ℕ) → ArePartsOf n digits right → number_of_parts digits right ≡ Some n
parts_number n [] right h = absurd (omega (arith, h.some_digit))
parts_number n (d ∷ ds) right h =
    let value = h.value in
    let bounded = h.bounded in
    let fits : leb (digits_value 10 (d ∷ ds)) (10 ^ 19) ≡ true = grind (arith, nat_tests) in
    rw (h.blank, fits) (ap Some (sym value))

-- a field encodes the number read from it
pub read-spells : (field : List ℕ) (n : ℕ) → read20 field ≡ Some n → SpellsNumber field n
unfolding read20 after_spaces digits_in_front after_digits
read-spells field n h =
    let text = after_spaces field in
    let parts = number_parts n (digits_in_front text) (after_digits text) h in (
      take (prefix_len is_space field) field,
      digits_in_front text,
      after_digits text,
      record {
        whole = sym (take-append-drop (prefix_len is_space field) field)
            ∙ ap (λ xs. take (prefix_len is_space field) field ++ xs) (sym (take-append-drop (prefix_len is_ascii_digit text) text));
        spaces_before = front_passes is_space field;
        all_digits = digits_pass text;
        some_digit = parts.some_digit;
        spaces_after = parts.blank;
        value = parts.value;
        bounded = parts.bounded;
      },
    )

text_of : (left digits right : List ℕ) → list_all is_space left ≡ true → all_ascii_digits digits ≡ true → 0 < length digits
    → after_spaces (left ++ (digits ++ right)) ≡ digits ++ right
unfolding after_spaces
text_of left digits right before all some =
    let count = prefix_len-split is_space left (digits ++ right) before (no_space_in_front digits right all some) in
    rw count (drop_at left (digits ++ right) _ refl)

digits_len : (digits right : List ℕ) → all_ascii_digits digits ≡ true → list_all is_space right ≡ true
    → prefix_len is_ascii_digit (digits ++ right) ≡ length digits
digits_len digits right all following =
    prefix_len-split is_ascii_digit digits right (sym (all_ascii-list_all digits) ∙ all) (no_digit_in_front right following)

digits_of : (digits right : List ℕ) → all_ascii_digits digits ≡ true → list_all is_space right ≡ true → digits_in_front (digits ++ right) ≡ digits
unfolding digits_in_front
digits_of digits right all following = rw (digits_len digits right all following) (take_at digits right _ refl)

rest_of : (digits right : List ℕ) → all_ascii_digits digits ≡ true → list_all is_space right ≡ true → after_digits (digits ++ right) ≡ right
unfolding after_digits
rest_of digits right all following = rw (digits_len digits right all following) (drop_at digits right _ refl)

number-read : {field left digits right : List ℕ} {n : ℕ} → IsNumber field n left digits right → read20 field ≡ Some n
unfolding read20
number-read {field} {left} {digits} {right} {n} h =
    let text = ap after_spaces h.whole ∙ text_of left digits right h.spaces_before h.all_digits h.some_digit in
    rw (text, digits_of digits right h.all_digits h.spaces_after, rest_of digits right h.all_digits h.spaces_after)
    (parts_number n digits right (record { some_digit = h.some_digit; blank = h.spaces_after; value = h.value; bounded = h.bounded }))

-- an encoded number is read back
pub spells-read : (field : List ℕ) (n : ℕ) → SpellsNumber field n → read20 field ≡ Some n
spells-read field n (left, digits, right, h) = number-read h

spaces_all : (n : ℕ) → list_all is_space (replicate n 32) ≡ true
spaces_all zero = refl
spaces_all (suc n) = spaces_all n

-- the written field encodes the number
pub dec20-spells : (n : ℕ) → n ≤ 10 ^ 19 → SpellsNumber (dec20 n) n
unfolding dec20
dec20-spells n h =
    let small : n < 2 ^ 64 = omega arith in (
      replicate (20 - length (decimal n)) 32,
      decimal n,
      [],
      record {
        whole = ap (λ xs. replicate (20 - length (decimal n)) 32 ++ xs) (sym (append-nil (decimal n)));
        spaces_before = spaces_all (20 - length (decimal n));
        all_digits = digits_decimal numerals n small;
        some_digit = decimal_nonempty n small;
        spaces_after = refl;
        value = sym (digits_value-decimal numerals n small);
        bounded = h;
      },
    )

pub ruleset writing = (decimal-short, written_at)

pub ruleset fronts = (prefix_len-le-length, length-take, length-drop, digits_pass)

pub read-bounded : (field : List ℕ) (n : ℕ) → read20 field ≡ Some n → n ≤ 10 ^ 19
unfolding read20
read-bounded field n h =
    (number_parts n (digits_in_front (after_spaces field)) (after_digits (after_spaces field)) h).bounded

pub ruleset reading = (read-spells, read-bounded)

-- a field encodes at most one number
pub same_spelled : (field : List ℕ) (m n : ℕ) → SpellsNumber field m → SpellsNumber field n → m ≡ n
same_spelled field m n h k = let one = sym (spells-read field m h) ∙ spells-read field n k in cc

pub ruleset number_laws = (dec20-spells, length-dec20)
