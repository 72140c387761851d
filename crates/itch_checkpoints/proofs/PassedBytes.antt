-- The kept bytes of a day file as it is read.
use Rattle.std.proofs.Common.{◌≡◌, refl, Bool, true, false, ℕ, ◌<◌, ◌≤◌, ◌+◌, ◌-◌, ◌^◌, min, nat_lt, List, ◌++◌, length, take, drop, sym, ap, ap₂, ◌∙◌, append-nil, arith, length-append}
use Rattle.std.proofs.lemmas.Bool.Decides.{nat_tests}
use Rattle.std.proofs.lemmas.List.{take-append-le, take-append-drop, take_all, take_min, length-take, drop-append-le, drop-take, take_rest}
use Rattle.std.proofs.Math.Seq.{take-append-add, drop-append-add}
use Rattle.itch_checkpoints.specs.Fingerprints.{HavePassed, digits_of, fingerprint}
use Rattle.itch_checkpoints.specs.declared.fingerprint.Fingerprint.{Fingerprint}

-- by cases of a condition
by_test : {P : Type 0} (b : Bool) → (b ≡ true → P) → (b ≡ false → P) → P
by_test true holds fails = holds refl
by_test false holds fails = fails refl

module _ (xs ys : List ℕ) (b e : ℕ) (order : b ≤ e) (within : e ≤ length xs + length ys) where
  -- the part is within the first list
  in_first : e ≤ length xs → take (e - b) (drop b xs) ++ take (0 - 0) (drop 0 ys) ≡ drop b (take e (xs ++ ys))
  in_first less =
      let whole : b + (e - b) ≡ e = omega arith in
      append-nil (take (e - b) (drop b xs)) ∙ sym (drop-take b (e - b) xs) ∙ ap (λ n. drop b (take n xs)) whole ∙ ap (drop b) (sym (take-append-le e xs ys less))

  -- it is within the second list
  in_second : length xs ≤ b → take ((e - length xs) - (b - length xs)) (drop (b - length xs) ys) ≡ drop b (take e (xs ++ ys))
  in_second more =
      let n : ℕ = length xs in
      let left : n + (b - n) ≡ b = omega arith in
      let right : n + (e - n) ≡ e = omega arith in
      let both : (b - n) + ((e - n) - (b - n)) ≡ e - n = omega arith in
      sym (drop-take (b - n) ((e - n) - (b - n)) ys) ∙ ap (λ m. drop (b - n) (take m ys)) both
      ∙ sym (drop-append-add xs (take (e - n) ys) (b - n)) ∙ ap (λ m. drop m (xs ++ take (e - n) ys)) left
      ∙ ap (drop b) (sym (take-append-add xs ys (e - n)) ∙ ap (λ m. take m (xs ++ ys)) right)

  -- it begins in the first list, and ends in the second
  in_both : b ≤ length xs → length xs ≤ e → take (length xs - b) (drop b xs) ++ take (e - length xs) (drop 0 ys) ≡ drop b (take e (xs ++ ys))
  in_both less more =
      let n : ℕ = length xs in
      let right : n + (e - n) ≡ e = omega arith in
      ap (λ us. us ++ take (e - n) ys) (take_rest xs b) ∙ sym (drop-append-le b xs (take (e - n) ys) less)
      ∙ ap (drop b) (sym (take-append-add xs ys (e - n)) ∙ ap (λ m. take m (xs ++ ys)) right)

  -- the part of two lists, one after the other, from one position to another
  pub part_is : take (min e (length xs) - min b (length xs)) (drop (min b (length xs)) xs) ++ take ((e - length xs) - (b - length xs)) (drop (b - length xs) ys) ≡ drop b (take e (xs ++ ys))
  part_is = by_test (nat_lt (length xs) e)
      (λ far. let beyond : length xs < e = grind (arith, nat_tests) in
      let first : min e (length xs) ≡ length xs = omega arith in
      by_test (nat_lt (length xs) b)
      (λ late. let after : length xs < b = grind (arith, nat_tests) in
      let second : min b (length xs) ≡ length xs = omega arith in
      let none : length xs - length xs ≡ 0 = omega arith in
      rw (first, second, none) (in_second (omega arith)))
      (λ early. let before : b ≤ length xs = grind (arith, nat_tests) in
      let second : min b (length xs) ≡ b = omega arith in
      let none : b - length xs ≡ 0 = omega arith in
      let whole : (e - length xs) - 0 ≡ e - length xs = omega arith in
      rw (first, second, none, whole) (in_both before (omega arith))))
      (λ near. let inside : e ≤ length xs = grind (arith, nat_tests) in
      let first : min e (length xs) ≡ e = omega arith in
      let second : min b (length xs) ≡ b = omega arith in
      let none : e - length xs ≡ 0 = omega arith in
      let none_before : b - length xs ≡ 0 = omega arith in
      rw (first, second, none, none_before) (in_first inside))

-- the first bytes after another piece
pub first_on : (room : ℕ) (bytes piece : List ℕ) → room ≡ 65536 - length (take 65536 bytes) → take 65536 bytes ++ take (min room (length piece)) piece ≡ take 65536 (bytes ++ piece)
first_on room bytes piece is = ap (λ ps. take 65536 bytes ++ ps) (take_min room piece) ∙ by_test (nat_lt (length bytes) 65536)
    (λ short. let less : length bytes < 65536 = grind (arith, nat_tests) in
    let all : take 65536 bytes ≡ bytes = take_all 65536 bytes (omega arith) in
    let left : room ≡ 65536 - length bytes = is ∙ ap (λ bs. 65536 - length bs) all in
    let whole : length bytes + room ≡ 65536 = omega arith in
    ap (λ bs. bs ++ take room piece) all ∙ sym (take-append-add bytes piece room) ∙ ap (λ n. take n (bytes ++ piece)) whole)
    (λ long. let more : 65536 ≤ length bytes = grind (arith, nat_tests) in
    let none : room ≡ 0 = omega (arith, is, length-take {A = ℕ}) in
    ap (λ n. take 65536 bytes ++ take n piece) none ∙ append-nil (take 65536 bytes) ∙ sym (take-append-le 65536 bytes piece more))

-- the fingerprint of these bytes
abbrev pub fingerprint_by : List ℕ → List ℕ → Fingerprint
fingerprint_by first last = record { first = digits_of first; last = digits_of last }

module _ (first older newer : List ℕ) (count place behind last begin : ℕ) (bytes : List ℕ) (passed : HavePassed first older newer count bytes) where
  -- the fingerprint of a position can be computed from the kept bytes
  pub place_found : count < 2 ^ 64 - 1 → place + behind ≡ count → last + behind ≡ length older + length newer → begin + min place 256 ≡ last → min place 65536 ≤ length first
      → fingerprint_by (take (min place 65536) first) (drop begin (take last (older ++ newer))) ≡ fingerprint place bytes
  place_found few here there from enough =
      let recent : List ℕ = older ++ newer in
      let all : length bytes ≡ count = omega (arith, passed.total) in
      let sizes : length bytes ≡ length passed.before + length recent = ap length passed.recent ∙ length-append passed.before recent in
      let halves : length recent ≡ length older + length newer = length-append older newer in
      let at : place ≡ length passed.before + last = omega arith in
      let back : length passed.before + begin ≡ place - 256 = omega arith in
      let kept : take (min place 65536) first ≡ take (min place 65536) bytes =
      ap (take (min place 65536)) passed.head
      ∙ sym (take-append-le (min place 65536) (take 65536 bytes) (drop 65536 bytes) (omega (arith, ap length passed.head)))
      ∙ ap (take (min place 65536)) (take-append-drop 65536 bytes) in
      let before : take place bytes ≡ passed.before ++ take last recent =
      ap (take place) passed.recent ∙ ap (λ n. take n (passed.before ++ recent)) at ∙ take-append-add passed.before recent last in
      let found : drop begin (take last recent) ≡ drop (place - 256) (take place bytes) =
      sym (drop-append-add passed.before (take last recent) begin) ∙ ap (λ n. drop n (passed.before ++ take last recent)) back ∙ ap (drop (place - 256)) (sym before) in
      ap₂ fingerprint_by kept found
