-- The text of a field consists of the bytes before the spaces at its end.
use Rattle.std.proofs.Common.{◌≡◌, ◌≢◌, ℕ, zero, suc, ◌-◌, ◌<◌, Bool, true, false, eqb, List, [], ◌∷◌, ◌++◌, length, replicate, get_or, sym, refl, ap, ◌∙◌, arith}
use Rattle.std.specs.Prelude.{reverse}
use Rattle.std.specs.List.{prefix_len}
use Rattle.std.proofs.Math.Numerals.{one-add}
use Rattle.std.proofs.lemmas.Bool.{eqb-true}
use Rattle.std.proofs.lemmas.List.{drop_at, length-replicate, reverse-append, reverse-reverse, length-reverse, get_or-reverse}
use Rattle.itch_codec.specs.Text.{IsTextOf, before_spaces}
use Rattle.itch_codec.specs.Numbers.{is_space, after_spaces}

abbrev spaces : ℕ → List ℕ
spaces n = replicate n 32

more_spaces : (n : ℕ) → spaces n ++ spaces 1 ≡ spaces (suc n)
more_spaces zero = refl
more_spaces (suc n) = ap (λ (xs : List ℕ). 32 ∷ xs) (more_spaces n)

spaces-reversed : (n : ℕ) → reverse (spaces n) ≡ spaces n
spaces-reversed zero = refl
spaces-reversed (suc n) =
    reverse-append (spaces 1) (spaces n) ∙ ap (λ xs. xs ++ spaces 1) (spaces-reversed n) ∙ more_spaces n

spaces_in_front : (n : ℕ) (ys : List ℕ) → prefix_len is_space ys ≡ 0 → prefix_len is_space (spaces n ++ ys) ≡ n
spaces_in_front zero ys h = h
spaces_in_front (suc n) ys h = rw (spaces_in_front n ys h, one-add) refl

first_is_none : (y : ℕ) (ys : List ℕ) (b : Bool) → eqb y 32 ≡ b → y ≢ 32 → prefix_len is_space (y ∷ ys) ≡ 0
first_is_none y ys true e h = absurd (h (eqb-true y 32 e))
first_is_none y ys false e h = rw e refl

no_space_in_front : (ys : List ℕ) → (0 < length ys → get_or ys 0 0 ≢ 32) → prefix_len is_space ys ≡ 0
no_space_in_front [] h = refl
no_space_in_front (y ∷ ys) h = first_is_none y ys _ refl (h (omega arith))

after-spaces : (n : ℕ) (ys : List ℕ) → prefix_len is_space ys ≡ 0 → after_spaces (spaces n ++ ys) ≡ ys
unfolding after_spaces
after-spaces n ys h = rw (spaces_in_front n ys h) (drop_at (spaces n) ys n (length-replicate n 32))

-- the text of a field is the field without the spaces at its end
pub text-before_spaces : (field text : List ℕ) → IsTextOf field text → before_spaces field ≡ text
unfolding before_spaces
text-before_spaces field text h =
    let n = length field - length text in
    let backwards : reverse field ≡ spaces n ++ reverse text =
    ap reverse h.whole ∙ reverse-append text (spaces n) ∙ ap (λ xs. xs ++ reverse text) (spaces-reversed n) in
    let same = length-reverse text in
    let first : 0 < length (reverse text) → get_or (reverse text) 0 0 ≢ 32 =
    λ some e.
    let last = sym (get_or-reverse text 0 0 (omega (arith, same))) ∙ e in
    let place : length text - 1 - 0 ≡ length text - 1 = omega arith in
    h.last (omega (arith, same)) (rw place at last) in
    ap (λ xs. reverse (after_spaces xs)) backwards ∙ ap reverse (after-spaces n (reverse text) (no_space_in_front (reverse text) first))
    ∙ reverse-reverse text

pub ruleset texts = (text-before_spaces)
