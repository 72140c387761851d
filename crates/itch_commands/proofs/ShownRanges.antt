-- The lines of a range are those after the messages before it.
use Rattle.std.proofs.Common.{◌≡◌, ℕ, ◌+◌, ◌-◌, ◌==◌, ◌&&◌, Bool, true, false, List, [], ◌∷◌, ◌++◌, take, zero, suc, Option, None, Some, refl, sym, ap, subst, ◌∙◌, append_assoc, arith, if◌then◌else◌}
use Rattle.std.proofs.lemmas.Bool.{false≢true}
use Rattle.std.proofs.lemmas.Bool.Decides.{nat_tests}
use Rattle.itch_book.proofs.Lists.{by_test}
use Rattle.itch_codec.specs.Headers.{time_of}
use Rattle.itch_codec.specs.declared.message.Message.{Message}
use Rattle.itch_day.specs.Limits.{is_late}
use Rattle.itch_commands.specs.Choices.{Chosen, chosen_after, chosen_line, chosen_lines, is_about, is_located, is_typed, line_in, of_all}
use Rattle.itch_commands.specs.Lookup.{is_sought}
use Rattle.itch_commands.specs.Starts.{before_range, before_time, first, is_begun, is_since, since_after, start_after}
use Rattle.itch_commands.specs.declared.form.ShowForm.{ShowForm}
use Rattle.itch_commands.specs.declared.start.Start.{Start}

abbrev from : ℕ → Option ℕ → Start
from before since = record { before = before; since = since }

-- after the first message of a range, the range has begun for the others too
begun_after : (start : Start) (time : Option ℕ) → is_begun start time ≡ true → start_after start time ≡ first
begun_after start time begun =
    by_test (start.before == 0)
    (λ none. by_test (is_since start.since time)
    (λ since.
    let here : start.before - 1 ≡ 0 = grind (arith, nat_tests) in
    ap (λ n. from n (since_after start.since time)) here ∙ ap (λ b. from 0 (if b then None else start.since)) since)
    (λ early. absurd (false≢true (sym (ap (λ b. (start.before == 0) && b) early ∙ ap (λ b. b && false) none) ∙ begun))))
    (λ some. absurd (false≢true (sym (ap (λ b. b && is_since start.since time) some) ∙ begun)))

-- the line of a message that is chosen among all, if it is in the range
abbrev line_if : ShowForm → Chosen → ℕ → Message → Bool → List ℕ
line_if form chosen number x begun =
    if begun && is_located chosen.only x && is_sought chosen.stocks x && is_typed chosen.types x && is_about chosen.reference x then line_in form number x else []

-- the choice after this message, from this start on
abbrev after_with : Chosen → Message → Start → Chosen
after_with chosen x start = record (chosen_after chosen x) { start = start }

pub lines_of_range : (form : ShowForm) (chosen : Chosen) (number : ℕ) (xs : List Message)
    → chosen_lines form (of_all chosen) number xs ≡ chosen_lines form (of_all chosen) number (before_range chosen.start xs) ++ chosen_lines form chosen number xs
unfolding chosen_lines before_range
lines_of_range form chosen number [] = refl
lines_of_range form chosen number (x ∷ xs) =
    let line : List ℕ = chosen_line form (of_all chosen) number x in
    let others : List Message = before_range (start_after chosen.start (time_of x)) xs in
    let rest : List ℕ = chosen_lines form (chosen_after chosen x) (number + 1) xs in
    let P : List Message → Type 0 = λ before. chosen_lines form (of_all chosen) number (x ∷ xs) ≡ chosen_lines form (of_all chosen) number before ++ chosen_lines form chosen number (x ∷ xs) in
    by_test (is_begun chosen.start (time_of x))
    (λ begun.
    subst P (sym (ap (λ b. if b then [] else x ∷ others) begun))
    (ap (λ (c : Chosen). line ++ chosen_lines form c (number + 1) xs) (sym (ap (after_with chosen x) (begun_after chosen.start (time_of x) begun)))
    ∙ ap (λ l. l ++ rest) (sym (ap (line_if form chosen number x) begun))))
    (λ ahead.
    subst P (sym (ap (λ b. if b then [] else x ∷ others) ahead))
    (ap (λ t. line ++ t) (lines_of_range form (chosen_after chosen x) (number + 1) xs)
    ∙ sym (append_assoc line (chosen_lines form (of_all (chosen_after chosen x)) (number + 1) others) rest)
    ∙ ap (λ l. (line ++ chosen_lines form (of_all (chosen_after chosen x)) (number + 1) others) ++ (l ++ rest)) (sym (ap (line_if form chosen number x) ahead))))

pub range_from : (before : ℕ) (xs : List Message) → before_range (from before None) xs ≡ take before xs
unfolding before_range
range_from zero [] = refl
range_from (suc n) [] = refl
range_from zero (x ∷ xs) = refl
range_from (suc n) (x ∷ xs) =
    let ahead : (suc n == 0) ≡ false = grind (arith, nat_tests) in
    let one_less : suc n - 1 ≡ n = omega arith in
    ap (λ b. if b && true then [] else x ∷ before_range (from (suc n - 1) None) xs) ahead ∙ ap (λ k. x ∷ before_range (from k None) xs) one_less
    ∙ ap (λ ys. x ∷ ys) (range_from n xs)

pub range_since : (since : ℕ) (xs : List Message) → before_range (from 0 (Some since)) xs ≡ before_time since xs
unfolding before_range before_time
range_since since [] = refl
range_since since (x ∷ xs) =
    by_test (is_late (Some since) x)
    (λ late. ap (λ b. if b then [] else x ∷ before_range (from 0 (if b then None else Some since)) xs) late ∙ sym (ap (λ b. if b then [] else x ∷ before_time since xs) late))
    (λ early.
    ap (λ b. if b then [] else x ∷ before_range (from 0 (if b then None else Some since)) xs) early
    ∙ ap (λ ys. x ∷ ys) (range_since since xs)
    ∙ sym (ap (λ b. if b then [] else x ∷ before_time since xs) early))
