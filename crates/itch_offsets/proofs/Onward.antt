-- The lines and the blocks after the messages before a range.
use Rattle.std.proofs.Common.{◌≡◌, ℕ, ◌+◌, ◌&&◌, Bool, false, List, [], ◌∷◌, ◌++◌, length, drop, map, refl, sym, ap, ◌∙◌, arith, if◌then◌else◌}
use Rattle.itch_book.proofs.Lists.{by_test}
use Rattle.itch_codec.specs.Headers.{time_of}
use Rattle.itch_codec.specs.Messages.{message_of}
use Rattle.itch_codec.specs.declared.message.Message.{Message}
use Rattle.itch_commands.specs.Choices.{Chosen, chosen_after, chosen_lines, chosen_past, is_about, is_located, is_typed, line_in}
use Rattle.itch_commands.specs.Cuts.{is_of_stocks, kept_of, stock_of}
use Rattle.itch_commands.specs.Lookup.{is_sought}
use Rattle.itch_commands.specs.Starts.{before_range, is_begun, start_after}
use Rattle.itch_commands.specs.declared.form.ShowForm.{ShowForm}
use Rattle.itch_commands.specs.declared.start.Start.{Start}

-- the messages before a range, by whether it has begun at the first one
abbrev pub before_if : Start → Message → List Message → Bool → List Message
before_if start x xs begun = if begun then [] else x ∷ before_range (start_after start (time_of x)) xs

pub not_begun : (start : Start) (x : Message) (xs : List Message) → before_range start (x ∷ xs) ≡ x ∷ xs → is_begun start (time_of x) ≡ false
unfolding before_range
not_begun start x xs all =
    by_test (is_begun start (time_of x))
    (λ begun.
    let none : 0 ≡ length (x ∷ xs) = ap length (sym (ap (before_if start x xs) begun) ∙ all) in
    absurd (omega (arith, none)))
    (λ ahead. ahead)

pub rest_before : (start : Start) (x : Message) (xs : List Message) → before_range start (x ∷ xs) ≡ x ∷ xs → before_range (start_after start (time_of x)) xs ≡ xs
unfolding before_range
rest_before start x xs all = ap (drop 1) (sym (ap (before_if start x xs) (not_begun start x xs all)) ∙ all)

-- the line of a message that is chosen among all, if it is in the range
abbrev line_if : ShowForm → Chosen → ℕ → Message → Bool → List ℕ
line_if form chosen number x begun =
    if begun && is_located chosen.only x && is_sought chosen.stocks x && is_typed chosen.types x && is_about chosen.reference x then line_in form number x else []

pub lines_on : (form : ShowForm) (chosen : Chosen) (number : ℕ) (before after : List Message) → before_range chosen.start before ≡ before
    → chosen_lines form chosen number (before ++ after) ≡ chosen_lines form (chosen_past chosen before) (number + length before) after
unfolding chosen_lines chosen_past
lines_on form chosen number [] after all =
    let same : number ≡ number + 0 = omega arith in
    ap (λ n. chosen_lines form chosen n after) same
lines_on form chosen number (x ∷ xs) after all =
    let same : number + 1 + length xs ≡ number + length (x ∷ xs) = omega arith in
    ap (λ l. l ++ chosen_lines form (chosen_after chosen x) (number + 1) (xs ++ after)) (ap (line_if form chosen number x) (not_begun chosen.start x xs all))
    ∙ lines_on form (chosen_after chosen x) (number + 1) xs after (rest_before chosen.start x xs all)
    ∙ ap (λ n. chosen_lines form (chosen_past (chosen_after chosen x) xs) n after) same

-- the blocks from a payload on, if its message is in the range
abbrev kept_if : Chosen → List ℕ → List (List ℕ) → Bool → List (List ℕ)
kept_if chosen p ps begun =
    let x = message_of p in
    if begun && is_of_stocks chosen x (stock_of x) && is_typed chosen.types x && is_about chosen.reference x
    then p ∷ kept_of (chosen_after chosen x) ps
    else kept_of (chosen_after chosen x) ps

pub kept_on : (chosen : Chosen) (before after : List (List ℕ)) → before_range chosen.start (map message_of before) ≡ map message_of before
    → kept_of chosen (before ++ after) ≡ kept_of (chosen_past chosen (map message_of before)) after
unfolding kept_of chosen_past
kept_on chosen [] after all = refl
kept_on chosen (p ∷ ps) after all =
    let x : Message = message_of p in
    ap (kept_if chosen p (ps ++ after)) (not_begun chosen.start x (map message_of ps) all)
    ∙ kept_on (chosen_after chosen x) ps after (rest_before chosen.start x (map message_of ps) all)
