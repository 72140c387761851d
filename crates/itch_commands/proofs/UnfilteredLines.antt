-- The lines shown without filters, and without following an order.
use Rattle.std.proofs.Common.{◌≡◌, ℕ, ◌+◌, List, [], ◌∷◌, ◌++◌, Option, None, option_map, refl, sym, ap, ◌∙◌}
use Rattle.itch_codec.specs.Headers.{time_of}
use Rattle.itch_codec.specs.Lines.{line_of}
use Rattle.itch_codec.specs.declared.message.Message.{Message}
use Rattle.itch_commands.specs.Choices.{Chosen, everything, renamed, chosen_after, chosen_past, chosen_lines, lines_of}
use Rattle.itch_commands.specs.Starts.{first, start_after}
use Rattle.itch_commands.specs.declared.start.Start.{Start}
use Rattle.itch_commands.specs.Lookup.{Lookup, lookup_after}
use Rattle.itch_commands.specs.declared.form.ShowForm.TheVariants.{Text}

pub all_lines : (number : ℕ) (messages : List Message) → chosen_lines Text everything number messages ≡ lines_of number messages
unfolding chosen_lines lines_of
all_lines number [] = refl
all_lines number (x ∷ xs) = ap (λ t. line_of number x ++ t) (all_lines (number + 1) xs)

-- the choice with this start, these stocks and this order
abbrev with : Chosen → Start → Option Lookup → Option ℕ → Chosen
with chosen start stocks reference = record { start = start; only = chosen.only; stocks = stocks; types = chosen.types; reference = reference }

unfollowed : (chosen : Chosen) (x : Message) → chosen.start ≡ first → chosen.reference ≡ None → chosen.stocks ≡ None → chosen_after chosen x ≡ chosen
unfollowed chosen x begun none nor =
    ap (λ b. with chosen (start_after b (time_of x)) (option_map (lookup_after x) chosen.stocks) (option_map (renamed x) chosen.reference)) begun
    ∙ ap (λ r. with chosen first (option_map (lookup_after x) chosen.stocks) (option_map (renamed x) r)) none
    ∙ ap (λ s. with chosen first (option_map (lookup_after x) s) None) nor
    ∙ sym (ap (λ b. with chosen b chosen.stocks chosen.reference) begun ∙ ap (λ s. with chosen first s chosen.reference) nor ∙ ap (λ r. with chosen first None r) none)

pub same_choice : (chosen : Chosen) (messages : List Message) → chosen.start ≡ first → chosen.reference ≡ None → chosen.stocks ≡ None
    → chosen_past chosen messages ≡ chosen
unfolding chosen_past
same_choice chosen [] begun none nor = refl
same_choice chosen (x ∷ xs) begun none nor =
    let same = unfollowed chosen x begun none nor in
    same_choice (chosen_after chosen x) xs (ap (λ c. c.start) same ∙ begun) (ap (λ c. c.reference) same ∙ none) (ap (λ c. c.stocks) same ∙ nor) ∙ same
