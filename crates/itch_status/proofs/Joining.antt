-- Pieces of text, one after another.
use Rattle.std.proofs.Common.{◌≡◌, ℕ, List, ◌++◌, ap, ◌∙◌}
use Rattle.std.proofs.lemmas.List.{append_assoc, append-nil}

pub ruleset joining = (append_assoc, append-nil)

-- three pieces, one after another
pub three : (start a b c x y z : List ℕ) → x ≡ start ++ a → y ≡ x ++ b → z ≡ y ++ c → z ≡ start ++ (a ++ (b ++ c))
three start a b c x y z first second third =
    third ∙ ap (λ t. t ++ c) (second ∙ ap (λ t. t ++ b) first) ∙ append_assoc (start ++ a) b c ∙ append_assoc start a (b ++ c)
