-- The names of a list, one after another.
use Rattle.std.proofs.Common.{◌≡◌, ℕ, Bool, ◌||◌, List, [], ◌∷◌, ◌++◌, map, refl, sym, ap, ◌∙◌, append_assoc}
use Rattle.std.specs.List.{list_any}
use Rattle.itch_commands.specs.Stocks.{names_of}
use Rattle.itch_commands.proofs.LocateLists.{Lacks}
use Rattle.itch_commands.proofs.StockNames.{one_name, first_name}

-- a test of one of the values of a mapped list
pub any_in : {X Y : Type 0} (p : Y → Bool) (f : X → Y) (xs : List X) → list_any p (map f xs) ≡ list_any (λ x. p (f x)) xs
any_in p f [] = refl
any_in p f (x ∷ xs) = ap (λ b. p (f x) || b) (any_in p f xs)

-- these names were taken, and those of the rest remain
abbrev pub Named : List ℕ → List (List ℕ) → List ℕ → Type 0
Named text taken rest = names_of text ≡ taken ++ names_of rest

pub named_on : (text : List ℕ) (taken : List (List ℕ)) (rest first more : List ℕ) → Named text taken rest → rest ≡ first ++ 44 ∷ more → Lacks 44 first
    → Named text (taken ++ first ∷ []) more
named_on text taken rest first more named is lacks =
    named ∙ ap (λ names. taken ++ names) (ap names_of is ∙ first_name first more lacks) ∙ sym (append_assoc taken (first ∷ []) (names_of more))

pub named_last : (text : List ℕ) (taken : List (List ℕ)) (rest : List ℕ) → Named text taken rest → Lacks 44 rest → taken ++ rest ∷ [] ≡ names_of text
named_last text taken rest named lacks = sym (named ∙ ap (λ names. taken ++ names) (one_name rest lacks))
