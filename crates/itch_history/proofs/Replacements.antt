-- The numbers of an order, by the list of its replacements.
use Rattle.std.proofs.Common.{◌≡◌, ℕ, zero, suc, ◌+◌, ◌-◌, ◌<◌, ◌≤◌, List, [], ◌∷◌, ◌++◌, length, drop, get_or, Option, None, Some, refl, ap, ◌∙◌, arith}
use Rattle.itch_codec.specs.declared.message.Message.{Message}
use Rattle.itch_history.specs.Histories.{before_replacement, first_by, first_number, listed, replacement_of, replacements_of}
use Rattle.itch_history.specs.declared.chain.Replacement.{Replacement}

first_listed : (r : Option Replacement) (rest : List Replacement) (number : ℕ) → first_by (listed r ++ rest) number ≡ before_replacement r (first_by rest number)
unfolding first_by
first_listed None rest number = refl
first_listed (Some r) rest number = refl

-- the replacements in messages give the same number as the messages
pub first_same : (messages : List Message) (number : ℕ) → first_by (replacements_of messages) number ≡ first_number messages number
unfolding first_by first_number replacements_of
first_same [] number = refl
first_same (message ∷ messages) number =
    first_listed (replacement_of message) (replacements_of messages) number ∙ ap (before_replacement (replacement_of message)) (first_same messages number)

pub one_replacement : (message : Message) (messages : List Message) → replacements_of (message ∷ messages) ≡ listed (replacement_of message) ++ replacements_of messages
unfolding replacements_of
one_replacement message messages = refl

pub none_replaced : replacements_of [] ≡ []
unfolding replacements_of
none_replaced = refl

-- nothing is gone back over yet
pub back_begun : (rs : List Replacement) (number : ℕ) → number ≡ first_by (drop (length rs) rs) number
unfolding first_by
back_begun [] number = refl
back_begun (r ∷ rs) number = back_begun rs number

-- one more replacement is gone back over
pub back_more : (rs : List Replacement) (default : Replacement) (index number : ℕ) → index < length rs
    → before_replacement (Some (get_or rs index default)) (first_by (drop (index + 1) rs) number) ≡ first_by (drop index rs) number
unfolding first_by
back_more [] default index number within = absurd (omega (arith, within))
back_more (r ∷ rs) default zero number within = refl
back_more (r ∷ rs) default (suc index) number within =
    let same : suc index + 1 ≡ suc (index + 1) = omega arith in
    ap (λ k. before_replacement (Some (get_or rs index default)) (first_by (drop k (r ∷ rs)) number)) same ∙ back_more rs default index number (omega (arith, within))

pub back_on : (rs : List Replacement) (default : Replacement) (index number first : ℕ) → 0 < index → index ≤ length rs → first ≡ first_by (drop index rs) number
    → before_replacement (Some (get_or rs (index - 1) default)) first ≡ first_by (drop (index - 1) rs) number
back_on rs default index number first some within is =
    let same : index ≡ index - 1 + 1 = omega (arith, some) in
    ap (before_replacement (Some (get_or rs (index - 1) default))) (is ∙ ap (λ k. first_by (drop k rs) number) same)
    ∙ back_more rs default (index - 1) number (omega (arith, some, within))
