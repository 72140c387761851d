-- A client's answers to packets, and the messages in them: the first answer, and the later ones.
use Rattle.std.proofs.Common.{◌≡◌, ℕ, ◌+◌, Bool, true, false, List, [], ◌∷◌, refl, sym, ap}
use Rattle.itch_soup.specs.declared.client.ClientAct.{ClientAct}
use Rattle.itch_soup.specs.declared.client.ClientAct.TheVariants as act
use Rattle.itch_soup.specs.declared.fault.SoupFault.{SoupFault}
use Rattle.itch_soup.specs.Fetching.{noted, numbered, Hears}

-- the answers contain these messages, before the login was accepted or after it
abbrev pub Says : Bool → ℕ → List ClientAct → List (List ℕ) → Type 0
Says false n acts qs = Hears acts qs
Says true n acts qs = acts ≡ numbered n qs

-- the first answer, and those after it
abbrev pub Next : Bool → ℕ → ClientAct → List ClientAct → List (List ℕ) → Type 0
Next at n act.Nothing acts qs = Says at n acts qs
Next false n (act.Accepted first) acts qs = (first ≡ 1) × Says true 1 acts qs
Next true n (act.Accepted first) acts qs = ⊥
Next false n (act.Data k p) acts qs = ⊥
Next true n (act.Data k p) acts qs = (rest : List (List ℕ)) × (qs ≡ p ∷ rest) × Says true (n + 1) acts rest
Next at n (act.Rejected code) acts qs = ⊥
Next at n act.Ended acts qs = ⊥
Next at n (act.Fault f) acts qs = ⊥

decided_data : (n k : ℕ) (p : List ℕ) (acts : List ClientAct) (qs : List (List ℕ)) → act.Data k p ∷ acts ≡ numbered n qs → Next true n (act.Data k p) acts qs
decided_data n k p acts [] h = let no_one : ⊥ = cc in absurd no_one
decided_data n k p acts (q ∷ qs) h =
    let same : p ≡ q = cc in
    let later : acts ≡ numbered (n + 1) qs = cc in
    (qs, ap (λ p. p ∷ qs) (sym same), later)

numbered_accepted : (n first : ℕ) (acts : List ClientAct) (qs : List (List ℕ)) → act.Accepted first ∷ acts ≡ numbered n qs → ⊥
numbered_accepted n first acts [] h = let no_one : ⊥ = cc in no_one
numbered_accepted n first acts (q ∷ qs) h = let no_one : ⊥ = cc in no_one

numbered_rejected : (n code : ℕ) (acts : List ClientAct) (qs : List (List ℕ)) → act.Rejected code ∷ acts ≡ numbered n qs → ⊥
numbered_rejected n code acts [] h = let no_one : ⊥ = cc in no_one
numbered_rejected n code acts (q ∷ qs) h = let no_one : ⊥ = cc in no_one

numbered_ended : (n : ℕ) (acts : List ClientAct) (qs : List (List ℕ)) → act.Ended ∷ acts ≡ numbered n qs → ⊥
numbered_ended n acts [] h = let no_one : ⊥ = cc in no_one
numbered_ended n acts (q ∷ qs) h = let no_one : ⊥ = cc in no_one

numbered_fault : (n : ℕ) (f : SoupFault) (acts : List ClientAct) (qs : List (List ℕ)) → act.Fault f ∷ acts ≡ numbered n qs → ⊥
numbered_fault n f acts [] h = let no_one : ⊥ = cc in no_one
numbered_fault n f acts (q ∷ qs) h = let no_one : ⊥ = cc in no_one

pub next_heard : (at : Bool) (n : ℕ) (answer : ClientAct) (acts : List ClientAct) (qs : List (List ℕ)) → Says at n (noted answer acts) qs → Next at n answer acts qs
next_heard at n act.Nothing acts qs h = h
next_heard false n (act.Accepted first) acts qs h = let one : first ≡ 1 = cc in let later : acts ≡ numbered 1 qs = cc in (one, later)
next_heard true n (act.Accepted first) acts qs h = numbered_accepted n first acts qs h
next_heard false n (act.Data k p) acts qs h = let no_one : ⊥ = cc in no_one
next_heard true n (act.Data k p) acts qs h = decided_data n k p acts qs h
next_heard false n (act.Rejected code) acts qs h = let no_one : ⊥ = cc in no_one
next_heard true n (act.Rejected code) acts qs h = numbered_rejected n code acts qs h
next_heard false n act.Ended acts qs h = let no_one : ⊥ = cc in no_one
next_heard true n act.Ended acts qs h = numbered_ended n acts qs h
next_heard false n (act.Fault f) acts qs h = let no_one : ⊥ = cc in no_one
next_heard true n (act.Fault f) acts qs h = numbered_fault n f acts qs h

pub nothing_heard : (at : Bool) (n : ℕ) (qs : List (List ℕ)) → Says at n [] qs → qs ≡ []
nothing_heard false n qs h = h
nothing_heard true n [] h = refl
nothing_heard true n (q ∷ qs) h = let no_one : ⊥ = cc in absurd no_one
