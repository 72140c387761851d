-- Applying one message, and those after it.
use Rattle.std.proofs.Common.{◌≡◌, ℕ, ◌+◌, ◌==◌, true, false, not, List, [], ◌∷◌, length, Option, Some, None, Result, Ok, Err, refl, sym, ap, ◌∙◌, subst, arith}
use Rattle.std.proofs.lemmas.Bool.Decides.{nat_tests}
use Rattle.std.specs.FinMap as map
use Rattle.itch_market.specs.Content.{Content}
use Rattle.itch_join.specs.declared.state.Stopped.{Stopped}
use Rattle.itch_join.specs.Rules.{Rules}
use Rattle.itch_join.specs.Applying.{Front, advanced, at_hand, AppliesOne, EndsBy, Applies, is_empty}

-- a front whose market and next message are given by equations
pub applied : (R : Rules) (a b c : Front) (hand : Option (List ℕ)) (p : List ℕ) (ps : List (List ℕ)) (ending : Result (Unit {0}) Stopped) (n : Content)
    → hand ≡ Some p → AppliesOne R a.market p (Ok tt) n → c ≡ record { wait = map.remove a.wait a.next; next = a.next + 1; market = n }
    → Applies R c (at_hand c) ps ending b → Applies R a hand (p ∷ ps) ending b
applied R a b c hand p ps ending n there acts is rest =
    let same : c ≡ advanced R a p = is ∙ ap (λ (m : Content). let f : Front = record { wait = map.remove a.wait a.next; next = a.next + 1; market = m } in f) acts.1 in
    (there, acts.0, subst (λ (f : Front). Applies R f (at_hand f) ps ending b) same rest)

-- applying stops at the next message
pub stopped : (R : Rules) (a b : Front) (hand : Option (List ℕ)) (p : List ℕ) (why : Stopped) (n : Content)
    → hand ≡ Some p → AppliesOne R a.market p (Err why) n → b ≡ record a { market = n } → Applies R a hand [] (Err why) b
stopped R a b hand p why n there acts is =
    (subst (λ h. EndsBy R a.market h (Err why)) (sym there) acts.0, is ∙ ap (λ (m : Content). let f : Front = record a { market = m } in f) acts.1)

-- there is no next message
pub nothing_left : (R : Rules) (a : Front) → at_hand a ≡ None → Applies R a (at_hand a) [] (Ok tt) a
nothing_left R a none = (subst (λ h. EndsBy R a.market h (Ok tt)) (sym none) tt, refl)

-- each applied message has a number
pub counted : (R : Rules) (a b : Front) (hand : Option (List ℕ)) (ps : List (List ℕ)) (ending : Result (Unit {0}) Stopped) → Applies R a hand ps ending b → b.next ≡ a.next + length ps
counted R a b hand [] ending (ends, is) = let e : b.next ≡ a.next = ap (λ (f : Front). f.next) is in omega arith
counted R a b hand (p ∷ ps) ending (there, none, rest) = let e = counted R (advanced R a p) b (at_hand (advanced R a p)) ps ending rest in omega arith

pub was_any : (R : Rules) (a b : Front) (hand : Option (List ℕ)) (ps : List (List ℕ)) (ending : Result (Unit {0}) Stopped) → Applies R a hand ps ending b → not (b.next == a.next) ≡ not (is_empty ps)
was_any R a b hand [] ending h = let e = counted R a b hand [] ending h in let same : (b.next == a.next) ≡ true = grind (arith, nat_tests) in ap not same
was_any R a b hand (p ∷ ps) ending h = let e = counted R a b hand (p ∷ ps) ending h in let other : (b.next == a.next) ≡ false = grind (arith, nat_tests) in ap not other
