-- The state after a call that applied messages up to the first number that is missing.
use Rattle.std.proofs.Common.{◌≡◌, ℕ, ◌||◌, Bool, true, false, not, List, Option, Some, None, is_some, Result, sym, ap, ◌∙◌, subst}
use Rattle.std.specs.Option.{option_map}
use Rattle.std.specs.FinMap as map
use Rattle.itch_join.specs.declared.fault.JoinFault.{JoinFault}
use Rattle.itch_join.specs.declared.outcome.Live.{Live}
use Rattle.itch_join.specs.declared.outcome.Live.TheVariants.{Applied}
use Rattle.itch_join.specs.declared.state.Stopped.{Stopped}
use Rattle.itch_join.specs.declared.state.Halt.{Halt}
use Rattle.itch_join.specs.Positions.{Position}
use Rattle.itch_join.specs.Rules.{Rules}
use Rattle.itch_join.specs.States.{Wait, HalfRead, State}
use Rattle.itch_join.specs.Applying.{Front, front, front_of, at_hand, Applies, is_empty, halt_of, result_by, CatchesUp}
use Rattle.itch_join.specs.Steps.{NextBy, Resumes, ResumeBy}

pub went : {T : Type 0} (R : Rules) (half h : HalfRead) (a : Front) (wait : Wait) (j : Position) (hand : Option (List ℕ)) (done : ℕ → T) (taken : Bool → Bool) (ending : Result (Unit {0}) Stopped)
    (result : Result T JoinFault) (halt : Option Halt) (ps : List (List ℕ))
    → Applies R a hand ps ending (front wait j) → h ≡ half → halt ≡ halt_of ending j.next → result ≡ result_by done (taken (not (is_empty ps))) ending j.next
    → CatchesUp R half a hand done taken result (record { wait = wait; half = h; joined = Some j; halt = halt })
went R half h a wait j hand done taken ending result halt ps applies same stops answer = record {
  payloads = ps;
  ending = ending;
  front = front wait j;
  applies = applies;
  returned = answer;
  left = λ i. record { wait = wait; half = same i; joined = Some j; halt = stops i };
}

pub resumed : (R : Rules) (s now : State) (j : Position) (result : Result (Option ℕ) JoinFault) → s.halt ≡ None → s.joined ≡ Some j
    → CatchesUp R s.half (front_of s j) (at_hand (front_of s j)) Some (λ any. false) result now → ResumeBy R s s.halt result now
resumed R s now j result none there goes =
    subst (λ (o : Option Halt). ResumeBy R s o result now) (sym none) (subst (λ (o : Option Position). Resumes R s o result now) (sym there) goes)

pub nexted : (R : Rules) (s now : State) (j : Position) (number : ℕ) (payload : List ℕ) (result : Result Live JoinFault) → s.joined ≡ Some j
    → CatchesUp R s.half (front_of s j) (Some payload) Applied (λ any. is_some (map.get s.wait j.next) || any) result now → NextBy R s number payload s.joined result now
nexted R s now j number payload result there goes = subst (λ (o : Option Position). NextBy R s number payload o result now) (sym there) goes

-- a message was applied or is waiting
pub taken_first : (a b x : Bool) → a ≡ true → x ≡ true → x ≡ (a || b)
taken_first a b x first is = is ∙ ap (λ c. c || b) (sym first)

pub taken_then : (a b x : Bool) → a ≡ false → x ≡ b → x ≡ (a || b)
taken_then a b x first is = is ∙ ap (λ c. c || b) (sym first)

pub is_next : (o : Option Position) (j : Position) (number : ℕ) → o ≡ Some j → option_map (λ j. j.next) o ≡ Some number → j.next ≡ number
is_next o j number there next = let e : Some j.next ≡ Some number = ap (option_map (λ (k : Position). k.next)) (sym there) ∙ next in cc
