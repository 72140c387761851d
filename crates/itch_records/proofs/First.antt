-- A new joiner after End of Snapshot.
use Rattle.std.proofs.Common.{◌≡◌, ℕ, Bool, true, List, [], ◌∷◌, Option, None, Some, Result, Ok, Err, sym, ap, subst, ◌∙◌, arith}
use Rattle.std.specs.Ordering.{nat_cmp}
use Rattle.std.specs.FinMap as map
use Rattle.itch_codec.specs.Messages.{spelling}
use Rattle.itch_codec.specs.Widths.{IsMessage}
use Rattle.itch_codec.specs.declared.message.Message.TheVariants as is
use Rattle.itch_codec.proofs.Spelling.{fault-spelling, message_of-spelling}
use Rattle.itch_market.specs.Content.{empty}
use Rattle.itch_snapshot.specs.TakenMessages.{closing_number, number_by, number_in}
use Rattle.itch_join.proofs.Maps.{get-from}
use Rattle.itch_join.specs.declared.fault.JoinFault.{JoinFault}
use Rattle.itch_join.specs.declared.outcome.Snap.{Snap}
use Rattle.itch_join.specs.declared.outcome.Snap.TheVariants.{Joined}
use Rattle.itch_join.specs.declared.state.Stopped.{Stopped}
use Rattle.itch_join.specs.Applying.{Applies, CatchesUp, EndsBy, Front, at_hand, result_by, standing}
use Rattle.itch_join.specs.Rules.{Rules, rules_of}
use Rattle.itch_join.specs.States.{State, new, unread}
use Rattle.itch_join.specs.Steps.{CallSnapshot, SnapshotBy, Step, payload_case, started}

-- the joiner before and after the first message
abbrev first : Front
first = started new 1 empty

nothing_waits : at_hand first ≡ None
nothing_waits = get-from map.empty 1 1 ∙ map.get-empty nat_cmp 1

-- it has joined before the first message
abbrev pub Begins : Result Snap JoinFault → State → Type 0
Begins result s = (result ≡ Ok (Joined 1)) × (s.joined ≡ Some (record { next = 1; market = empty })) × (s.halt ≡ None)

module _ (R : Rules) where
  begins : (payloads : List (List ℕ)) (ending : Result (Unit {0}) Stopped) (front : Front) (result : Result Snap JoinFault) (s : State) → Applies R first (at_hand first) payloads ending front
      → result ≡ result_by Joined true ending front.next → s ≡ standing unread ending front → Begins result s
  begins [] (Ok done) front result s applies returned left = (
    returned ∙ ap (λ (f : Front). Ok (Joined f.next)) applies.1,
    ap (λ (x : State). x.joined) left ∙ ap (λ (f : Front). Some (record { next = f.next; market = f.market })) applies.1,
    ap (λ (x : State). x.halt) left,
  )
  begins [] (Err stopped) front result s applies returned left = absurd (subst (λ h. EndsBy R empty h (Err stopped)) nothing_waits applies.0)
  begins (p ∷ ps) ending front result s applies returned left = let never : None ≡ Some p = sym nothing_waits ∙ applies.0 in let no_one : ⊥ = cc in absurd no_one

  joins : (payload : List ℕ) (number : Option ℕ) (result : Result Snap JoinFault) (s : State) → number ≡ Some 1
      → SnapshotBy R new payload (payload_case 0 empty number (R.refused empty payload)) result s → Begins result s
  joins payload number result s is step =
      let caught : CatchesUp R unread first (at_hand first) Joined (λ any. true) result s
      = subst (λ n. SnapshotBy R new payload (payload_case 0 empty n (R.refused empty payload)) result s) is step in
      begins caught.payloads caught.ending caught.front result s caught.applies caught.returned caught.left

-- a new joiner has joined after this message
pub joins_at_first : (wanted : ℕ → Bool) (cap : ℕ) (old s : State) (payload : List ℕ) (result : Result Snap JoinFault) → Step (rules_of wanted) cap old (CallSnapshot payload result) s → old ≡ new
    → closing_number payload ≡ Some 1 → Begins result s
joins_at_first wanted cap old s payload result step is number =
    joins (rules_of wanted) payload (closing_number payload) result s number (subst (λ x. Step (rules_of wanted) cap x (CallSnapshot payload result) s) is step)

-- the payload of an End of Snapshot without a message before it
pub ends_at_first : (payload : List ℕ) (next : ℕ) → payload ≡ spelling (is.End next) → next ≡ 1 → closing_number payload ≡ Some 1
ends_at_first payload next same first =
    let number : IsMessage (is.End 1) = record { low = omega arith; high = omega arith } in
    let p = spelling (is.End 1) in
    ap closing_number (same ∙ ap (λ n. spelling (is.End n)) first) ∙ ap (λ f. number_by f p) (fault-spelling (is.End 1) number) ∙ ap number_in (message_of-spelling (is.End 1) number)
