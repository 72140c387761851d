use Rattle.std.proofs.Common.{◌≡◌, ◌==◌, ◌||◌, not, Ok, Err, Some, is_some, refl, sym, ap, ◌∙◌, subst, rules}
use Rattle.std.specs.FinMap as map
use Rattle.itch_join.specs.declared.outcome.Live.TheVariants.{Applied}
use Rattle.itch_join.specs.Positions.{Position}
use Rattle.itch_market.specs.Wanted.{has}
use Rattle.itch_join.specs.Rules.{rules_of}
use Rattle.itch_join.specs.States.{Joining, State}
use Rattle.itch_join.specs.Steps.{NextBy}
use Rattle.itch_join.specs.Applying.{front, front_of, result_by, halt_of, fault_of, is_empty}
use Rattle.itch_join.specs.HalfReads.{half_of}
use Rattle.itch_join.proofs.CatchUps.{went, nexted, taken_first, taken_then, is_next}
use Rattle.itch_join.proofs.AppliedMessages.{was_any}
use Rattle.itch_join.proofs.joiner.Joiner.apply_next.Goals as goal
use Rattle.itch_join.proofs.joiner.Joiner.apply_next.Goals.{in-Ok, in-Err, then-waits, else-waits}

pub returns-clause-goes : goal.returns-clause-goes
returns-clause-goes g c payload decoded =
    let i = c.self.inside in
    let R = rules_of (has i.set) in
    let s : State = record { wait = i.wait; half = half_of i.half; joined = i.joined; halt = i.halt } in
    let ending = c.advance-ended.result in
    let j = c.advance-ended.new.position in
    let number_is : c.position.inside.next ≡ j.next = ap (λ (k : Position). k.next) c.position.view_is in
    let first = c.in-Some.position in
    let there : s.joined ≡ Some first = search rules in
    let number : first.next ≡ c.args.number = is_next s.joined first c.args.number there (rw (← c.self.view_is) at c.requires.joined) in
    let (ps, applies) = c.advance-ended.ensures payload decoded in
    let any : not (j.next == first.next) ≡ not (is_empty ps) =
    was_any R (front_of s first) (front c.advance-ended.new.wait j) (Some payload) ps ending applies in
    let waits : c.has-waits.result ≡ is_some (map.get s.wait first.next) = c.has-waits.ensures ∙ ap (λ n. is_some (map.get s.wait n)) (sym number) in
    let taken = is_some (map.get s.wait first.next) || not (is_empty ps) in
    let now : State = record { wait = c.advance-ended.new.wait; half = half_of i.half; joined = Some j; halt = c.halt_of-self-inside.result } in
    subst (λ (k : Joining). NextBy (rules_of (has k.set)) k.state c.args.number payload k.state.joined c.match-ended.result now) c.self.view_is
    (nexted R s now first c.args.number payload c.match-ended.result there
    (went R s.half s.half (front_of s first) c.advance-ended.new.wait j (Some payload) Applied (λ any. is_some (map.get s.wait first.next) || any) ending c.match-ended.result c.halt_of-self-inside.result ps
    applies
    refl
    (c.halt_of-self-inside.ensures ∙ ap (halt_of ending) number_is)
    (elim c.match-ended.branch [
      | in-Ok w ↦ w.result-is ∙ ap (λ n. Ok (Applied n)) number_is ∙ ap (λ e. result_by Applied taken e j.next) (sym w.in-Ok.is)
      | in-Err w ↦
          let is : w.if-waits.taken ≡ taken =
          elim w.if-waits.branch [
            | then-waits w' ↦ taken_first _ _ _ (sym waits ∙ w'.if-waits.true) (w'.taken-is ∙ w'.if-waits.true)
            | else-waits w' ↦ taken_then _ _ _ (sym waits ∙ w'.if-waits.false) (w'.taken-is ∙ ap (λ n. not (n == c.args.number)) number_is ∙ ap (λ n. not (j.next == n)) (sym number) ∙ any)
          ] in
          w.result-is ∙ ap Err (w.fault_of.ensures ∙ ap (fault_of _ w.in-Err.stopped) number_is) ∙ ap (λ t. result_by Applied t (Err w.in-Err.stopped) j.next) is ∙ ap (λ e. result_by Applied taken e j.next) (sym w.in-Err.is)
    ])))
