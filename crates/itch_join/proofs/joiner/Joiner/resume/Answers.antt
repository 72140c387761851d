use Rattle.std.proofs.Common.{◌≡◌, Ok, Err, Some, None, false, refl, sym, ap, ◌∙◌, subst, rules}
use Rattle.itch_join.specs.Positions.{Position}
use Rattle.itch_market.specs.Wanted.{has}
use Rattle.itch_join.specs.Rules.{rules_of}
use Rattle.itch_join.specs.States.{Joining, State}
use Rattle.itch_join.specs.Steps.{ResumeBy}
use Rattle.itch_join.specs.Applying.{front_of, at_hand, result_by, halt_of, fault_of}
use Rattle.itch_join.specs.HalfReads.{half_of}
use Rattle.itch_join.proofs.CatchUps.{went, resumed}
use Rattle.itch_join.proofs.joiner.Joiner.resume.Goals as goal
use Rattle.itch_join.proofs.joiner.Joiner.resume.Goals.{in-Ok, in-Err}

pub returns-clause-step : goal.returns-clause-step
returns-clause-step g c =
    let i = c.self.inside in
    let R = rules_of (has i.set) in
    let s : State = record { wait = i.wait; half = half_of i.half; joined = i.joined; halt = i.halt } in
    let ending = c.drain-ended.result in
    let j = c.drain-ended.new.position in
    let number_is : c.position.inside.next ≡ j.next = ap (λ (k : Position). k.next) c.position.view_is in
    let first = c.in-Some-joined.position in
    let none : s.halt ≡ None = search rules in
    let there : s.joined ≡ Some first = search rules in
    let now : State = record { wait = c.drain-ended.new.wait; half = half_of i.half; joined = Some j; halt = c.halt_of-self-inside.result } in
    subst (λ (k : Joining). ResumeBy (rules_of (has k.set)) k.state k.state.halt c.match-ended.result now) c.self.view_is
    (resumed R s now first c.match-ended.result none there
    (went R s.half s.half (front_of s first) c.drain-ended.new.wait j (at_hand (front_of s first)) Some (λ any. false) ending c.match-ended.result c.halt_of-self-inside.result c.drain-ended.ensures.0
    c.drain-ended.ensures.1
    refl
    (c.halt_of-self-inside.ensures ∙ ap (halt_of ending) number_is)
    (elim c.match-ended.branch [
      | in-Ok w ↦ w.result-is ∙ ap (λ n. Ok (Some n)) number_is ∙ ap (λ e. result_by Some false e j.next) (sym w.in-Ok.is)
      | in-Err w ↦ w.result-is ∙ ap Err (w.fault_of.ensures ∙ ap (fault_of _ w.in-Err.stopped) number_is) ∙ ap (λ e. result_by Some false e j.next) (sym w.in-Err.is)
    ])))
