use Rattle.std.proofs.Common.{◌≡◌, Ok, Err, true, not, nat_lt, sym, ap, ◌∙◌, subst}
use Rattle.std.specs.FinMap as map
use Rattle.itch_join.specs.declared.outcome.Snap.TheVariants.{Joined}
use Rattle.itch_market.specs.Wanted.{has}
use Rattle.itch_join.specs.Rules.{rules_of}
use Rattle.itch_join.specs.Positions.{Position}
use Rattle.itch_join.specs.States.{Wait, Joining, unread}
use Rattle.itch_join.specs.Steps.{started}
use Rattle.itch_join.specs.Applying.{at_hand, result_by, halt_of, fault_of}
use Rattle.itch_join.specs.Applying.{Drains}
use Rattle.itch_join.proofs.CatchUps.{went}
use Rattle.itch_join.proofs.joiner.Joiner.start.Goals as goal
use Rattle.itch_join.proofs.joiner.Joiner.start.Goals.{in-Ok, in-Err}

pub returns-clause-goes : goal.returns-clause-goes
returns-clause-goes g c =
    let s = c.args.self.now.state in
    let R = rules_of (has c.args.self.now.set) in
    let ending = c.drain-ended.result in
    let j = c.drain-ended.new.position in
    let number_is : c.position.inside.next ≡ j.next = ap (λ (k : Position). k.next) c.position.view_is in
    let first : Position = record { next = c.args.next; market = c.args.market } in
    let begun = started s c.args.next c.args.market in
    let kept : c.keep_from.new.self ≡ begun.wait = c.keep_from.ensures ∙ ap (λ (k : Joining). map.retain_keys k.state.wait (λ i. not (nat_lt i c.args.next))) c.self.view_is in
    let ran = subst (λ (w : Wait). Drains R w first ending c.drain-ended.new.wait j) kept
    (subst (λ (k : Joining). Drains (rules_of (has k.set)) c.keep_from.new.self first ending c.drain-ended.new.wait j) c.self.view_is c.drain-ended.ensures) in
    went R unread _ begun c.drain-ended.new.wait j (at_hand begun) Joined (λ any. true) ending c.match-ended.result c.halt_of-self-inside.result ran.0
    ran.1
    (ap (λ (k : Joining). k.state.half) c.self.view_is ∙ c.requires.half)
    (c.halt_of-self-inside.ensures ∙ ap (halt_of ending) number_is)
    (elim c.match-ended.branch [
      | in-Ok w ↦ w.result-is ∙ ap (λ n. Ok (Joined n)) number_is ∙ ap (λ e. result_by Joined true e j.next) (sym w.in-Ok.is)
      | in-Err w ↦ w.result-is ∙ ap Err (w.fault_of.ensures ∙ ap (fault_of _ w.in-Err.stopped) number_is) ∙ ap (λ e. result_by Joined true e j.next) (sym w.in-Err.is)
    ])
