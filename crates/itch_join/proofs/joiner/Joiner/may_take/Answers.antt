use Rattle.std.proofs.Common.{◌≡◌, false, is_some, sym, ◌∙◌, subst}
use Rattle.itch_join.specs.States.{Joining}
use Rattle.itch_join.proofs.Takings.{may_begin}
use Rattle.itch_join.proofs.joiner.Joiner.may_take.Goals as goal

pub returns : goal.returns
returns g c within =
    may_begin c.args.self.now c.args.number c.in-Some.next c.waiting.result
    (subst (λ (k : Joining). is_some k.state.halt ≡ false) c.self.view_is (sym c.is_some.ensures ∙ c.if-is_some.false))
    c.waiting.ensures c.if-waiting-gt0.false (sym c.next.ensures ∙ c.in-Some.is) within
