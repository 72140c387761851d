use Rattle.std.proofs.Common.{ap, sym, ◌∙◌, subst}
use Rattle.std.specs.FinMap as map
use Rattle.itch_join.specs.Waits.{AreNumbers}
use Rattle.itch_join.proofs.Waits.{waits_remove, numbers_remove}
use Rattle.itch_join.proofs.waiting.Waiting.remove.Goals as goal

pub invariant_of-self : goal.invariant_of-self
invariant_of-self g c =
    subst AreNumbers (sym (waits_remove c.self.inside.messages c.remove.new.self c.args.number c.remove.ensures.updates))
    (numbers_remove _ c.args.number c.self.invariant)

pub returns : goal.returns
returns g c =
    waits_remove c.self.inside.messages c.remove.new.self c.args.number c.remove.ensures.updates
    ∙ ap (λ w. map.remove w c.args.number) c.self.view_is
