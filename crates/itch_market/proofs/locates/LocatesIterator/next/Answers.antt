use Rattle.std.proofs.Common.{rules, ◌≡◌, suc, ◌+◌, ◌∷◌, length, arith, sym, ap, ◌∙◌}
use Rattle.itch_market.specs.Slots.{locates_from}
use Rattle.itch_market.proofs.locates.LocatesIterator.next.Goals as goal

pub returns-clause-steps : goal.returns-clause-steps
returns-clause-steps g c =
    let locate = c.in_ok-locate.locate in
    let on : suc locate ≡ locate + 1 = omega arith in
    sym c.self.view_is ∙ c.in_ok-locate.ensures.1 ∙ ap (λ n. locate ∷ locates_from n c.self.inside.slots.now) on

pub returns-clause-goes : goal.returns-clause-goes
returns-clause-goes g c = let shorter = ap length (returns-clause-steps g c) in search rules
