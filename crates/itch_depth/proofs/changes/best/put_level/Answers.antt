use Rattle.std.proofs.Common.{refl, sym, ◌∙◌, arith}
use Rattle.itch_depth.proofs.BestPrices.{at_end, other_at, other_at_end, past_end, set_at}
use Rattle.itch_depth.proofs.changes.best.put_level.Goals as goal

pub returns-in-Some-clause-put : goal.returns-in-Some-clause-put
returns-in-Some-clause-put g c = set_at c.args.place c.args.level c.args.levels.now.items (omega (arith, c.args.levels.now.ok, c.in-Some.ensures.variant.0 refl))

pub returns-in-Some-clause-other : goal.returns-in-Some-clause-other
returns-in-Some-clause-other g c =
    c.ne-is_other.ensures ∙ other_at c.args.place c.args.level c.in-Some.there.now c.args.levels.now.items (omega (arith, c.args.levels.now.ok, c.in-Some.ensures.variant.0 refl)) (sym c.in-Some.ensures.value)

pub returns-in_ok-push-in-None-clause-put : goal.returns-in_ok-push-in-None-clause-put
returns-in_ok-push-in-None-clause-put g c = c.in_ok-push-in-None.ensures.items ∙ sym (at_end c.args.place c.args.level c.args.levels.now.items (past_end c.args.place c.args.levels.now.len c.args.levels.now.items c.args.levels.now.ok.0 c.in-None.ensures.variant.1))

pub returns-in_ok-push-in-None-clause-other : goal.returns-in_ok-push-in-None-clause-other
returns-in_ok-push-in-None-clause-other g c = other_at_end c.args.place c.args.level c.args.levels.now.items (past_end c.args.place c.args.levels.now.len c.args.levels.now.items c.args.levels.now.ok.0 c.in-None.ensures.variant.1)
