use Rattle.std.proofs.Common.{◌≡◌, sym, ap, subst, ◌∙◌}
use Rattle.itch_market.specs.Content.{laid}
use Rattle.itch_market.specs.Effects.{effect}
use Rattle.itch_market.specs.Reasons.{reason}
use Rattle.itch_market.proofs.Causes.{no_reason}
use Rattle.itch_commands.specs.PointMarkets.{IsCutDown}
use Rattle.itch_commands.proofs.snap.point_market.PointMarketSink.take.Goals as goal

pub invariant_of-self-2 : goal.invariant_of-self-2
invariant_of-self-2 g c =
    let it = c.self.inside in
    let x = c.in-Ok.decoded in
    let market = c.recall_invariant.ensures in
    let decodes = rw c.in-Ok.is at c.requires.decoded in
    let (clean, fits, left) = c.in_ok-take.ensures.takes in
    let none = ap (reason it.whole) decodes.1 ∙ no_reason it.whole c.args.payload.now clean in
    let whole_is : c.take-2.new.self ≡ laid (effect it.whole x) = left ∙ ap (λ y. laid (effect it.whole y)) (sym decodes.1) in
    subst (λ n. IsCutDown c.follow.new.followed n c.follow.new.part) (sym whole_is)
    (c.follow.ensures it.whole market.good market.in_order decodes.2 none (c.admit.ensures it.part market.good c.self.invariant))
