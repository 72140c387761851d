use Rattle.std.proofs.Common.{◌∙◌}
use Rattle.itch_market.proofs.Slots.{locates_here, locates_on, locates_past}
use Rattle.itch_market.proofs.locates.first_from.Goals as goal

pub returns-then-is_some : goal.returns-then-is_some
returns-then-is_some g c = (
  c.loop-locate-test.true,
  c.loop-locate.invariant ∙ locates_here c.args.slots.now c.loop-locate.locate _ c.loop-locate-test.true c.index-slots-locate.is c.if-is_some.ensures,
)

pub loop-locate-preserved : goal.loop-locate-preserved
loop-locate-preserved g c =
    c.loop-locate.invariant ∙ locates_on c.args.slots.now c.loop-locate.locate _ c.loop-locate-test.true c.index-slots-locate.is c.if-is_some.ensures

pub returns : goal.returns
returns g c = c.loop-locate.invariant ∙ locates_past c.args.slots.now c.loop-locate.locate c.loop-locate-test.false
