use Rattle.std.proofs.Common.{rules, ◌<◌}
use Rattle.itch_market.proofs.GoodMarkets.{laid_or_kept, added_good}
use Rattle.itch_market.proofs.market.Market.add.Goals as goal

pub invariant_of-self : goal.invariant_of-self
invariant_of-self g c =
    let low : c.args.x.header.locate < 65536 = search rules in
    laid_or_kept c.add.result _ _ _ c.self.invariant
    (added_good _ c.args.x c.args.mpid c.self.invariant low (rw c.order_of.ensures.order at c.order_of.ensures.fits) (rw (← c.self.view_is) at c.requires))
    (rw c.order_of.ensures.order at c.add.ensures.ok)
    c.add.ensures.err
