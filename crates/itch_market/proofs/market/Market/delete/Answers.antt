use Rattle.itch_market.proofs.GoodMarkets.{without_good, laid_good}
use Rattle.itch_market.proofs.market.Market.delete.Goals as goal

pub invariant_of-self : goal.invariant_of-self
invariant_of-self g c =
    rw c.delete-order.ensures.orders (laid_good _ (without_good _ c.args.reference c.self.invariant))
