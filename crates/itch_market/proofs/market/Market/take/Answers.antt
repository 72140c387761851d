use Rattle.itch_market.proofs.GoodMarkets.{taken_good, laid_good}
use Rattle.itch_market.proofs.market.Market.take.Goals as goal

pub invariant_of-self : goal.invariant_of-self
invariant_of-self g c =
    rw c.take-left.ensures.orders (laid_good _ (taken_good _ c.args.reference c.args.shares c.self.invariant))
