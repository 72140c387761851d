use Rattle.std.proofs.Common.{sym, rules}
use Rattle.itch_market.specs.Effects.{with_sho}
use Rattle.itch_market.proofs.GoodMarkets.{changed_good, new_sho}
use Rattle.itch_market.proofs.LaidMarkets.{laid_already}
use Rattle.itch_market.proofs.market.Market.set_sho.Goals as goal

pub invariant_of-self : goal.invariant_of-self
invariant_of-self g c =
    rw c.set_sho.ensures
    (changed_good _ (with_sho c.args.x.action) c.args.x.header.locate (new_sho c.args.x.action (search rules)) c.self.invariant)

pub returns : goal.returns
returns g c = rw (c.set_sho.ensures, ← c.self.view_is) (sym (laid_already _ (g.met.B.OrderBook.is_book c.self.inside.book)))
