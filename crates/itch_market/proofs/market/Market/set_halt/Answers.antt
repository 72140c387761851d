use Rattle.std.proofs.Common.{sym, rules}
use Rattle.itch_market.specs.Effects.{with_halt}
use Rattle.itch_market.proofs.GoodMarkets.{changed_good, new_halt}
use Rattle.itch_market.proofs.LaidMarkets.{laid_already}
use Rattle.itch_market.proofs.market.Market.set_halt.Goals as goal

pub invariant_of-self-2 : goal.invariant_of-self-2
invariant_of-self-2 g c =
    let x = c.args.x in
    rw c.in_ok-set_halt.ensures.ok
    (changed_good _ (with_halt x.market_code x.action) x.header.locate (new_halt x.market_code x.action (search rules, search rules)) c.self.invariant)

pub returns-clause-ok : goal.returns-clause-ok
returns-clause-ok g c =
    rw (c.in_ok-set_halt.ensures.ok, ← c.self.view_is) (sym (laid_already _ (g.met.B.OrderBook.is_book c.self.inside.book)))
