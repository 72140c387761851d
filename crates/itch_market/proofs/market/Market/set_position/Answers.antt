use Rattle.std.proofs.Common.{sym}
use Rattle.itch_market.specs.Effects.{with_position, position_of}
use Rattle.itch_market.proofs.GoodMarkets.{changed_good, new_position}
use Rattle.itch_market.proofs.LaidMarkets.{laid_already}
use Rattle.itch_market.proofs.market.Market.set_position.Goals as goal

pub invariant_of-self-2 : goal.invariant_of-self-2
invariant_of-self-2 g c =
    let x = c.args.x in
    let position = c.position_of-position.ensures.position in
    rw (c.in_ok-set_position.ensures.ok, position)
    (changed_good _ (with_position x.mpid (position_of x)) x.header.locate (new_position x.mpid (position_of x) (rw position at c.position_of-position.ensures.fits)) c.self.invariant)

pub returns-clause-ok : goal.returns-clause-ok
returns-clause-ok g c =
    rw (c.in_ok-set_position.ensures.ok, c.position_of-position.ensures.position, ← c.self.view_is)
    (sym (laid_already _ (g.met.B.OrderBook.is_book c.self.inside.book)))
