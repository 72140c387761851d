use Rattle.std.proofs.Common.{sym}
use Rattle.itch_market.proofs.LaidMarkets.{laid_already}
use Rattle.itch_market.proofs.market.Market.set_event.Goals as goal

pub returns : goal.returns
returns g c = rw (← c.self.view_is) (sym (laid_already _ (g.met.B.OrderBook.is_book c.self.inside.book)))
