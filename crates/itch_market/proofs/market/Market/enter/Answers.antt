use Rattle.std.proofs.Common.{◌<◌, rules, sym}
use Rattle.itch_market.proofs.GoodMarkets.{entered_good}
use Rattle.itch_market.proofs.LaidMarkets.{laid_already}
use Rattle.itch_market.proofs.market.Market.enter.Goals as goal

pub invariant_of-self-2 : goal.invariant_of-self-2
invariant_of-self-2 g c =
    let locate = c.args.x.header.locate in
    let low : locate < 65536 = search rules in
    rw (c.in_ok-enter.ensures.ok, c.entry_of-entry.ensures.entry)
    (entered_good _ locate c.args.x.entry c.self.invariant low (rw c.entry_of-entry.ensures.entry at c.entry_of-entry.ensures.fits))

pub returns-clause-ok : goal.returns-clause-ok
returns-clause-ok g c =
    rw (c.in_ok-enter.ensures.ok, c.entry_of-entry.ensures.entry, ← c.self.view_is)
    (sym (laid_already _ (g.met.B.OrderBook.is_book c.self.inside.book)))
