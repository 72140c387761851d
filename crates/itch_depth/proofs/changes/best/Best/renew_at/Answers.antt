use Rattle.std.proofs.Common.{not, sym, ap, ◌∙◌}
use Rattle.itch_book.specs.Orders.{queue}
use Rattle.itch_depth.specs.Changes.{Sides, levels, same_sides}
use Rattle.itch_depth.proofs.BetterPrices.{asks_tell, asks_then, bids_tell, bids_then, if_ok}
use Rattle.itch_depth.proofs.changes.best.Best.renew_at.Goals as goal

pub returns-in-Buy-clause-renewed : goal.returns-in-Buy-clause-renewed
returns-in-Buy-clause-renewed g c = λ orders book same was.
    let at = c.args.changed in
    let new = g.B.OrderBook.orders c.args.book.now in
    let known = c.self.view_is ∙ was in
    if_ok (λ _ now. bids_then orders new at book (g.met.B.OrderBook.is_book c.args.book.now) same c.in-Buy.is c.args.depth c.renew_changed.new.known.items c.self.inside.asks.items now (ap Sides.asks known))
    c.renew_changed.result
    (c.renew_changed.ensures.renewed orders book same (ap Sides.bids known ∙ ap (λ s. levels c.args.depth (queue orders at.locate s)) (sym c.in-Buy.is)))

pub returns-in-Buy-clause-changed : goal.returns-in-Buy-clause-changed
returns-in-Buy-clause-changed g c =
    if_ok (λ _ is. is ∙ bids_tell c.self.inside.bids.items c.renew_changed.new.known.items c.self.inside.asks.items ∙ ap (λ was. not (same_sides was (record { bids = c.renew_changed.new.known.items; asks = c.self.inside.asks.items }))) c.self.view_is)
    c.renew_changed.result c.renew_changed.ensures.changed

pub returns-in-Sell-clause-renewed : goal.returns-in-Sell-clause-renewed
returns-in-Sell-clause-renewed g c = λ orders book same was.
    let at = c.args.changed in
    let new = g.B.OrderBook.orders c.args.book.now in
    let known = c.self.view_is ∙ was in
    if_ok (λ _ now. asks_then orders new at book (g.met.B.OrderBook.is_book c.args.book.now) same c.in-Sell.is c.args.depth c.self.inside.bids.items c.renew_changed-in-Sell.new.known.items now (ap Sides.bids known))
    c.renew_changed-in-Sell.result
    (c.renew_changed-in-Sell.ensures.renewed orders book same (ap Sides.asks known ∙ ap (λ s. levels c.args.depth (queue orders at.locate s)) (sym c.in-Sell.is)))

pub returns-in-Sell-clause-changed : goal.returns-in-Sell-clause-changed
returns-in-Sell-clause-changed g c =
    if_ok (λ _ is. is ∙ asks_tell c.self.inside.bids.items c.self.inside.asks.items c.renew_changed-in-Sell.new.known.items ∙ ap (λ was. not (same_sides was (record { bids = c.self.inside.bids.items; asks = c.renew_changed-in-Sell.new.known.items }))) c.self.view_is)
    c.renew_changed-in-Sell.result c.renew_changed-in-Sell.ensures.changed
