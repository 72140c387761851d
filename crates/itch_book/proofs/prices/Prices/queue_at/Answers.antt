use Rattle.std.proofs.Common.{sym, ap, ◌∙◌}
use Rattle.itch_book.specs.SideLevels.{as_lines, Priced}
use Rattle.itch_book.proofs.SideLemmas.{on_bids, on_asks}
use Rattle.itch_book.proofs.prices.Prices.queue_at.Goals as goal

pub returns-in-Buy : goal.returns-in-Buy
returns-in-Buy g c = c.queue_on.ensures ∙ sym (on_bids (as_lines c.self.inside.bids.lines.items) c.self.inside.bids.overflow.entries c.args.self.now.bids c.args.self.now.asks c.args.side c.in-Buy.is (ap (λ (v : Priced). v.bids) c.self.view_is) c.args.locate c.args.price)

pub returns-in-Sell : goal.returns-in-Sell
returns-in-Sell g c = c.queue_on-in-Sell.ensures ∙ sym (on_asks (as_lines c.self.inside.asks.lines.items) c.self.inside.asks.overflow.entries c.args.self.now.bids c.args.self.now.asks c.args.side c.in-Sell.is (ap (λ (v : Priced). v.asks) c.self.view_is) c.args.locate c.args.price)
