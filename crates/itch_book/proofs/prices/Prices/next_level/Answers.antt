use Rattle.std.proofs.Common.{ap}
use Rattle.itch_book.specs.SideLevels.{as_lines, Priced}
use Rattle.itch_book.proofs.SideLemmas.{next_bid, next_ask}
use Rattle.itch_book.proofs.prices.Prices.next_level.Goals as goal

pub returns-in-Buy : goal.returns-in-Buy
returns-in-Buy g c = next_bid (as_lines c.self.inside.bids.lines.items) c.self.inside.bids.overflow.entries c.args.self.now.bids c.args.self.now.asks c.args.side c.in-Buy.is (ap (λ (v : Priced). v.bids) c.self.view_is) c.args.locate c.args.last c.next_on.result c.next_on.ensures

pub returns-in-Sell : goal.returns-in-Sell
returns-in-Sell g c = next_ask (as_lines c.self.inside.asks.lines.items) c.self.inside.asks.overflow.entries c.args.self.now.bids c.args.self.now.asks c.args.side c.in-Sell.is (ap (λ (v : Priced). v.asks) c.self.view_is) c.args.locate c.args.last c.next_on-in-Sell.result c.next_on-in-Sell.ensures
