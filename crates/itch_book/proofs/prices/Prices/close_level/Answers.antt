use Rattle.std.proofs.Common.{None, ap}
use Rattle.itch_codec.specs.declared.orders.Side.TheVariants.{Buy, Sell}
use Rattle.itch_book.specs.SideLevels.{as_lines, levels_on, Priced}
use Rattle.itch_book.proofs.SideLevelLemmas.{apart_levels}
use Rattle.itch_book.proofs.SideLemmas.{bids_placed, asks_placed}
use Rattle.itch_book.proofs.prices.Prices.close_level.Goals as goal

pub returns-in-Buy-clause-placed : goal.returns-in-Buy-clause-placed
returns-in-Buy-clause-placed g c =
    bids_placed (as_lines c.self.inside.bids.lines.items) (as_lines c.cut_on.new.side_levels.lines.items) c.self.inside.bids.overflow.entries c.cut_on.new.side_levels.overflow.entries c.args.self.now.bids (ap (λ (v : Priced). v.bids) c.self.view_is)
    c.args.locate c.args.price None c.cut_on.ensures.cut c.args.side c.args.self.now.asks (levels_on c.self.inside.asks) c.in-Buy.is (ap (λ (v : Priced). v.asks) c.self.view_is)

pub returns-in-Buy-clause-bids : goal.returns-in-Buy-clause-bids
returns-in-Buy-clause-bids g c = apart_levels Buy (as_lines c.cut_on.new.side_levels.lines.items) c.cut_on.new.side_levels.overflow.entries c.cut_on.ensures.side_levels

pub returns-in-Buy-clause-asks : goal.returns-in-Buy-clause-asks
returns-in-Buy-clause-asks g c = apart_levels Sell (as_lines c.self.inside.asks.lines.items) c.self.inside.asks.overflow.entries c.self.invariant.1

pub returns-in-Sell-clause-placed : goal.returns-in-Sell-clause-placed
returns-in-Sell-clause-placed g c =
    asks_placed (as_lines c.self.inside.asks.lines.items) (as_lines c.cut_on-in-Sell.new.side_levels.lines.items) c.self.inside.asks.overflow.entries c.cut_on-in-Sell.new.side_levels.overflow.entries c.args.self.now.asks (ap (λ (v : Priced). v.asks) c.self.view_is)
    c.args.locate c.args.price None c.cut_on-in-Sell.ensures.cut c.args.side c.args.self.now.bids (levels_on c.self.inside.bids) c.in-Sell.is (ap (λ (v : Priced). v.bids) c.self.view_is)

pub returns-in-Sell-clause-bids : goal.returns-in-Sell-clause-bids
returns-in-Sell-clause-bids g c = apart_levels Buy (as_lines c.self.inside.bids.lines.items) c.self.inside.bids.overflow.entries c.self.invariant.0

pub returns-in-Sell-clause-asks : goal.returns-in-Sell-clause-asks
returns-in-Sell-clause-asks g c = apart_levels Sell (as_lines c.cut_on-in-Sell.new.side_levels.lines.items) c.cut_on-in-Sell.new.side_levels.overflow.entries c.cut_on-in-Sell.ensures.side_levels
