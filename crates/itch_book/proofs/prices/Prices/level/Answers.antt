use Rattle.std.proofs.Common.{Some, sym, ap, ◌∙◌}
use Rattle.std.proofs.lemmas.Result.{IfOk-weaker}
use Rattle.itch_codec.specs.declared.orders.Side.TheVariants.{Buy, Sell}
use Rattle.itch_book.specs.SideLevels.{as_lines, levels_on, Priced}
use Rattle.itch_book.proofs.SideLevelLemmas.{apart_levels}
use Rattle.itch_book.proofs.SideLemmas.{on_bids, on_asks, bids_placed, asks_placed}
use Rattle.itch_book.proofs.prices.Prices.level.Goals as goal

pub returns-in-Buy-clause-known : goal.returns-in-Buy-clause-known
returns-in-Buy-clause-known g c q h =
    let known = c.level_on.ensures.known q (sym (on_bids (as_lines c.self.inside.bids.lines.items) c.self.inside.bids.overflow.entries c.args.self.now.bids c.args.self.now.asks c.args.side c.in-Buy.is (ap (λ (v : Priced). v.bids) c.self.view_is) c.args.locate c.args.price) ∙ h) in
    (known.0, known.1 ∙ (ap (λ (v : Priced). v.bids) c.self.view_is), (ap (λ (v : Priced). v.asks) c.self.view_is), known.2)

pub returns-in-Buy-clause-opened : goal.returns-in-Buy-clause-opened
returns-in-Buy-clause-opened g c h = c.level_on.ensures.opened (sym (on_bids (as_lines c.self.inside.bids.lines.items) c.self.inside.bids.overflow.entries c.args.self.now.bids c.args.self.now.asks c.args.side c.in-Buy.is (ap (λ (v : Priced). v.bids) c.self.view_is) c.args.locate c.args.price) ∙ h)

pub returns-in-Buy-clause-placed : goal.returns-in-Buy-clause-placed
returns-in-Buy-clause-placed g c h =
    IfOk-weaker c.level_on.result _ _
    (λ q changed. bids_placed (as_lines c.self.inside.bids.lines.items) (as_lines c.level_on.new.side_levels.lines.items) c.self.inside.bids.overflow.entries c.level_on.new.side_levels.overflow.entries c.args.self.now.bids (ap (λ (v : Priced). v.bids) c.self.view_is)
    c.args.locate c.args.price (Some q) changed c.args.side c.args.self.now.asks (levels_on c.self.inside.asks) c.in-Buy.is (ap (λ (v : Priced). v.asks) c.self.view_is))
    (c.level_on.ensures.placed (sym (on_bids (as_lines c.self.inside.bids.lines.items) c.self.inside.bids.overflow.entries c.args.self.now.bids c.args.self.now.asks c.args.side c.in-Buy.is (ap (λ (v : Priced). v.bids) c.self.view_is) c.args.locate c.args.price) ∙ h))

pub returns-in-Buy-clause-bids : goal.returns-in-Buy-clause-bids
returns-in-Buy-clause-bids g c = apart_levels Buy (as_lines c.level_on.new.side_levels.lines.items) c.level_on.new.side_levels.overflow.entries c.level_on.ensures.side_levels

pub returns-in-Buy-clause-asks : goal.returns-in-Buy-clause-asks
returns-in-Buy-clause-asks g c = apart_levels Sell (as_lines c.self.inside.asks.lines.items) c.self.inside.asks.overflow.entries c.self.invariant.1

pub returns-in-Sell-clause-known : goal.returns-in-Sell-clause-known
returns-in-Sell-clause-known g c q h =
    let known = c.level_on-in-Sell.ensures.known q (sym (on_asks (as_lines c.self.inside.asks.lines.items) c.self.inside.asks.overflow.entries c.args.self.now.bids c.args.self.now.asks c.args.side c.in-Sell.is (ap (λ (v : Priced). v.asks) c.self.view_is) c.args.locate c.args.price) ∙ h) in
    (known.0, (ap (λ (v : Priced). v.bids) c.self.view_is), known.1 ∙ (ap (λ (v : Priced). v.asks) c.self.view_is), known.2)

pub returns-in-Sell-clause-opened : goal.returns-in-Sell-clause-opened
returns-in-Sell-clause-opened g c h = c.level_on-in-Sell.ensures.opened (sym (on_asks (as_lines c.self.inside.asks.lines.items) c.self.inside.asks.overflow.entries c.args.self.now.bids c.args.self.now.asks c.args.side c.in-Sell.is (ap (λ (v : Priced). v.asks) c.self.view_is) c.args.locate c.args.price) ∙ h)

pub returns-in-Sell-clause-placed : goal.returns-in-Sell-clause-placed
returns-in-Sell-clause-placed g c h =
    IfOk-weaker c.level_on-in-Sell.result _ _
    (λ q changed. asks_placed (as_lines c.self.inside.asks.lines.items) (as_lines c.level_on-in-Sell.new.side_levels.lines.items) c.self.inside.asks.overflow.entries c.level_on-in-Sell.new.side_levels.overflow.entries c.args.self.now.asks (ap (λ (v : Priced). v.asks) c.self.view_is)
    c.args.locate c.args.price (Some q) changed c.args.side c.args.self.now.bids (levels_on c.self.inside.bids) c.in-Sell.is (ap (λ (v : Priced). v.bids) c.self.view_is))
    (c.level_on-in-Sell.ensures.placed (sym (on_asks (as_lines c.self.inside.asks.lines.items) c.self.inside.asks.overflow.entries c.args.self.now.bids c.args.self.now.asks c.args.side c.in-Sell.is (ap (λ (v : Priced). v.asks) c.self.view_is) c.args.locate c.args.price) ∙ h))

pub returns-in-Sell-clause-bids : goal.returns-in-Sell-clause-bids
returns-in-Sell-clause-bids g c = apart_levels Buy (as_lines c.self.inside.bids.lines.items) c.self.inside.bids.overflow.entries c.self.invariant.0

pub returns-in-Sell-clause-asks : goal.returns-in-Sell-clause-asks
returns-in-Sell-clause-asks g c = apart_levels Sell (as_lines c.level_on-in-Sell.new.side_levels.lines.items) c.level_on-in-Sell.new.side_levels.overflow.entries c.level_on-in-Sell.ensures.side_levels
