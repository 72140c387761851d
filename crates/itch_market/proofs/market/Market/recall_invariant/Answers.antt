use Rattle.std.proofs.Common.{subst}
use Rattle.itch_book.specs.Orders.{IsBook}
use Rattle.itch_market.specs.Content.{Content}
use Rattle.itch_market.proofs.LaidMarkets.{laid_already}
use Rattle.itch_market.proofs.market.Market.recall_invariant.Goals as goal

pub returns-clause-in_order : goal.returns-clause-in_order
returns-clause-in_order g c =
    laid_already c.args.self.now (subst (λ (m : Content). IsBook m.orders) c.self.view_is (g.met.B.OrderBook.is_book c.self.inside.book))
