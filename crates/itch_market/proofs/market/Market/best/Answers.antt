use Rattle.std.proofs.Common.{◌∙◌}
use Rattle.itch_book.proofs.BookLemmas.{front_book}
use Rattle.itch_market.proofs.market.Market.best.Goals as goal

pub returns : goal.returns
returns g c =
    rw (← c.self.view_is)
    (c.front.ensures ∙ front_book _ c.args.locate c.args.side (g.met.B.OrderBook.is_book c.self.inside.book))
