use Rattle.std.proofs.Common.{List, length, ap, ◌∙◌}
use Rattle.itch_book.specs.Table.{at}
use Rattle.itch_book.specs.declared.order.Order.{Order}
use Rattle.itch_book.specs.Queued.{seen}
use Rattle.itch_book.proofs.CountLemmas.{counted}
use Rattle.itch_book.proofs.index.Index.len.Goals as goal

pub returns : goal.returns
returns g c =
    counted (at c.self.inside.references) c.self.inside.prices.bids c.self.inside.prices.asks (seen c.self.inside.queues) c.self.invariant.index c.len.result c.len.ensures
    ∙ ap (λ (os : List Order). length os) c.self.view_is
