use Rattle.std.proofs.Common.{length, List, ap, ◌∙◌}
use Rattle.itch_book.specs.declared.order.Order.{Order}
use Rattle.itch_book.proofs.ArrivedSteps.{as_many, orders_of}
use Rattle.itch_book.proofs.arrivals.Arrivals.len.Goals as goal

pub returns : goal.returns
returns g c = c.len.ensures ∙ as_many c.self.inside.references.entries ∙ ap (λ (os : List Order). length os) (ap orders_of c.self.view_is)
