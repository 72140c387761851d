use Rattle.std.proofs.Common.{List, find, refl, ap, ◌∙◌}
use Rattle.std.specs.Map.{values_of}
use Rattle.itch_book.specs.declared.order.Order.{Order}
use Rattle.itch_book.specs.declared.arrived.Wanted.TheVariants.{In}
use Rattle.itch_book.specs.Orders.{is_in}
use Rattle.itch_book.proofs.LeastLemmas.{least_order}
use Rattle.itch_book.proofs.ArrivedSteps.{orders_of}
use Rattle.itch_book.proofs.arrivals.Arrivals.first.Goals as goal

pub returns : goal.returns
returns g c =
    c.sought.ensures
    ∙ least_order (is_in c.args.locate) (In c.args.locate) (λ x. refl) (values_of c.self.inside.references.entries)
    ∙ ap (λ (os : List Order). find (is_in c.args.locate) os) (ap orders_of c.self.view_is)
