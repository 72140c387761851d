use Rattle.std.proofs.Common.{List, None, find, ap, ◌∙◌}
use Rattle.std.specs.Map.{values_of}
use Rattle.itch_book.specs.declared.order.Order.{Order}
use Rattle.itch_book.specs.declared.arrived.Wanted.TheVariants.{Next}
use Rattle.itch_book.specs.Orders.{is_of}
use Rattle.itch_book.proofs.LeastLemmas.{least_order, any_price}
use Rattle.itch_book.proofs.ArrivedSteps.{orders_of}
use Rattle.itch_book.proofs.arrivals.Arrivals.front.Goals as goal

pub returns : goal.returns
returns g c =
    c.order_of.ensures ∙ c.sought.ensures
    ∙ least_order (is_of c.args.locate c.args.side) (Next c.args.locate c.args.side None) (λ x. any_price c.args.locate c.args.side x) (values_of c.self.inside.references.entries)
    ∙ ap (λ (os : List Order). find (is_of c.args.locate c.args.side) os) (ap orders_of c.self.view_is)
