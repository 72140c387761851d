use Rattle.std.proofs.Common.{List, ap, ◌∙◌}
use Rattle.itch_book.specs.declared.order.Order.{Order}
use Rattle.itch_book.specs.Orders.{lay, without}
use Rattle.itch_book.proofs.ArrivedSteps.{there, found_there, cut_is, cut_arrived, orders_of}
use Rattle.itch_book.proofs.arrivals.Arrivals.delete.Goals as goal

pub cut-removed-requires : goal.cut-removed-requires
cut-removed-requires g c = there c.args.reference _ _ _ c.self.invariant.arrived (ap orders_of c.self.view_is) c.requires

pub invariant_of-self : goal.invariant_of-self
invariant_of-self g c =
    record { arrived = cut_arrived c.args.reference _ _ _ c.self.invariant.arrived c.cut-removed.ensures.entries; line = tt }

pub returns-clause-orders : goal.returns-clause-orders
returns-clause-orders g c = cut_is c.args.reference _ _ _ c.self.invariant.arrived c.cut-removed.ensures.entries ∙ ap (λ (os : List Order). lay (without c.args.reference os)) (ap orders_of c.self.view_is)

pub returns-clause-order : goal.returns-clause-order
returns-clause-order g c = found_there c.args.reference _ _ _ c.cut-removed.result c.self.invariant.arrived (ap orders_of c.self.view_is) c.cut-removed.ensures.found
