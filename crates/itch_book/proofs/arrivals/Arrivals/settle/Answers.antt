use Rattle.std.proofs.Common.{ap, ◌∙◌}
use Rattle.itch_book.proofs.ArrivedSteps.{settled_is, settled_stands, settled_arrived, orders_of}
use Rattle.itch_book.proofs.arrivals.Arrivals.settle.Goals as goal

pub invariant_of-self : goal.invariant_of-self
invariant_of-self g c = record {
  arrived = settled_arrived _ _ _ c.self.invariant.arrived c.settle.ensures.line c.settle.ensures.entries;
  line = settled_stands _ _ _ c.self.invariant.arrived c.settle.ensures.line;
}

pub returns-clause-orders : goal.returns-clause-orders
returns-clause-orders g c = settled_is _ _ _ c.self.invariant.arrived c.settle.ensures.line ∙ ap orders_of c.self.view_is
