use Rattle.std.proofs.Common.{ap, ◌∙◌}
use Rattle.itch_book.proofs.ArrivedSteps.{orders_of, found_as}
use Rattle.itch_book.proofs.arrivals.Arrivals.find.Goals as goal

pub returns : goal.returns
returns g c = c.find.ensures ∙ found_as c.args.reference _ _ _ c.self.invariant.arrived (ap orders_of c.self.view_is)
