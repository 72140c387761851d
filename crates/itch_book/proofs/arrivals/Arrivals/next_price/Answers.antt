use Rattle.std.proofs.Common.{List, option_map, ap, ◌∙◌}
use Rattle.std.specs.Map.{values_of}
use Rattle.itch_book.specs.declared.order.Order.{Order}
use Rattle.itch_book.specs.Orders.{next_price}
use Rattle.itch_book.proofs.LeastLemmas.{least_price}
use Rattle.itch_book.proofs.ArrivedSteps.{orders_of}
use Rattle.itch_book.proofs.arrivals.Arrivals.next_price.Goals as goal

pub returns : goal.returns
returns g c =
    ap (option_map (λ (x : Order). x.price)) c.in_ok-placed.ensures
    ∙ least_price c.args.locate c.args.side c.args.last (values_of c.self.inside.references.entries)
    ∙ ap (λ (os : List Order). next_price os c.args.locate c.args.side c.args.last) (ap orders_of c.self.view_is)

pub returns-in_err-placed : goal.returns-in_err-placed
returns-in_err-placed g c =
    c.from_residual.ensures ∙ ap (option_map (λ (x : Order). x.price)) c.in_err-placed.ensures
    ∙ least_price c.args.locate c.args.side c.args.last (values_of c.self.inside.references.entries)
    ∙ ap (λ (os : List Order). next_price os c.args.locate c.args.side c.args.last) (ap orders_of c.self.view_is)
