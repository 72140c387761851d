use Rattle.std.proofs.Common.{◌≡◌, List, map, sym, ap, ◌∙◌}
use Rattle.std.specs.Option.{option_copied}
use Rattle.std.specs.Map.{values_of}
use Rattle.itch_book.specs.declared.order.Order.{Order}
use Rattle.itch_book.specs.declared.arrived.Arrived.{Arrived}
use Rattle.itch_book.specs.Orders.{level_total}
use Rattle.itch_book.specs.Settled.{its_order}
use Rattle.itch_book.proofs.ArrivedSteps.{orders_of}
use Rattle.itch_book.proofs.LeastLemmas.{line_in_order}
use Rattle.itch_book.proofs.PartLemmas.{line_is, same_total}
use Rattle.itch_book.proofs.arrivals.Arrivals.level_total.Goals as goal

pub part_of-part-requires : goal.part_of-part-requires
part_of-part-requires g c =
    line_in_order (values_of c.self.inside.references.entries) _ _ c.self.invariant.line (sym c.line_if.ensures ∙ ap option_copied c.in-Some.is)

pub returns-in-Some : goal.returns-in-Some
returns-in-Some g c =
    let l = c.args.locate in let s = c.args.side in let p = c.args.price in
    let line = c.in-Some.line.now in let part = c.part_of-part.result.orders.now in
    let laid = line_is (values_of c.self.inside.references.entries) _ line c.self.invariant.line (sym c.line_if.ensures ∙ ap option_copied c.in-Some.is) in
    c.level_in_line.ensures
    ∙ same_total l s p part line c.part_of-part.ensures.all
    ∙ ap (λ (ys : List Arrived). level_total (map its_order ys) l s p) laid
    ∙ ap (λ (os : List Order). level_total os l s p) (ap orders_of c.self.view_is)
