use Rattle.std.proofs.Common.{List, map, sym, ap, ◌∙◌}
use Rattle.std.specs.Map.{values_of}
use Rattle.itch_book.specs.declared.arrived.Arrived.{Arrived}
use Rattle.itch_book.specs.Orders.{level_total}
use Rattle.itch_book.specs.Settled.{its_order, settled}
use Rattle.itch_book.specs.Referred.{Referred}
use Rattle.itch_book.proofs.TotalLemmas.{total_settled}
use Rattle.itch_book.proofs.ReferredLemmas.{orders_are}
use Rattle.itch_book.proofs.references.total_of.Goals as goal

pub returns : goal.returns
returns g c =
    let l = c.args.locate in let s = c.args.side in let p = c.args.price in
    c.total_in.ensures ∙ ap (λ (xs : List Arrived). level_total (map its_order xs) l s p) c.deref.ensures.value ∙ total_settled l s p c.references.inside.orders.items
    ∙ ap (λ (xs : List Arrived). level_total (settled xs) l s p) (sym (orders_are c.references.inside.orders.items))
    ∙ ap (λ (t : Referred). level_total (settled (values_of t.entries)) l s p) c.references.view_is
