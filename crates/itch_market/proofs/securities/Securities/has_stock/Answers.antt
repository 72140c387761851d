use Rattle.std.proofs.Common.{ap, sym, ◌∙◌}
use Rattle.std.specs.FinMap as map
use Rattle.itch_market.specs.Content.{Securities}
use Rattle.itch_market.specs.Slots.{slot, has_stock}
use Rattle.itch_market.proofs.Slots.{get_of_slots}
use Rattle.itch_market.proofs.securities.Securities.has_stock.Goals as goal

pub returns : goal.returns
returns g c =
    let slots = c.self.inside.slots in
    c.has_stock.ensures ∙ ap (λ at. has_stock (slot slots at) c.args.stock) c.from.ensures
    ∙ ap (λ s. has_stock s c.args.stock) (sym (get_of_slots slots c.args.locate))
    ∙ ap (λ (m : Securities). has_stock (map.get m c.args.locate) c.args.stock) c.self.view_is
