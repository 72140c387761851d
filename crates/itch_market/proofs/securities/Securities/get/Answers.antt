use Rattle.std.proofs.Common.{ap, sym, ◌∙◌}
use Rattle.std.specs.FinMap as map
use Rattle.itch_market.specs.Content.{Securities}
use Rattle.itch_market.proofs.Slots.{get_of_slots, slot_read, slot_past}
use Rattle.itch_market.proofs.securities.Securities.get.Goals as goal

pub returns-in-Some : goal.returns-in-Some
returns-in-Some g c =
    let at = c.in-Some.ensures.lookup.3 in
    let read = rw (c.all.ensures, c.from.ensures) at at in
    let slots = c.self.inside.slots in
    c.as_ref.ensures.value ∙ slot_read slots c.args.locate c.in-Some.slot.now c.in-Some.slot.now read.0 (read.1 c.in-Some.slot.now)
    ∙ sym (get_of_slots slots c.args.locate) ∙ ap (λ (m : Securities). map.get m c.args.locate) c.self.view_is

pub returns-in-None : goal.returns-in-None
returns-in-None g c =
    let past = rw (c.all.ensures, c.from.ensures) at c.in-None.ensures.lookup.3 in
    let slots = c.self.inside.slots in
    sym (slot_past slots c.args.locate past) ∙ sym (get_of_slots slots c.args.locate)
    ∙ ap (λ (m : Securities). map.get m c.args.locate) c.self.view_is
