use Rattle.std.proofs.Common.{ap, ◌∙◌}
use Rattle.std.specs.FinMap as map
use Rattle.itch_market.specs.Content.{Securities}
use Rattle.itch_market.specs.Slots.{locates_from}
use Rattle.itch_market.proofs.Slots.{keys_of_slots}
use Rattle.itch_market.proofs.securities.Securities.locates.Goals as goal

pub returns : goal.returns
returns g c =
    c.new.ensures ∙ ap (locates_from 0) c.all.ensures ∙ keys_of_slots c.self.inside.slots
    ∙ ap (λ (m : Securities). map.keys m) c.self.view_is
