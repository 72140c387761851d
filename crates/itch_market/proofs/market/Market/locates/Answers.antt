use Rattle.std.proofs.Common.{ap, ◌∙◌}
use Rattle.std.specs.FinMap as map
use Rattle.itch_market.specs.Content.{Content}
use Rattle.itch_market.proofs.market.Market.locates.Goals as goal

pub returns : goal.returns
returns g c = c.locates.ensures ∙ ap (λ (m : Content). map.keys m.securities) c.self.view_is
