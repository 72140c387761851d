use Rattle.std.proofs.Common.{ap, ◌∙◌}
use Rattle.std.specs.FinMap as map
use Rattle.itch_market.specs.Content.{Content}
use Rattle.itch_market.proofs.market.Market.security.Goals as goal

pub returns : goal.returns
returns g c = c.get.ensures ∙ ap (λ (m : Content). map.get m.securities c.args.locate) c.self.view_is
