use Rattle.std.proofs.Common.{ap, sym, ◌∙◌}
use Rattle.std.specs.FinMap as map
use Rattle.std.specs.Cmp.{nat_cmp_total}
use Rattle.std.specs.FinMap.{nat_cmp-IsAntisymmetric}
use Rattle.itch_market.specs.Content.{Listing}
use Rattle.itch_market.proofs.Trees.{get_of_tree}
use Rattle.itch_market.proofs.security.Security.halt.Goals as goal

pub returns : goal.returns
returns g c =
    c.copied.ensures ∙ c.get.ensures.value
    ∙ sym (get_of_tree nat_cmp_total nat_cmp-IsAntisymmetric c.self.inside.halts c.args.market_code)
    ∙ ap (λ (s : Listing). map.get s.halts c.args.market_code) c.self.view_is
