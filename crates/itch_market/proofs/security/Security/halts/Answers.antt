use Rattle.std.proofs.Common.{ap, sym, ◌∙◌}
use Rattle.std.specs.FinMap as map
use Rattle.std.specs.Cmp.{nat_cmp_total}
use Rattle.std.specs.FinMap.{nat_cmp-IsAntisymmetric}
use Rattle.itch_market.specs.Content.{Listing}
use Rattle.itch_market.proofs.Trees.{entries_of_tree}
use Rattle.itch_market.proofs.security.Security.halts.Goals as goal

pub returns : goal.returns
returns g c =
    c.iter.ensures.rest ∙ sym (entries_of_tree nat_cmp_total nat_cmp-IsAntisymmetric _ c.iter.ensures.ordered)
    ∙ ap (λ (s : Listing). map.entries s.halts) c.self.view_is
