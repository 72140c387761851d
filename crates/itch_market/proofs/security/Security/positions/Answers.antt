use Rattle.std.proofs.Common.{ap, sym, ◌∙◌}
use Rattle.std.specs.FinMap as map
use Rattle.std.specs.Cmp.Lexicographic.{nat_list_cmp_total}
use Rattle.std.specs.FinMap.{nat_cmp-IsAntisymmetric, slice_cmp-IsAntisymmetric}
use Rattle.itch_market.specs.Content.{Listing}
use Rattle.itch_market.proofs.Trees.{entries_of_tree}
use Rattle.itch_market.proofs.security.Security.positions.Goals as goal

pub returns : goal.returns
returns g c =
    c.iter.ensures.rest ∙ sym (entries_of_tree nat_list_cmp_total (slice_cmp-IsAntisymmetric nat_cmp-IsAntisymmetric) _ c.iter.ensures.ordered)
    ∙ ap (λ (s : Listing). map.entries s.positions) c.self.view_is
