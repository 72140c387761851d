use Rattle.std.proofs.Common.{ap, sym, ◌∙◌, length}
use Rattle.std.specs.FinMap as map
use Rattle.std.specs.Cmp.Lexicographic.{nat_list_cmp_total}
use Rattle.std.specs.FinMap.{nat_cmp-IsAntisymmetric, slice_cmp-IsAntisymmetric}
use Rattle.itch_market.specs.Content.{Listing}
use Rattle.itch_market.proofs.Trees.{entries_of_tree}
use Rattle.itch_market.proofs.security.Security.positions_len.Goals as goal

pub returns-clause-len : goal.returns-clause-len
returns-clause-len g c =
    c.len.ensures.len ∙ ap length (sym (entries_of_tree nat_list_cmp_total (slice_cmp-IsAntisymmetric nat_cmp-IsAntisymmetric) _ c.len.ensures.ordered)) ∙ sym (map.len-entries _)
    ∙ ap (λ (s : Listing). map.len s.positions) c.self.view_is
