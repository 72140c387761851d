use Rattle.std.proofs.Common.{ap, sym, ◌∙◌, length}
use Rattle.std.specs.FinMap as map
use Rattle.std.specs.Cmp.{nat_cmp_total}
use Rattle.std.specs.FinMap.{nat_cmp-IsAntisymmetric}
use Rattle.itch_market.specs.Content.{Listing}
use Rattle.itch_market.proofs.Trees.{entries_of_tree}
use Rattle.itch_market.proofs.security.Security.halts_len.Goals as goal

pub returns-clause-len : goal.returns-clause-len
returns-clause-len g c =
    c.len.ensures.len ∙ ap length (sym (entries_of_tree nat_cmp_total nat_cmp-IsAntisymmetric _ c.len.ensures.ordered)) ∙ sym (map.len-entries _)
    ∙ ap (λ (s : Listing). map.len s.halts) c.self.view_is
