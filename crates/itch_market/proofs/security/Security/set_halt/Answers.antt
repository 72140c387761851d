use Rattle.std.proofs.Common.{ap, sym, ◌∙◌}
use Rattle.std.specs.FinMap as map
use Rattle.std.specs.Cmp.{nat_cmp_total}
use Rattle.std.specs.FinMap.{nat_cmp-IsAntisymmetric}
use Rattle.itch_market.specs.Content.{Listing, HaltActions}
use Rattle.itch_market.specs.Effects.{with_halt}
use Rattle.itch_market.proofs.Trees.{get_of_tree, insert_of_tree}
use Rattle.itch_market.proofs.security.Security.set_halt.Goals as goal

pub returns-clause-ok : goal.returns-clause-ok
returns-clause-ok g c =
    ap (λ (entries : HaltActions). let s : Listing = record { entry = c.self.inside.entry; action = c.self.inside.action; sho = c.self.inside.sho; halts = entries; positions = map.from_entries c.self.inside.positions.entries } in s)
    (insert_of_tree nat_cmp_total nat_cmp-IsAntisymmetric c.self.inside.halts c.insert.new.self c.args.market_code c.args.action c.in_ok-insert.ensures.updates)
    ∙ ap (with_halt c.args.market_code c.args.action) c.self.view_is

pub returns-in_err-insert-clause-memory : goal.returns-in_err-insert-clause-memory
returns-in_err-insert-clause-memory g c _ =
    ap (λ (s : Listing). map.get s.halts c.args.market_code) (sym c.self.view_is)
    ∙ get_of_tree nat_cmp_total nat_cmp-IsAntisymmetric c.self.inside.halts c.args.market_code ∙ c.in_err-insert.ensures.absent
