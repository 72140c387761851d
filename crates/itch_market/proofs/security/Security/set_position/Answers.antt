use Rattle.std.proofs.Common.{ap, sym, ◌∙◌}
use Rattle.std.specs.FinMap as map
use Rattle.std.specs.Cmp.Lexicographic.{nat_list_cmp_total}
use Rattle.std.specs.FinMap.{nat_cmp-IsAntisymmetric, slice_cmp-IsAntisymmetric}
use Rattle.itch_market.specs.Content.{Listing, ParticipantPositions}
use Rattle.itch_market.specs.Effects.{with_position}
use Rattle.itch_market.proofs.Trees.{get_of_tree, insert_of_tree}
use Rattle.itch_market.proofs.security.Security.set_position.Goals as goal

pub returns-clause-ok : goal.returns-clause-ok
returns-clause-ok g c =
    ap (λ (entries : ParticipantPositions). let s : Listing = record { entry = c.self.inside.entry; action = c.self.inside.action; sho = c.self.inside.sho; halts = map.from_entries c.self.inside.halts.entries; positions = entries } in s)
    (insert_of_tree nat_list_cmp_total (slice_cmp-IsAntisymmetric nat_cmp-IsAntisymmetric) c.self.inside.positions c.insert.new.self c.args.mpid c.args.position c.in_ok-insert.ensures.updates)
    ∙ ap (with_position c.args.mpid c.args.position) c.self.view_is

pub returns-in_err-insert-clause-memory : goal.returns-in_err-insert-clause-memory
returns-in_err-insert-clause-memory g c _ =
    ap (λ (s : Listing). map.get s.positions c.args.mpid) (sym c.self.view_is)
    ∙ get_of_tree nat_list_cmp_total (slice_cmp-IsAntisymmetric nat_cmp-IsAntisymmetric) c.self.inside.positions c.args.mpid ∙ c.in_err-insert.ensures.absent
