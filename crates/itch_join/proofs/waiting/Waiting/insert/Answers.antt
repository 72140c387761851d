use Rattle.std.proofs.Common.{ap, sym, ◌∙◌, subst, ◌≡◌, ◌++◌}
use Rattle.std.specs.FinMap as map
use Rattle.itch_join.specs.Waits.{waits_of, AreNumbers}
use Rattle.itch_join.proofs.Waits.{waits_insert, numbers_insert}
use Rattle.itch_join.proofs.waiting.Waiting.insert.Goals as goal

pub invariant_of-self-2 : goal.invariant_of-self-2
invariant_of-self-2 g c =
    let v = c.extend_from_slice.new.self in
    subst AreNumbers (sym (waits_insert c.self.inside.messages c.insert.new.self c.args.number v c.in_ok-insert.ensures.updates))
    (numbers_insert (waits_of c.self.inside.messages) c.args.number v.items c.requires c.self.invariant)

pub returns-clause-ok : goal.returns-clause-ok
returns-clause-ok g c =
    let v = c.extend_from_slice.new.self in
    let same : v.items ≡ c.args.payload.now = c.in_ok-extend_from_slice.ensures.items ∙ ap (λ xs. xs ++ c.args.payload.now) c.new-bytes.ensures.items in
    waits_insert c.self.inside.messages c.insert.new.self c.args.number v c.in_ok-insert.ensures.updates
    ∙ ap (λ w. map.insert w c.args.number v.items) c.self.view_is ∙ ap (map.insert c.args.self.now c.args.number) same
