use Rattle.std.proofs.Common.{◌<◌, ◌^◌, IsSome, option_map, rules, refl, sym, ap, ◌∙◌, subst}
use Rattle.slab.specs.Slab.{get}
use Rattle.itch_book.specs.Links.{at_key}
use Rattle.itch_book.specs.Queued.{keys_at, order_at, left_with}
use Rattle.itch_book.proofs.SoundSteps.{has_one}
use Rattle.itch_book.proofs.ReadLemmas.{shares_fit, change_done}
use Rattle.itch_book.proofs.queues.Queues.set_shares.Goals as goal

pub index-requires : goal.index-requires
index-requires g c = subst IsSome (sym (c.self.invariant.homes c.args.key c.index-old.result.now c.index-old.ensures).there) refl

pub head_changed-head-requires-clause-enough : goal.head_changed-head-requires-clause-enough
head_changed-head-requires-clause-enough g c = (has_one _ _ c.self.invariant c.args.key c.index-old.result.now c.index.result.now c.index-old.ensures c.index.ensures).1

pub head_changed-head-requires-clause-fits : goal.head_changed-head-requires-clause-fits
head_changed-head-requires-clause-fits g c few =
    let small : c.args.shares < 2 ^ 32 = search rules in
    shares_fit (get c.self.inside.nodes) (get c.self.inside.heads) c.index-old.result.now.queue c.index.result.now c.args.shares c.self.invariant c.index.ensures few small

pub invariant_of-self : goal.invariant_of-self
invariant_of-self g c =
    let small : c.args.shares < 2 ^ 32 = search rules in
    (change_done c.self.inside.nodes c.set_node.new.nodes c.self.inside.heads c.set_head.new.heads c.args.key c.args.shares c.index-old.result.now c.with_shares-node.result c.index.result.now c.head_changed-head.result
    c.self.invariant c.index-old.ensures c.index.ensures c.with_shares-node.ensures small c.set_node.ensures.nodes c.head_changed-head.ensures c.set_head.ensures.heads).sound

pub returns-clause-orders : goal.returns-clause-orders
returns-clause-orders g c j =
    let small : c.args.shares < 2 ^ 32 = search rules in
    (change_done c.self.inside.nodes c.set_node.new.nodes c.self.inside.heads c.set_head.new.heads c.args.key c.args.shares c.index-old.result.now c.with_shares-node.result c.index.result.now c.head_changed-head.result
    c.self.invariant c.index-old.ensures c.index.ensures c.with_shares-node.ensures small c.set_node.ensures.nodes c.head_changed-head.ensures c.set_head.ensures.heads).orders j
    ∙ ap (λ v. at_key c.args.key (option_map (left_with c.args.shares) (order_at v c.args.key)) (order_at v) j) c.self.view_is

pub returns-clause-keys : goal.returns-clause-keys
returns-clause-keys g c q =
    let small : c.args.shares < 2 ^ 32 = search rules in
    (change_done c.self.inside.nodes c.set_node.new.nodes c.self.inside.heads c.set_head.new.heads c.args.key c.args.shares c.index-old.result.now c.with_shares-node.result c.index.result.now c.head_changed-head.result
    c.self.invariant c.index-old.ensures c.index.ensures c.with_shares-node.ensures small c.set_node.ensures.nodes c.head_changed-head.ensures c.set_head.ensures.heads).keys q ∙ ap (λ v. keys_at v q) c.self.view_is
