use Rattle.std.proofs.Common.{None, IsSome, option_map, refl, sym, ap, ◌∙◌, subst}
use Rattle.itch_book.specs.Links.{at_key}
use Rattle.itch_book.specs.Queued.{keys_at, order_at, without_key}
use Rattle.itch_book.proofs.SoundSteps.{has_one}
use Rattle.itch_book.proofs.ViewLemmas.{unlink_done}
use Rattle.itch_book.proofs.queues.Queues.unlink.Goals as goal

pub index-requires : goal.index-requires
index-requires g c =
    let home = c.self.invariant.homes c.args.key c.remove-node.result c.remove-node.ensures.value in
    subst IsSome (sym home.there) refl

pub head_without-head-requires-clause-orders : goal.head_without-head-requires-clause-orders
head_without-head-requires-clause-orders g c = (has_one _ _ c.self.invariant c.args.key c.remove-node.result c.index.result.now c.remove-node.ensures.value c.index.ensures).0

pub head_without-head-requires-clause-shares : goal.head_without-head-requires-clause-shares
head_without-head-requires-clause-shares g c = (has_one _ _ c.self.invariant c.args.key c.remove-node.result c.index.result.now c.remove-node.ensures.value c.index.ensures).1

pub invariant_of-self : goal.invariant_of-self
invariant_of-self g c =
    (unlink_done c.self.inside.nodes c.remove-node.new.self c.link_after.new.nodes c.link_before.new.nodes c.self.inside.heads c.set_head.new.heads c.args.key c.remove-node.result c.index.result.now c.head_without-head.result
    c.self.invariant c.remove-node.ensures.value c.index.ensures c.remove-node.ensures.updates c.link_after.ensures.nodes c.link_before.ensures.nodes c.head_without-head.ensures c.set_head.ensures.heads).sound

pub returns-clause-orders : goal.returns-clause-orders
returns-clause-orders g c k =
    (unlink_done c.self.inside.nodes c.remove-node.new.self c.link_after.new.nodes c.link_before.new.nodes c.self.inside.heads c.set_head.new.heads c.args.key c.remove-node.result c.index.result.now c.head_without-head.result
    c.self.invariant c.remove-node.ensures.value c.index.ensures c.remove-node.ensures.updates c.link_after.ensures.nodes c.link_before.ensures.nodes c.head_without-head.ensures c.set_head.ensures.heads).orders k
    ∙ ap (λ v. at_key c.args.key None (order_at v) k) c.self.view_is

pub returns-clause-keys : goal.returns-clause-keys
returns-clause-keys g c q =
    (unlink_done c.self.inside.nodes c.remove-node.new.self c.link_after.new.nodes c.link_before.new.nodes c.self.inside.heads c.set_head.new.heads c.args.key c.remove-node.result c.index.result.now c.head_without-head.result
    c.self.invariant c.remove-node.ensures.value c.index.ensures c.remove-node.ensures.updates c.link_after.ensures.nodes c.link_before.ensures.nodes c.head_without-head.ensures c.set_head.ensures.heads).keys q
    ∙ ap (λ v. option_map (without_key c.args.key) (keys_at v q)) c.self.view_is
