use Rattle.std.proofs.Common.{◌≡◌, ◌∷◌, ◌++◌, ◌+◌, ◌<◌, ◌^◌, [], Some, IsSome, option_map, rules, sym, ap, ◌∙◌, subst}
use Rattle.slab.specs.Slab.{get}
use Rattle.itch_book.specs.declared.order.Order.{Order}
use Rattle.itch_book.specs.Links.{with_after, at_key}
use Rattle.itch_book.specs.Queued.{keys_at, order_at}
use Rattle.itch_book.proofs.ViewLemmas.{has_head, queue_fits, push_known}
use Rattle.itch_book.proofs.queues.Queues.push_last.Goals as goal

pub index-requires : goal.index-requires
index-requires g c = has_head c.self.inside.nodes c.self.inside.heads c.args.queue (subst (λ v. IsSome (keys_at v c.args.queue)) (sym c.self.view_is) c.requires.there)

pub head_with-head-requires-clause-orders : goal.head_with-head-requires-clause-orders
head_with-head-requires-clause-orders g c =
    let small : c.last_node-node.result.order.shares < 2 ^ 32 = subst (λ (o : Order). o.shares < 2 ^ 32) (sym c.last_node-node.ensures.order) (search rules) in
    let most : c.capacity-most.result < 2 ^ 64 = search rules in
    let there : get c.self.inside.heads c.last_node-node.result.queue ≡ Some c.index-2.result.now = ap (get c.self.inside.heads) c.last_node-node.ensures.queue ∙ c.index-2.ensures in
    (queue_fits c.self.inside.nodes c.insert_reserved-key.new.self c.self.inside.heads c.insert_reserved-key.result c.last_node-node.result c.index-2.result.now c.capacity-most.result
    c.self.invariant c.insert_reserved-key.ensures.was_vacant there c.insert_reserved-key.ensures.updates c.capacity-most.ensures.slots most small).0

pub head_with-head-requires-clause-shares : goal.head_with-head-requires-clause-shares
head_with-head-requires-clause-shares g c =
    let small : c.last_node-node.result.order.shares < 2 ^ 32 = subst (λ (o : Order). o.shares < 2 ^ 32) (sym c.last_node-node.ensures.order) (search rules) in
    let most : c.capacity-most.result < 2 ^ 64 = search rules in
    let there : get c.self.inside.heads c.last_node-node.result.queue ≡ Some c.index-2.result.now = ap (get c.self.inside.heads) c.last_node-node.ensures.queue ∙ c.index-2.ensures in
    subst (λ (o : Order). c.index-2.result.now.shares + o.shares < 2 ^ 128) c.last_node-node.ensures.order ((queue_fits c.self.inside.nodes c.insert_reserved-key.new.self c.self.inside.heads c.insert_reserved-key.result c.last_node-node.result c.index-2.result.now c.capacity-most.result
    c.self.invariant c.insert_reserved-key.ensures.was_vacant there c.insert_reserved-key.ensures.updates c.capacity-most.ensures.slots most small).1)

pub invariant_of-self : goal.invariant_of-self
invariant_of-self g c =
    let small : c.args.order.shares < 2 ^ 32 = search rules in
    (push_known c.self.inside.nodes c.insert_reserved-key.new.self c.link_after.new.nodes c.self.inside.heads c.set_head.new.heads c.args.queue c.insert_reserved-key.result c.args.order c.last_node-node.result
    c.index.result.now c.index-2.result.now c.head_with-head.result c.self.invariant c.insert_reserved-key.ensures.was_vacant c.index.ensures c.index-2.ensures c.last_node-node.ensures.order c.last_node-node.ensures.queue
    c.last_node-node.ensures.before c.last_node-node.ensures.after small c.insert_reserved-key.ensures.updates (λ j. c.link_after.ensures.nodes j ∙ ap (λ t. with_after c.index.result.now.last t (get c.insert_reserved-key.new.self) j) c.to-link.ensures) (λ y before shares. c.head_with-head.ensures y c.insert_reserved-key.result before shares c.to-link.ensures) c.set_head.ensures.heads).sound

pub returns-clause-orders : goal.returns-clause-orders
returns-clause-orders g c k =
    let small : c.args.order.shares < 2 ^ 32 = search rules in
    (push_known c.self.inside.nodes c.insert_reserved-key.new.self c.link_after.new.nodes c.self.inside.heads c.set_head.new.heads c.args.queue c.insert_reserved-key.result c.args.order c.last_node-node.result
    c.index.result.now c.index-2.result.now c.head_with-head.result c.self.invariant c.insert_reserved-key.ensures.was_vacant c.index.ensures c.index-2.ensures c.last_node-node.ensures.order c.last_node-node.ensures.queue
    c.last_node-node.ensures.before c.last_node-node.ensures.after small c.insert_reserved-key.ensures.updates (λ j. c.link_after.ensures.nodes j ∙ ap (λ t. with_after c.index.result.now.last t (get c.insert_reserved-key.new.self) j) c.to-link.ensures) (λ y before shares. c.head_with-head.ensures y c.insert_reserved-key.result before shares c.to-link.ensures) c.set_head.ensures.heads).orders k
    ∙ ap (λ v. at_key c.insert_reserved-key.result (Some c.args.order) (order_at v) k) c.self.view_is

pub returns-clause-keys : goal.returns-clause-keys
returns-clause-keys g c p =
    let small : c.args.order.shares < 2 ^ 32 = search rules in
    (push_known c.self.inside.nodes c.insert_reserved-key.new.self c.link_after.new.nodes c.self.inside.heads c.set_head.new.heads c.args.queue c.insert_reserved-key.result c.args.order c.last_node-node.result
    c.index.result.now c.index-2.result.now c.head_with-head.result c.self.invariant c.insert_reserved-key.ensures.was_vacant c.index.ensures c.index-2.ensures c.last_node-node.ensures.order c.last_node-node.ensures.queue
    c.last_node-node.ensures.before c.last_node-node.ensures.after small c.insert_reserved-key.ensures.updates (λ j. c.link_after.ensures.nodes j ∙ ap (λ t. with_after c.index.result.now.last t (get c.insert_reserved-key.new.self) j) c.to-link.ensures) (λ y before shares. c.head_with-head.ensures y c.insert_reserved-key.result before shares c.to-link.ensures) c.set_head.ensures.heads).keys p
    ∙ ap (λ v. at_key c.args.queue (option_map (λ ks. ks ++ c.insert_reserved-key.result ∷ []) (keys_at v c.args.queue)) (keys_at v) p) c.self.view_is
