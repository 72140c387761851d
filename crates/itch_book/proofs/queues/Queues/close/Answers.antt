use Rattle.std.proofs.Common.{◌≡◌, ℕ, List, [], Option, Some, None, option_map, sym, ap, ◌∙◌}
use Rattle.slab.specs.Slab.{get}
use Rattle.itch_book.specs.Links.{walked, at_key}
use Rattle.itch_book.specs.Queued.{keys_at, queued}
use Rattle.itch_book.proofs.QueueSteps.{inj}
use Rattle.itch_book.proofs.ViewLemmas.{from_updates, sound_closed, keys_seen, map_at_key, pointwise}
use Rattle.itch_book.proofs.queues.Queues.close.Goals as goal

pub invariant_of-self : goal.invariant_of-self
invariant_of-self g c =
    let nodes = c.self.inside.nodes in let heads = c.self.inside.heads in
    let there = c.remove.ensures.value in
    let seen : keys_at (queued nodes heads) c.args.queue ≡ Some [] = ap (λ v. keys_at v c.args.queue) c.self.view_is ∙ c.requires in
    let empty : walked (get nodes) c.remove.result ≡ [] = inj (sym (ap (option_map (walked (get nodes))) there) ∙ sym (keys_seen nodes heads c.args.queue) ∙ seen) in
    sound_closed (get nodes) (get heads) (get c.remove.new.self) c.args.queue c.remove.result c.self.invariant there empty (from_updates _ _ _ _ c.remove.ensures.updates)

pub returns-clause-keys : goal.returns-clause-keys
returns-clause-keys g c q =
    let nodes = c.self.inside.nodes in let heads = c.self.inside.heads in
    keys_seen nodes c.remove.new.self q ∙ ap (option_map (walked (get nodes))) (from_updates _ _ _ _ c.remove.ensures.updates q)
    ∙ map_at_key (option_map (walked (get nodes))) c.args.queue None (get heads) q
    ∙ ap (λ (f : ℕ → Option (List ℕ)). at_key c.args.queue None f q) (pointwise (λ p. option_map (walked (get nodes)) (get heads p)) (keys_at (queued nodes heads)) (λ p. sym (keys_seen nodes heads p)))
    ∙ ap (λ v. at_key c.args.queue None (keys_at v) q) c.self.view_is
