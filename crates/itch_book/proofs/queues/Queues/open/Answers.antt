use Rattle.std.proofs.Common.{[], Some, refl, ap, ◌∙◌}
use Rattle.itch_book.specs.Links.{at_key}
use Rattle.itch_book.specs.Queued.{keys_at}
use Rattle.itch_book.proofs.ViewLemmas.{from_updates, sound_opened, empty_queue, keys_stepped}
use Rattle.itch_book.proofs.queues.Queues.open.Goals as goal

pub invariant_of-self : goal.invariant_of-self
invariant_of-self g c =
    let changed = from_updates _ _ _ _ c.insert_reserved.ensures.updates in
    (sound_opened _ _ _ _ _ c.self.invariant c.insert_reserved.ensures.was_vacant (empty_queue _ _ _ c.none.ensures c.none-2.ensures refl refl) changed).sound

pub returns-clause-keys : goal.returns-clause-keys
returns-clause-keys g c q =
    let changed = from_updates _ _ _ _ c.insert_reserved.ensures.updates in
    let step = sound_opened _ _ _ _ _ c.self.invariant c.insert_reserved.ensures.was_vacant (empty_queue _ _ _ c.none.ensures c.none-2.ensures refl refl) changed in
    keys_stepped c.self.inside.nodes c.self.inside.nodes c.self.inside.heads c.insert_reserved.new.self _ _ _ step changed q ∙ ap (λ v. at_key c.insert_reserved.result (Some []) (keys_at v) q) c.self.view_is
