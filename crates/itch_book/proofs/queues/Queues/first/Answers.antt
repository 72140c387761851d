use Rattle.std.proofs.Common.{ap, ◌∙◌}
use Rattle.itch_book.specs.Queued.{keys_at}
use Rattle.itch_book.proofs.ReadLemmas.{queue_seen}
use Rattle.itch_book.proofs.queues.Queues.first.Goals as goal

pub returns : goal.returns
returns g c ks seen = c.key.ensures ∙ (queue_seen c.self.inside.nodes c.self.inside.heads c.args.queue ks c.index.result.now c.self.invariant (ap (λ v. keys_at v c.args.queue) c.self.view_is ∙ seen) c.index.ensures).first
