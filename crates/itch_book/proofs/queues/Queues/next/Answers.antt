use Rattle.std.proofs.Common.{ap, ◌∙◌}
use Rattle.itch_book.specs.Queued.{keys_at}
use Rattle.itch_book.proofs.ReadLemmas.{next_seen}
use Rattle.itch_book.proofs.queues.Queues.next.Goals as goal

pub returns : goal.returns
returns g c q before after seen = c.key.ensures ∙ next_seen c.self.inside.nodes c.self.inside.heads c.args.key c.index.result.now q before after c.self.invariant c.index.ensures (ap (λ v. keys_at v q) c.self.view_is ∙ seen)
