use Rattle.std.proofs.Common.{◌≡◌, true, eqb, IsSomeAnd, ap, ◌∙◌, subst}
use Rattle.std.specs.List.{list_any}
use Rattle.itch_book.specs.Queued.{keys_at}
use Rattle.itch_book.proofs.ReadLemmas.{member_seen, member_only}
use Rattle.itch_book.proofs.queues.Queues.queue_of.Goals as goal

pub returns-clause-member : goal.returns-clause-member
returns-clause-member g c = subst (λ v. IsSomeAnd (keys_at v c.index.result.now.queue) (λ ks. list_any (eqb c.args.key) ks ≡ true)) c.self.view_is (member_seen c.self.inside.nodes c.self.inside.heads c.args.key c.index.result.now c.self.invariant c.index.ensures)

pub returns-clause-only : goal.returns-clause-only
returns-clause-only g c q ks keys i = member_only c.self.inside.nodes c.self.inside.heads c.args.key c.index.result.now q ks c.self.invariant c.index.ensures (ap (λ v. keys_at v q) c.self.view_is ∙ keys) i
