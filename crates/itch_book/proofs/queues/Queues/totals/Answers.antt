use Rattle.std.proofs.Common.{◌≡◌, ℕ, ap, ◌∙◌, subst}
use Rattle.itch_book.specs.Queued.{keys_at, order_at, found, totals_of}
use Rattle.itch_book.proofs.ReadLemmas.{totals_seen}
use Rattle.itch_book.proofs.queues.Queues.totals.Goals as goal

pub returns : goal.returns
returns g c ks seen =
    let head = c.index-head.result.now in
    subst (λ v. ◌≡◌ {A = ℕ × ℕ} (head.shares, head.orders) (totals_of (found (order_at v) ks))) c.self.view_is
    (totals_seen c.self.inside.nodes c.self.inside.heads c.args.queue ks head c.self.invariant (ap (λ v. keys_at v c.args.queue) c.self.view_is ∙ seen) c.index-head.ensures)
