use Rattle.std.proofs.Common.{sym, subst}
use Rattle.slab.specs.Slab.{Slab, get}
use Rattle.itch_book.specs.declared.queues.Node.{Node}
use Rattle.itch_book.specs.declared.queues.Head.{Head}
use Rattle.itch_book.specs.Links.{IsSound}
use Rattle.itch_book.proofs.queues.Queues.reserve.Goals as goal

pub invariant_of-self : goal.invariant_of-self
invariant_of-self g c = subst (λ (s : Slab Node). IsSound (get s) (get c.self.inside.heads)) (sym c.reserve.ensures.rest_kept) c.self.invariant

pub invariant_of-self-2 : goal.invariant_of-self-2
invariant_of-self-2 g c =
    subst (λ (s : Slab Head). IsSound (get c.reserve.new.self) (get s)) (sym c.reserve-2.ensures.rest_kept)
    (subst (λ (s : Slab Node). IsSound (get s) (get c.self.inside.heads)) (sym c.in_ok-reserve.ensures.rest_kept) c.self.invariant)
