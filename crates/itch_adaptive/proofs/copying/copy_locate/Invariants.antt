use Rattle.std.proofs.Common.{length, option_map}
use Rattle.itch_book.specs.Orders.{from_order}
use Rattle.itch_adaptive.proofs.CopiedBooks.{CopiedSoFar}
use Rattle.itch_adaptive.proofs.copying.copy_locate.Given as goal

abbrev pub invariant-loop-next : goal.invariant-loop-next
invariant-loop-next g l = CopiedSoFar (g.S.OrderBook.orders l.book) l.locate (option_map (λ p. p.order.now) l.next) (g.T.OrderBook.orders l.copy)

abbrev pub decreases-loop-next : goal.decreases-loop-next
decreases-loop-next g l = length (from_order (g.S.OrderBook.orders l.book) (option_map (λ p. p.order.now) l.next))
