use Rattle.std.proofs.Common.{length, option_map}
use Rattle.itch_book.specs.Orders.{from_order}
use Rattle.itchsnap_c.proofs.ListedSoFar.{OrdersSoFar}
use Rattle.itchsnap_c.proofs.listings.orders_of.Given as goal

abbrev pub invariant-loop-next : goal.invariant-loop-next
invariant-loop-next g l = OrdersSoFar (g.B.OrderBook.orders l.book) l.locate (option_map (λ p. p.order.now) l.next) l.items.items

abbrev pub decreases-loop-next : goal.decreases-loop-next
decreases-loop-next g l = length (from_order (g.B.OrderBook.orders l.book) (option_map (λ p. p.order.now) l.next))
