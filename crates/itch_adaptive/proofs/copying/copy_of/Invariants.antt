use Rattle.std.proofs.Common.{◌≡◌}
use Rattle.itch_book.specs.Orders.{queues_below}
use Rattle.itch_adaptive.proofs.copying.copy_of.Given as goal

abbrev pub invariant-loop-locate : goal.invariant-loop-locate
invariant-loop-locate g l = g.T.OrderBook.orders l.copy ≡ queues_below l.locate (g.S.OrderBook.orders l.book)
