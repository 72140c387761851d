use Rattle.std.proofs.Common.{length}
use Rattle.std.specs.List.{filter}
use Rattle.itch_book.specs.Orders.{queue, is_worse}
use Rattle.itch_book.specs.Prices.{prices}
use Rattle.itch_commands.proofs.SideLines.{SideSoFar}
use Rattle.itch_depth.specs.Timed.{timed_row}
use Rattle.itch_depth.proofs.timed.write_timed_side.Given as goal

abbrev pub invariant-loop-price : goal.invariant-loop-price
invariant-loop-price g l =
    SideSoFar g.W.CountedWrite.contents g.W.CountedWrite.failures (timed_row l.rows.form l.time l.rows.locate l.rows.stock.now) (g.B.OrderBook.orders l.book) l.rows.locate l.fn.depth l.side l.last l.left l.initial.out l.out

abbrev pub decreases-loop-price : goal.decreases-loop-price
decreases-loop-price g l = length (filter (is_worse l.side l.last) (prices (queue (g.B.OrderBook.orders l.book) l.rows.locate l.side)))
