use Rattle.std.proofs.Common.{length}
use Rattle.std.specs.List.{filter}
use Rattle.itch_book.specs.Orders.{queue, is_worse}
use Rattle.itch_book.specs.Prices.{prices}
use Rattle.itchsnap_c.proofs.ListedSoFar.{LevelsSoFar}
use Rattle.itchsnap_c.proofs.listings.levels_of.Given as goal

abbrev pub invariant-loop-price : goal.invariant-loop-price
invariant-loop-price g l = LevelsSoFar (g.B.OrderBook.orders l.book) l.locate l.side l.last l.items.items

abbrev pub decreases-loop-price : goal.decreases-loop-price
decreases-loop-price g l = length (filter (is_worse l.side l.last) (prices (queue (g.B.OrderBook.orders l.book) l.locate l.side)))
