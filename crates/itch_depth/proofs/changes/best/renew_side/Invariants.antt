use Rattle.std.proofs.Common.{◌≡◌, ◌≤◌}
use Rattle.itch_depth.proofs.LookedAt.{LookedAt}
use Rattle.itch_depth.proofs.changes.best.renew_side.Given as goal

abbrev pub invariant-loop-place : goal.invariant-loop-place
invariant-loop-place g l = record {
  at : l.count ≡ l.place;
  most : l.place ≤ l.depth;
  looked : LookedAt (g.B.OrderBook.orders l.book) l.locate l.side l.fn.known.items l.count l.last l.known.items l.changed;
}
