use Rattle.std.specs.List.{range_with_len}
use Rattle.itch_depth.specs.Changes.{cells_at}
use Rattle.itch_depth.proofs.PartsInTurn.{AreWritten}
use Rattle.itch_depth.proofs.changes.lines.write_places.Given as goal

abbrev pub invariant-loop-place : goal.invariant-loop-place
invariant-loop-place g l =
    AreWritten g.W.CountedWrite.contents g.W.CountedWrite.failures (cells_at l.change.asks.now l.change.bids.now) (range_with_len 0 l.depth) l.fn.out l.place l.out
