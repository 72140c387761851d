use Rattle.itch_snapshot.specs.Cursor.{cut_to}
use Rattle.itch_snapshot.specs.Snapshot.{snap}
use Rattle.itch_snapshot.proofs.WrittenBlocks.{WrittenSoFar}
use Rattle.itch_snapshot.proofs.write.write_snapshot_of.Given as goal

abbrev pub invariant-loop-message : goal.invariant-loop-message
invariant-loop-message g l =
    WrittenSoFar g.W.CountedWrite.contents g.W.CountedWrite.failures (snap (cut_to l.fn.set l.fn.market)) l.initial.writer l.yielded l.message-iterator l.count l.writer
