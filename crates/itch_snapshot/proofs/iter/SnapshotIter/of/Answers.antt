use Rattle.itch_snapshot.specs.Cursor.{in_set}
use Rattle.itch_snapshot.proofs.Cursors.{cursor_among}
use Rattle.itch_snapshot.proofs.PartialSnapshots.{left_in}
use Rattle.itch_snapshot.proofs.iter.SnapshotIter.of.Goals as goal

pub invariant_of-result : goal.invariant_of-result
invariant_of-result g c = rw c.locates.ensures (cursor_among c.args.market.now (in_set c.args.set))

pub returns : goal.returns
returns g c = rw (c.phase.ensures, c.locates.ensures) (left_in c.args.set c.args.market.now)
