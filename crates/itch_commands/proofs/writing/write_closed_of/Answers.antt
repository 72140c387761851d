use Rattle.itch_snapshot.specs.Cursor.{cut_to}
use Rattle.itch_snapshot.proofs.FailedWrites.{snapshot_cut}
use Rattle.itch_commands.proofs.writing.write_closed_of.Goals as goal

pub returns-in-Err-Write : goal.returns-in-Err-Write
returns-in-Err-Write g c =
    snapshot_cut g.W.CountedWrite.contents g.W.CountedWrite.failures (cut_to c.args.set c.args.market.now) c.args.next c.in-Err-Write.field-0-0 c.in-Err-Write.error
    c.args.out.now c.write_snapshot_of.new.writer
    (rw c.in-Err-Write.field-0-is at c.in-Err-Write.ensures)
