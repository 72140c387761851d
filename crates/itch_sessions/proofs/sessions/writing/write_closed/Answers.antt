use Rattle.itch_snapshot.proofs.FailedWrites.{snapshot_cut}
use Rattle.itch_sessions.proofs.sessions.writing.write_closed.Goals as goal

pub returns-in-Err-Write : goal.returns-in-Err-Write
returns-in-Err-Write g c =
    snapshot_cut g.W.CountedWrite.contents g.W.CountedWrite.failures c.args.market.now c.args.next c.in-Err-Write.field-0-0 c.in-Err-Write.error
    c.args.out.now c.write_snapshot_of.new.writer
    (rw c.in-Err-Write.field-0-is at c.in-Err-Write.ensures)
