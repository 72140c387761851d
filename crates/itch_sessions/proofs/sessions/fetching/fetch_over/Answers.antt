use Rattle.std.proofs.Common.{inr}
use Rattle.itch_sessions.proofs.Fetched.{fetched_short}
use Rattle.itch_sessions.proofs.sessions.fetching.fetch_over.Goals as goal

pub write_closed-requires : goal.write_closed-requires
write_closed-requires g c =
    rw c.settle.ensures (fetched_short g.R.CountedRead.remaining g.R.CountedRead.failures g.V.CountedWrite.contents g.V.CountedWrite.failures c.args.credentials.now
    c.args.reader.now c.fetch_one-fetched.new.reader c.args.writer.now c.fetch_one-fetched.new.writer _ c.in-Ok.ensures)

pub returns-in-Ok : goal.returns-in-Ok
returns-in-Ok g c = inr (_, c.in-Ok.ensures, rw c.settle.ensures at c.write_closed.ensures)
