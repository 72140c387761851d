use Rattle.itch_frame.specs.Reading.{bytes_left}
use Rattle.itch_commands.proofs.Snapshots.{read_short}
use Rattle.itch_commands.proofs.kind.snapshot_market.Goals as goal

pub returns-in-Ok-clause-reads : goal.returns-in-Ok-clause-reads
returns-in-Ok-clause-reads g c = rw c.settled.ensures (c.in-Ok.ensures.market, c.in-Ok.ensures.steps, c.in-Ok.ensures.failures)

pub returns-in-Ok-clause-few : goal.returns-in-Ok-clause-few
returns-in-Ok-clause-few g c =
    rw c.settled.ensures
    (read_short (bytes_left g.R.CountedRead.remaining c.args.reader.now) (bytes_left g.R.CountedRead.remaining c.read_snapshot.new.reader) (c.in-Ok.market, c.in-Ok.next) c.in-Ok.ensures.steps)
