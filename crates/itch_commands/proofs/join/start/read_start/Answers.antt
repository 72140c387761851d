use Rattle.std.proofs.Common.{refl, sym, subst, Ok}
use Rattle.itch_frame.specs.Reading.{bytes_left}
use Rattle.itch_market.specs.Wanted.{has}
use Rattle.itch_snapshot.specs.AsRead.{as_read}
use Rattle.itch_join.specs.Takings.{IsJoined}
use Rattle.itch_commands.specs.Joiners.{IsStart}
use Rattle.itch_commands.specs.Joining.{Start, ReadsStart}
use Rattle.itch_commands.proofs.SnapshotFaults.{fault_seen}
use Rattle.itch_commands.proofs.SnapshotStarts.{is_start, joined_at}
use Rattle.itch_commands.proofs.join.start.read_start.Goals as goal

pub returns-in-Ok-clause-start : goal.returns-in-Ok-clause-start
returns-in-Ok-clause-start g c =
    let remaining = g.R.CountedRead.remaining in
    let old = bytes_left remaining c.args.reader.now in
    let new = bytes_left remaining c.read_snapshot.new.reader in
    let read = as_read (has c.args.joiner.now.set) in
    let (start, reads, now) = c.in-Ok.ensures.joins in
    let at = joined_at c.read_snapshot.new.self.state start now in
    subst (λ (s : Start). ReadsStart read remaining g.R.CountedRead.failures c.args.reader.now c.read_snapshot.new.reader (Ok s) × IsJoined c.read_snapshot.new.self.state × IsStart s) (sym at.1)
    ((reads, c.in-Ok.ensures.failures), at.0, is_start read old new start.1 start.0 reads)

pub returns-in-Err-clause-start : goal.returns-in-Err-clause-start
returns-in-Err-clause-start g c =
    let remaining = g.R.CountedRead.remaining in
    let reads = c.in-Err.ensures.joins.0 in (
      refl,
      reads,
      fault_seen (has c.args.joiner.now.set) (bytes_left remaining c.args.reader.now) (bytes_left remaining c.read_snapshot.new.reader) reads.0 c.in-Err.fault reads.1,
      c.in-Err.ensures.failures,
    )
