use Rattle.std.proofs.Common.{refl}
use Rattle.itch_snapshot.specs.declared.sink.SnapshotSink.{SnapshotSink}
use Rattle.itch_snapshot.proofs.ReadSteps.{ends, ends_counts, ends_full}
use Rattle.itch_snapshot.proofs.read.read_all.Goals as goal

pub returns-in-TooMany-clause-steps : goal.returns-in-TooMany-clause-steps
returns-in-TooMany-clause-steps g c =
    let Sink = SnapshotSink g.row.B.Denot g.row.B-Alloc.Denot in
    ends_full g.R.CountedRead.remaining g.R.CountedRead.failures (λ (s : Sink). s.market) (λ (s : Sink). s.set) _ _ _ _ _ _ _ _ c.read_part-stop.ensures.reads c.requires refl c.read_part-stop.ensures.few
    c.read_last.new.reader c.read_last.result c.read_last.new.sink.market c.in-TooMany.is c.read_last.ensures.reader c.read_last.ensures.takes

pub returns : goal.returns
returns g c =
    let Sink = SnapshotSink g.row.B.Denot g.row.B-Alloc.Denot in
    let remaining = g.R.CountedRead.remaining in
    let failures = g.R.CountedRead.failures in
    let reads = c.read_part-stop.ensures.reads in
    record {
      steps = rw (c.end_of.ensures, c.pass_stop.ensures)
          (ends remaining failures (λ (s : Sink). s.market) (λ (s : Sink). s.set) _ _ _ _ _ _ _ _ reads c.requires refl c.read_part-stop.ensures.few c.whole.ensures c.in_default.not-TooMany);
      failures = rw (c.end_of.ensures, c.pass_stop.ensures)
          (ends_counts remaining failures (λ (s : Sink). s.market) (λ (s : Sink). s.set) _ _ _ _ _ _ _ _ reads c.requires refl c.read_part-stop.ensures.few);
    }
