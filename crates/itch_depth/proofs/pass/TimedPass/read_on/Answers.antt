use Rattle.itch_depth.specs.declared.pass.markets.OwnMarkets.{OwnMarkets}
use Rattle.itch_depth.proofs.TimedParts.{timed_apart, timed_kept, timed_stops}
use Rattle.itch_depth.proofs.pass.TimedPass.read_on.Goals as goal

pub returns-clause-reads : goal.returns-clause-reads
returns-clause-reads g c = λ first before stop tracked stands at to.
    let Sink = OwnMarkets g.row.B.Denot g.row.B-Alloc.Denot in
    let it = c.args.self.now in
    let new = c.read_part-stop.new in
    let old : Sink = record it.markets { until = c.args.until } in
    let reads = rw c.whole.ensures at c.read_part-stop.ensures.reads in
    rw (c.reason_of.ensures, c.settle.ensures)
    (timed_stops g.R.CountedRead.remaining g.R.CountedRead.failures (λ (s : Sink). s.locates) (λ (s : Sink). s.market) (λ (s : Sink). s.own) (λ (s : Sink). s.until)
    it.reader new.reader it.count new.count old new.sink c.read_part-stop.result reads first before stop tracked stands at to)

pub returns-clause-apart : goal.returns-clause-apart
returns-clause-apart g c =
    let Sink = OwnMarkets g.row.B.Denot g.row.B-Alloc.Denot in
    let it = c.args.self.now in
    let new = c.read_part-stop.new in
    let old : Sink = record it.markets { until = c.args.until } in
    let reads = rw c.whole.ensures at c.read_part-stop.ensures.reads in
    rw (c.reason_of.ensures, c.settle.ensures)
    (timed_apart g.R.CountedRead.remaining g.R.CountedRead.failures (λ (s : Sink). s.locates) (λ (s : Sink). s.market) (λ (s : Sink). s.own) (λ (s : Sink). s.until)
    it.reader new.reader it.count new.count old new.sink c.read_part-stop.result reads c.read_part-stop.ensures.ready)

pub returns-clause-kept : goal.returns-clause-kept
returns-clause-kept g c =
    let Sink = OwnMarkets g.row.B.Denot g.row.B-Alloc.Denot in
    let it = c.args.self.now in
    let new = c.read_part-stop.new in
    let old : Sink = record it.markets { until = c.args.until } in
    let reads = rw c.whole.ensures at c.read_part-stop.ensures.reads in
    rw c.settle.ensures
    (timed_kept g.R.CountedRead.remaining g.R.CountedRead.failures (λ (s : Sink). s.locates) (λ (s : Sink). s.market) (λ (s : Sink). s.own) (λ (s : Sink). s.until)
    it.reader new.reader it.count new.count old new.sink c.read_part-stop.result reads)
