use Rattle.std.proofs.Common.{refl, sym, ◌∙◌, arith}
use Rattle.itch_commands.proofs.PointPasses.{counted_then, stands_then}
use Rattle.itch_commands.proofs.PointReadings.{count_on, reached_to, short_on, stopped_to}
use Rattle.itch_commands.proofs.snap.point_reader.PointReader.read_to.Goals as goal

pub invariant_of-self : goal.invariant_of-self
invariant_of-self g c =
    let market = c.recall_invariant.ensures in
    let old = c.args.self.now in
    let new = c.read_further-stop.new in
    let stop = c.read_further-stop.result in
    let part = c.read_further-stop.ensures.part in
    let counted = count_on _ _ c.args.limit old.reader new.reader _ new.count old.tracked new.sink stop part refl in
    record {
      few = omega (arith, c.read_further-stop.ensures.few, counted);
      short = rw c.settle.ensures
          (short_on _ _ c.args.limit old.reader new.reader _ new.count old.tracked new.sink stop part refl (rw c.whole.ensures at market.good) (rw c.whole.ensures at market.in_order) old.short);
    }

pub returns-in-None-clause-stands : goal.returns-in-None-clause-stands
returns-in-None-clause-stands g c =
    let old = c.args.self.now in
    let new = c.read_further-stop.new in
    rw (c.settle.ensures, c.of-2.ensures)
    (stands_then _ _ c.args.limit old.reader new.reader new.count old.tracked new.sink c.read_further-stop.result c.read_further-stop.ensures.part old.first.value old.limit.value old.stop.value
    c.requires.stands c.requires.goes_on)

pub returns-in-None-clause-reads : goal.returns-in-None-clause-reads
returns-in-None-clause-reads g c =
    let old = c.args.self.now in
    let new = c.read_further-stop.new in
    let result = c.read_further-stop.result in
    let reads = c.read_further-stop.ensures.part in
    let counted = counted_then _ _ c.args.limit old.reader new.reader new.count old.tracked new.sink result reads in
    let on = stands_then _ _ c.args.limit old.reader new.reader new.count old.tracked new.sink result reads old.first.value old.limit.value old.stop.value c.requires.stands c.requires.goes_on in
    rw (c.settle.ensures, c.of-2.ensures)
    (reached_to _ _ c.args.limit old.first.value new.reader new.sink (omega (arith, c.read_further-stop.ensures.few, counted)) result on (sym c.reason_of.ensures ∙ c.in-None.is) new.count (sym counted))

pub returns-in-Some-clause-stands : goal.returns-in-Some-clause-stands
returns-in-Some-clause-stands g c =
    let old = c.args.self.now in
    let new = c.read_further-stop.new in
    rw (c.settle.ensures, c.of-2.ensures)
    (stands_then _ _ c.args.limit old.reader new.reader new.count old.tracked new.sink c.read_further-stop.result c.read_further-stop.ensures.part old.first.value old.limit.value old.stop.value
    c.requires.stands c.requires.goes_on)

pub returns-in-Some-clause-reads : goal.returns-in-Some-clause-reads
returns-in-Some-clause-reads g c =
    let old = c.args.self.now in
    let new = c.read_further-stop.new in
    let result = c.read_further-stop.result in
    let reads = c.read_further-stop.ensures.part in
    let counted = counted_then _ _ c.args.limit old.reader new.reader new.count old.tracked new.sink result reads in
    let on = stands_then _ _ c.args.limit old.reader new.reader new.count old.tracked new.sink result reads old.first.value old.limit.value old.stop.value c.requires.stands c.requires.goes_on in
    rw (c.settle.ensures, c.of-2.ensures)
    (stopped_to _ _ c.args.limit old.first.value new.reader new.sink (omega (arith, c.read_further-stop.ensures.few, counted)) result on c.in-Some.stop (sym c.reason_of.ensures ∙ c.in-Some.is) new.count (sym counted)
    c.stopped.result c.stopped.ensures)
