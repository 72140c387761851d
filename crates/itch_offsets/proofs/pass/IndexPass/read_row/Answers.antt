use Rattle.std.proofs.Common.{arith}
use Rattle.itch_offsets.proofs.RowReadings.{row_counted, row_read}
use Rattle.itch_offsets.proofs.pass.IndexPass.read_row.Goals as goal

pub invariant_of-self : goal.invariant_of-self
invariant_of-self g c =
    let old = c.args.self.now in
    let new = c.read_part-stop.new in
    let reads = rw (c.clear.ensures, c.row_part-part.ensures) at c.read_part-stop.ensures.reads in
    let counted = row_counted g.R.CountedRead.remaining g.R.CountedRead.failures c.args.limit old.reader new.reader old.tracked.cursor new.count c.read_part-stop.result new.sink reads in
    record { few = omega (arith, c.read_part-stop.ensures.few, counted) }

pub returns : goal.returns
returns g c =
    let old = c.args.self.now in
    let new = c.read_part-stop.new in
    let reads = rw (c.clear.ensures, c.row_part-part.ensures) at c.read_part-stop.ensures.reads in
    row_read g.R.CountedRead.remaining g.R.CountedRead.failures c.args.limit old.reader new.reader old.tracked.cursor new.count c.read_part-stop.result new.sink reads c.answer.result c.answer.ensures
