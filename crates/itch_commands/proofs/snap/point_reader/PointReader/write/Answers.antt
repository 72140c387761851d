use Rattle.std.proofs.Common.{arith}
use Rattle.itch_day.specs.Passing.{left_by}
use Rattle.itch_commands.proofs.PointReadings.{point_written}
use Rattle.itch_commands.proofs.Snapshots.{cut_no_longer}
use Rattle.itch_commands.proofs.snap.point_reader.PointReader.write.Goals as goal

pub write-requires : goal.write-requires
write-requires g c = let pass = c.args.self.now in omega (arith, pass.few, pass.short, cut_no_longer c.args.only pass.tracked.sink)

pub returns : goal.returns
returns g c =
    let pass = c.args.self.now in
    let tracked = pass.tracked in
    point_written _ _ pass.limit.value pass.first.value (left_by pass.stop.value pass.reader) tracked.sink tracked.cursor pass.few c.requires g.W.CountedWrite.contents g.W.CountedWrite.failures c.args.only
    c.unwrap-next.result c.args.out.now c.write.new.out c.write.result (rw c.unwrap-next.ensures at c.new.ensures.number) c.write.ensures
