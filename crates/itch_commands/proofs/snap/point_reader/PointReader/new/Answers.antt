use Rattle.std.proofs.Common.{[], Some, length, ap, arith}
use Rattle.itch_snapshot.specs.Snapshot.{snap}
use Rattle.itch_snapshot.proofs.Sizes.{short_snap}
use Rattle.itch_day.specs.declared.cursor.DayCursor.{DayCursor}
use Rattle.itch_commands.proofs.PointReadings.{stands_first}
use Rattle.itch_commands.proofs.snap.point_reader.PointReader.new.Goals as goal

pub invariant_of-result : goal.invariant_of-result
invariant_of-result g c =
    let none = ap (λ (k : DayCursor). k.count) c.new-2.ensures in
    record { few = omega (arith, none); short = omega (arith, none, ap (λ m. length (snap m)) c.new.ensures, short_snap [] tt tt) }

pub returns-clause-stands : goal.returns-clause-stands
returns-clause-stands g c =
    rw (c.of-first.ensures, c.of.ensures, c.of-2.ensures) (stands_first _ _ (Some 0) c.args.reader c.new.result c.new-2.result c.new.ensures c.new-2.ensures)
