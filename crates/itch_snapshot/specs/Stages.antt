-- Whether a snapshot takes a further message.
use Rattle.std.specs.Prelude.{Result, Ok, Err}
use Rattle.itch_snapshot.specs.declared.fault.SnapFault.{SnapFault}
use Rattle.itch_snapshot.specs.declared.fault.SnapFault.TheVariants.{AfterEnd}
use Rattle.itch_snapshot.specs.declared.reader.SnapshotStage.{SnapshotStage}
use Rattle.itch_snapshot.specs.declared.reader.SnapshotStage.TheVariants.{Taking, Broken, Closed}

-- the fault of every further message, after one was not taken or after the End of Snapshot
abbrev pub opened : SnapshotStage → Result (Unit {0}) SnapFault
opened Taking = Ok tt
opened (Broken fault) = Err fault
opened (Closed next) = Err AfterEnd
