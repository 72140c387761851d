-- The exit status of a live server.
use Rattle.std.specs.Prelude.{ℕ}
use Rattle.itch_market.specs.Statuses.{stop_status}
use Rattle.itch_sessions.specs.SessionFaults.{session_status}
use Rattle.itch_records.specs.declared.fault.LiveFault.{LiveFault}
use Rattle.itch_records.specs.declared.fault.LiveFault.TheVariants.{Session, Record, SessionFile, StatusPort, InUse, OtherSession, Refused, GlimpseSession}
use Rattle.itch_records.specs.declared.fault.RecordFault.{RecordFault}
use Rattle.itch_records.specs.declared.fault.RecordFault.TheVariants as «record»

-- the status for a record: as for a day file that is replayed; 3 if its file was changed
abbrev pub record_status : RecordFault → ℕ
record_status («record».Refused end) = stop_status end.stop
record_status «record».UnknownSession = 1
record_status «record».BadSession = 1
record_status («record».NotOf session named) = 1
record_status («record».OtherSession session named) = 1
record_status («record».Changed change) = 3

-- the status for a fault
abbrev pub live_status : LiveFault → ℕ
live_status (Session fault) = session_status fault
live_status (Record fault) = record_status fault
live_status (SessionFile error) = 3
live_status (StatusPort error) = 3
live_status (InUse owned) = 3
live_status (Refused fault session server) = session_status fault
live_status (OtherSession server named wanted) = 1
live_status (GlimpseSession snapshot feed) = 1
