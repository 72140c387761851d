-- The exit status of a failed session, and the details that its line omits.
use Rattle.std.specs.Prelude.{ℕ, Option, Some, None}
use Rattle.std.specs.declared.io.Error.{Error}
use Rattle.itch_frame.specs.Statuses.{frame_error, frame_status}
use Rattle.itch_frame.specs.declared.fault.FrameFault.TheVariants.{Read, Write}
use Rattle.itch_market.specs.Statuses.{refusal_status, stop_error, stop_status}
use Rattle.itch_market.specs.declared.refusal.Refusal.TheVariants as refusal
use Rattle.itch_snapshot.specs.Statuses.{snapshot_error, snapshot_status}
use Rattle.itch_snapshot.specs.declared.fault.SnapFault.TheVariants as snapshot
use Rattle.itch_soup.specs.declared.fault.SoupFault.{SoupFault}
use Rattle.itch_soup.specs.declared.fault.SoupFault.TheVariants as soup
use Rattle.itch_sessions.specs.declared.session_fault.SessionCause.{SessionCause}
use Rattle.itch_sessions.specs.declared.session_fault.SessionDevice.{SessionDevice}
use Rattle.itch_sessions.specs.declared.session_fault.SessionDevice.TheVariants.{DayFile, Folder, Output, Socket}
use Rattle.itch_sessions.specs.declared.session_fault.SessionFault.{SessionFault}
use Rattle.itch_sessions.specs.declared.session_fault.SessionFault.TheVariants as session_fault

-- the status of a session that ended without the requested data
abbrev pub soup_status : SoupFault → ℕ
soup_status (soup.Frame fault) = frame_status fault
soup_status (soup.Snapshot (snapshot.Rule place reason)) = refusal_status reason
soup_status fault = 1

-- 1 for refused; 2 for usage; 3 for a read, a write, a file or a socket; 4 for memory
abbrev pub session_status : SessionFault → ℕ
session_status (session_fault.Open error) = 3
session_status (session_fault.Folder error) = 3
session_status (session_fault.Stopped end) = stop_status end.stop
session_status (session_fault.Snapshot fault) = snapshot_status fault
session_status (session_fault.Write error) = 3
session_status (session_fault.Socket error) = 3
session_status (session_fault.Soup fault) = soup_status fault
session_status session_fault.BadUser = 2
session_status session_fault.BadPassword = 2
session_status session_fault.TooMany = 1
session_status session_fault.OutOfMemory = 4

-- a device, if it failed with a system's error
abbrev pub cause_at : SessionDevice → Option Error → Option SessionCause
cause_at device None = None
cause_at device (Some error) = Some (record { device = device; error = error })

-- the system's error, if a read or a write of the socket failed
abbrev pub soup_error : SoupFault → Option Error
soup_error (soup.Frame fault) = frame_error fault
soup_error fault = None

-- the device that failed, with the system's error, if a device failed
abbrev pub cause_of : SessionFault → Option SessionCause
cause_of (session_fault.Open error) = Some (record { device = DayFile; error = error })
cause_of (session_fault.Folder error) = Some (record { device = Folder; error = error })
cause_of (session_fault.Stopped end) = cause_at DayFile (stop_error end.stop)
cause_of (session_fault.Snapshot fault) = cause_at Socket (snapshot_error fault)
cause_of (session_fault.Write error) = Some (record { device = Output; error = error })
cause_of (session_fault.Socket error) = Some (record { device = Socket; error = error })
cause_of (session_fault.Soup fault) = cause_at Socket (soup_error fault)
cause_of fault = None

-- how the peer of a session broke the protocol, if the line of the fault does not say so
abbrev pub peer_fault : SessionFault → Option SoupFault
peer_fault (session_fault.Soup (soup.Rejected code)) = None
peer_fault (session_fault.Soup soup.EndedEarly) = None
peer_fault (session_fault.Soup (soup.Frame (Read error))) = None
peer_fault (session_fault.Soup (soup.Frame (Write sent error))) = None
peer_fault (session_fault.Soup (soup.Snapshot (snapshot.Rule place refusal.OutOfMemory))) = None
peer_fault (session_fault.Soup fault) = Some fault
peer_fault fault = None
