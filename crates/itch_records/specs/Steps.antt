-- The effects of news from a feed on a follower.
use Rattle.std.specs.Prelude.{ℕ, ◌-◌, ◌==◌, ◌&&◌, not, Bool, true, false, Option, None, Some, Result, Ok, Err}
use Rattle.itch_frame.specs.declared.fault.FrameFault.{FrameFault}
use Rattle.itch_frame.specs.declared.fault.FrameFault.TheVariants as frame
use Rattle.itch_market.specs.declared.stop.Stop.{Stop}
use Rattle.itch_market.specs.declared.stop.Stop.TheVariants as stop
use Rattle.itch_snapshot.specs.declared.fault.SnapFault.{SnapFault}
use Rattle.itch_snapshot.specs.declared.fault.SnapFault.TheVariants as snap
use Rattle.itch_join.specs.declared.fault.Cause.{Cause}
use Rattle.itch_join.specs.declared.fault.Cause.TheVariants as cause
use Rattle.itch_join.specs.declared.fault.JoinFault.{JoinFault}
use Rattle.itch_join.specs.declared.fault.JoinFault.TheVariants as join
use Rattle.itch_live.specs.declared.news.News.{News}
use Rattle.itch_live.specs.declared.news.News.TheVariants as news
use Rattle.itch_sessions.specs.declared.session_fault.SessionFault.{SessionFault}
use Rattle.itch_sessions.specs.declared.session_fault.SessionFault.TheVariants as session_fault
use Rattle.itch_records.specs.declared.step.Step.{Step}
use Rattle.itch_records.specs.declared.step.Step.TheVariants.{On, Accepted, Joined, Taken, Ended, Rejected, OtherSession, NoMemory, Lost}

-- the reason why a message of the feed is refused, as a replay reports it
abbrev pub stop_of : Cause → Stop
stop_of (cause.Codec fault) = stop.Codec fault
stop_of (cause.Rule refusal) = stop.Rule refusal
stop_of cause.TooMany = stop.TooManyMessages

-- the reason why a message of the snapshot is refused, as a reader of snapshots reports it
abbrev pub snapshot_fault_of : ℕ → Cause → SnapFault
snapshot_fault_of place (cause.Codec fault) = snap.Codec place fault
snapshot_fault_of place (cause.Rule refusal) = snap.Rule place refusal
snapshot_fault_of place cause.TooMany = snap.TooManyMessages

-- the fault for a message that could not be recorded
abbrev pub unrecorded : FrameFault → SessionFault
unrecorded (frame.Write sent error) = session_fault.Write error
unrecorded (frame.Read error) = session_fault.Stopped (record { count = 0; stop = stop.Frame (frame.Read error) })
unrecorded (frame.Truncated held) = session_fault.Stopped (record { count = 0; stop = stop.Frame (frame.Truncated held) })
unrecorded frame.TooLong = session_fault.Stopped (record { count = 0; stop = stop.Frame frame.TooLong })

-- the number of messages before the last one, if the next one has this number
abbrev pub before_last : Option ℕ → ℕ
before_last None = 0
before_last (Some next) = next - 2

-- a failed write to the record is attributed to the last message applied
abbrev pub record_fault : SessionFault → Option ℕ → SessionFault
record_fault (session_fault.Write error) next = session_fault.Stopped (record { count = before_last next; stop = stop.Frame (frame.Write 0 error) })
record_fault fault next = fault

-- a message that is invalid or breaks an order rule ends the follower, and so does one that was applied and could not be recorded; a new
-- connection remedies everything else
abbrev pub refusal_of : JoinFault → Result Step SessionFault
refusal_of (join.Halted number cause) = Err (session_fault.Stopped (record { count = number - 1; stop = stop_of cause }))
refusal_of (join.BadSnapshot place cause) = Err (session_fault.Snapshot (snapshot_fault_of place cause))
refusal_of (join.OutOfMemory true) = Err session_fault.OutOfMemory
refusal_of (join.OutOfMemory false) = Ok NoMemory
refusal_of (join.Full cap) = Ok Lost
refusal_of (join.Conflict number) = Ok Lost
refusal_of join.BadNumber = Ok Lost
refusal_of join.Joined = Ok Lost

-- the next step of a follower after a piece of news, or the fault that ends it
abbrev pub step_of : News → Result Step SessionFault
step_of news.Nothing = Ok On
step_of (news.Accepted next) = Ok (Accepted next)
step_of (news.Joined next) = Ok (Joined next)
step_of (news.Taken next) = Ok (Taken next)
step_of news.Ended = Ok Ended
step_of (news.Broken fault) = Ok Lost
step_of (news.OtherSession named) = Ok (OtherSession named)
step_of (news.Rejected code) = Ok (Rejected code)
step_of (news.Refused fault) = refusal_of fault
step_of (news.Unrecorded fault) = Err (unrecorded fault)

-- a rejection ends the follower if its first login is not authorised: code A
abbrev pub rejection_ends : ℕ → Bool → Bool
rejection_ends code accepted = code == 65 && not accepted
