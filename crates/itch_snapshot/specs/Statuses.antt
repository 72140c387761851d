-- The exit status and the system error of a snapshot file that is refused.
use Rattle.std.specs.Prelude.{ℕ, Option, None}
use Rattle.std.specs.declared.io.Error.{Error}
use Rattle.itch_frame.specs.Statuses.{frame_error, frame_status}
use Rattle.itch_market.specs.Statuses.{refusal_status}
use Rattle.itch_snapshot.specs.declared.fault.SnapFault.{SnapFault}
use Rattle.itch_snapshot.specs.declared.fault.SnapFault.TheVariants.{Frame, Rule}

-- the exit status
abbrev pub snapshot_status : SnapFault → ℕ
snapshot_status (Frame fault) = frame_status fault
snapshot_status (Rule place reason) = refusal_status reason
snapshot_status fault = 1

-- the system's own error, if a read failed
abbrev pub snapshot_error : SnapFault → Option Error
snapshot_error (Frame fault) = frame_error fault
snapshot_error fault = None
