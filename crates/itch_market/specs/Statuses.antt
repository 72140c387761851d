-- The exit status and the system error of a replay's stop.
use Rattle.std.specs.Prelude.{ℕ, Option, None}
use Rattle.std.specs.declared.io.Error.{Error}
use Rattle.itch_frame.specs.Statuses.{frame_error, frame_status}
use Rattle.itch_market.specs.declared.refusal.Refusal.{Refusal}
use Rattle.itch_market.specs.declared.refusal.Refusal.TheVariants as refusal
use Rattle.itch_market.specs.declared.stop.Stop.{Stop}
use Rattle.itch_market.specs.declared.stop.Stop.TheVariants.{Frame, Rule}

-- the exit status for a message that was refused: 4 if memory ran out, 1 for any other reason
abbrev pub refusal_status : Refusal → ℕ
refusal_status refusal.OutOfMemory = 4
refusal_status reason = 1

-- the exit status for a stop
abbrev pub stop_status : Stop → ℕ
stop_status (Frame fault) = frame_status fault
stop_status (Rule reason) = refusal_status reason
stop_status stop = 1

-- the system's own error, if a read or a write failed
abbrev pub stop_error : Stop → Option Error
stop_error (Frame fault) = frame_error fault
stop_error stop = None
