-- The end of the program.
use Rattle.std.specs.Prelude.{◌≡◌, ℕ, Bool, Result, Ok, Err}
use Rattle.std.specs.IoError.{error_kind}
use Rattle.std.specs.declared.io.ErrorKind.TheVariants.{BrokenPipe}
use Rattle.itch_commands.specs.Statuses.{status_of}
use Rattle.itch_commands.specs.Statuses as commands
use Rattle.itch_commands.specs.declared.fault.ToolFault.TheVariants as tool
use Rattle.itch_sessions.specs.SessionFaults.{session_status}
use Rattle.itch_sessions.specs.declared.session_fault.SessionFault.TheVariants as session_fault
use Rattle.itch_tool.specs.declared.failure.Failure.{Failure}
use Rattle.itch_tool.specs.declared.failure.Failure.TheVariants.{Command, Session, Open, NoOrder, OnlyOnce, Checkpoint, NotPlaced, Index, SameFile, Users, Said}

-- the exit status for a failure
abbrev pub failure_status : Failure → ℕ
failure_status (Command fault checkpoint) = status_of fault
failure_status (Session fault) = session_status fault
failure_status (Open name error) = 3
failure_status (NoOrder reference) = 1
failure_status (OnlyOnce path) = 3
failure_status (Checkpoint why detail) = 1
failure_status (NotPlaced path) = 3
failure_status (Index why detail) = 1
failure_status (SameFile path) = 3
failure_status (Users path fault) = 2
failure_status (Said status) = status

-- the exit status for a job: that of its answer, or of its failure
abbrev pub exit_status : Result Bool Failure → ℕ
exit_status (Ok answer) = commands.exit_status (Ok answer)
exit_status (Err failure) = failure_status failure

-- a job that failed at a write to a closed pipe
abbrev pub EndsByClosedPipe : Result Bool Failure → Type 0
EndsByClosedPipe (Err (Command (tool.Write error) checkpoint)) = error_kind error ≡ BrokenPipe
EndsByClosedPipe (Err (Session (session_fault.Write error))) = error_kind error ≡ BrokenPipe
EndsByClosedPipe outcome = ⊥
