-- Why a connection to a feed was lost, or could not be made.
use Rattle.std.specs.Prelude.{ℕ, ◌==◌, if◌then◌else◌}
use Rattle.std.specs.declared.io.ErrorKind.{ErrorKind}
use Rattle.std.specs.declared.io.ErrorKind.TheVariants as kind
use Rattle.itch_status.specs.declared.cause.LossCause.{LossCause}
use Rattle.itch_status.specs.declared.cause.LossCause.TheVariants as cause
use Rattle.itchsnap_live.specs.declared.feed_line.Trouble.{Trouble}
use Rattle.itchsnap_live.specs.declared.feed_line.Trouble.TheVariants as trouble

-- the cause for a failed call on a socket
abbrev pub kind_cause : ErrorKind → LossCause
kind_cause kind.ConnectionRefused = cause.Refused
kind_cause kind.ConnectionReset = cause.Reset
kind_cause kind.BrokenPipe = cause.Reset
kind_cause kind.TimedOut = cause.TimedOut
kind_cause kind.HostUnreachable = cause.Unreachable
kind_cause kind.NetworkUnreachable = cause.Unreachable
kind_cause kind.NetworkDown = cause.Unreachable
kind_cause _ = cause.Failed

-- the cause for the code of a rejection: A, 65, or S, 83
abbrev pub code_cause : ℕ → LossCause
code_cause code = if code == 65 then cause.WrongLogin else (if code == 83 then cause.NoSession else cause.Rejected)

-- the cause for a trouble
abbrev pub trouble_cause : Trouble → LossCause
trouble_cause trouble.GlimpseUnknown = cause.NotFound
trouble_cause (trouble.GlimpseRejected code) = code_cause code
trouble_cause trouble.Unknown = cause.NotFound
trouble_cause (trouble.Rejected code) = code_cause code
trouble_cause (trouble.OtherSession named wanted) = cause.OtherSession
trouble_cause (trouble.Gap next begins) = cause.Gap
trouble_cause (trouble.NoMemory next) = cause.NoMemory
trouble_cause (trouble.Cut why) = why
