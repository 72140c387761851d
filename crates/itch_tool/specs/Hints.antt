-- Hints for refused files and sessions.
use Rattle.std.specs.Prelude.{ℕ, ◌==◌, if◌then◌else◌, Option, Some, None}
use Rattle.itch_commands.specs.declared.fault.ToolFault.{ToolFault}
use Rattle.itch_commands.specs.declared.fault.ToolFault.TheVariants as tool
use Rattle.itch_market.specs.declared.refusal.Refusal.TheVariants as refusal
use Rattle.itch_market.specs.declared.stop.Stop.{Stop}
use Rattle.itch_market.specs.declared.stop.Stop.TheVariants as stop
use Rattle.itch_sessions.specs.declared.session_fault.SessionFault.{SessionFault}
use Rattle.itch_sessions.specs.declared.session_fault.SessionFault.TheVariants as session_fault
use Rattle.itch_snapshot.specs.declared.fault.SnapFault.TheVariants as snapshot
use Rattle.itch_soup.specs.declared.fault.SoupFault.TheVariants as soup
use Rattle.itch_tool.specs.declared.hints.LoginHint.{LoginHint}
use Rattle.itch_tool.specs.declared.hints.LoginHint.TheVariants as login
use Rattle.itch_tool.specs.declared.hints.Mixup.{Mixup}
use Rattle.itch_tool.specs.declared.hints.Mixup.TheVariants.{SnapshotAsDay, DayAsSnapshot}

-- an End of Snapshot in a day file
abbrev pub stop_mixup : Stop → Option Mixup
stop_mixup (stop.Rule refusal.UnexpectedEnd) = Some SnapshotAsDay
stop_mixup stop = None

-- the fault of a file that may be of the other kind
abbrev pub mixup_of : ToolFault → Option Mixup
mixup_of (tool.Stopped file end) = stop_mixup end.stop
mixup_of (tool.Snap file snapshot.NoEnd) = Some DayAsSnapshot
mixup_of fault = None

-- the hint for the code of a rejection: A, 65, or S, 83
abbrev pub rejection_hint : ℕ → Option LoginHint
rejection_hint code = if code == 65 then Some login.WrongLogin else (if code == 83 then Some login.NoSession else None)

-- the hint for the login of a failed session
abbrev pub login_hint : SessionFault → Option LoginHint
login_hint session_fault.BadUser = Some login.User
login_hint session_fault.BadPassword = Some login.Password
login_hint (session_fault.Soup (soup.Rejected code)) = rejection_hint code
login_hint fault = None
