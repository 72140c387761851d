-- The exit status of the program.
use Rattle.std.specs.Prelude.{ℕ, Bool, true, false, Result, Ok, Err}
use Rattle.itch_market.specs.Statuses.{stop_status}
use Rattle.itch_snapshot.specs.Statuses.{snapshot_status}
use Rattle.itch_commands.specs.declared.fault.ToolFault.{ToolFault}
use Rattle.itch_commands.specs.declared.fault.ToolFault.TheVariants as tool

-- 1 refused; 2 usage; 3 read, write or file; 4 memory
abbrev pub status_of : ToolFault → ℕ
status_of (tool.Stopped file end) = stop_status end.stop
status_of (tool.Snap file fault) = snapshot_status fault
status_of (tool.Short file count) = 1
status_of (tool.UnmetExpectation unmet) = 1
status_of (tool.FeedMismatch mismatch) = 1
status_of tool.UnknownLocate = 1
status_of tool.UnknownStock = 1
status_of (tool.Write error) = 3
status_of tool.OutOfMemory = 4
status_of (tool.Open file error) = 3
status_of tool.BadLocates = 2
status_of tool.TooMany = 1

-- the status of a command that was performed: 0 for true and 1 for false
abbrev pub exit_status : Result Bool ToolFault → ℕ
exit_status (Ok true) = 0
exit_status (Ok false) = 1
exit_status (Err fault) = status_of fault
