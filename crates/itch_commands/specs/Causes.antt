-- The cause of a fault that its line does not include.
use Rattle.std.specs.Prelude.{Option, Some, None}
use Rattle.std.specs.declared.io.Error.{Error}
use Rattle.itch_market.specs.Statuses.{stop_error}
use Rattle.itch_snapshot.specs.Statuses.{snapshot_error}
use Rattle.itch_commands.specs.declared.fault.Source.{Source}
use Rattle.itch_commands.specs.declared.fault.Source.TheVariants.{Output}
use Rattle.itch_commands.specs.declared.fault.ToolFault.{ToolFault}
use Rattle.itch_commands.specs.declared.fault.ToolFault.TheVariants as tool

-- the file at which a command failed, if there is one
abbrev pub source_of : ToolFault → Option Source
source_of (tool.Stopped file end) = Some file
source_of (tool.Snap file fault) = Some file
source_of (tool.Short file count) = Some file
source_of (tool.Open file error) = Some file
source_of (tool.Write error) = Some Output
source_of fault = None

-- the system's error, if there was one and memory did not run out
abbrev pub error_of : ToolFault → Option Error
error_of (tool.Stopped file end) = stop_error end.stop
error_of (tool.Snap file fault) = snapshot_error fault
error_of (tool.Open file error) = Some error
error_of (tool.Write error) = Some error
error_of fault = None
