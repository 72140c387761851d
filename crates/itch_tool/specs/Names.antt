-- The subject of a failure, and its name.
use Rattle.std.specs.Prelude.{◌≡◌, ℕ, List, Option, Some, None, option_map}
use Rattle.std.specs.Borrow.{Bor}
use Rattle.itch_commands.specs.declared.fault.Source.{Source}
use Rattle.itch_commands.specs.declared.fault.Source.TheVariants as source
use Rattle.itch_commands.specs.declared.request.Request.{Request}
use Rattle.itch_commands.specs.declared.request.Request.TheVariants.{One, Two, At}
use Rattle.itch_sessions.specs.declared.session_fault.SessionDevice.{SessionDevice}
use Rattle.itch_sessions.specs.declared.session_fault.SessionDevice.TheVariants as device
use Rattle.itch_tool.specs.declared.names.CommandFiles.{CommandFiles}
use Rattle.itch_tool.specs.declared.names.Name.{Name}
use Rattle.itch_tool.specs.declared.names.Name.TheVariants as name
use Rattle.itch_tool.specs.declared.names.SessionNames.{SessionNames}
use Rattle.itch_tool.specs.declared.names.Subject.{Subject}
use Rattle.itch_tool.specs.declared.names.Subject.TheVariants as subject

-- the input at a path, or else standard input
abbrev pub input_name : Option (Bor (List ℕ)) → Name
input_name None = name.Input
input_name (Some path) = name.Path path

-- the output at a path, or else standard output
abbrev pub output_name : Option (Bor (List ℕ)) → Name
output_name None = name.Output
output_name (Some path) = name.Path path

-- the file of a command that has the fault
abbrev pub subject_of : CommandFiles → Source → Subject
subject_of files source.Only = subject.Input files.last
subject_of files source.First = subject.Input files.first
subject_of files source.Second = subject.Input files.last
subject_of files source.Snapshot = subject.Input files.first
subject_of files source.Output = subject.Output files.output

-- the name of the device that failed in a session
abbrev pub name_of : SessionNames → SessionDevice → Name
name_of names device.DayFile = input_name names.day_file
name_of names device.Folder = input_name names.folder
name_of names device.Output = output_name names.output
name_of names device.Socket = names.peer

-- the path of the first of two files that a request reads, or of the only one
abbrev pub first_path : Request → Option (Bor (List ℕ))
first_path (One file command) = file
first_path (Two first second command) = first
first_path (At folder feed point selection) = feed

-- the path of the second of them, or of the only one
abbrev pub last_path : Request → Option (Bor (List ℕ))
last_path (One file command) = file
last_path (Two first second command) = second
last_path (At folder feed point selection) = feed
