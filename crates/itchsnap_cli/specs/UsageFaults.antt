-- Usage faults.
use Rattle.itchsnap_cli.specs.declared.command_line.fault.Fault.{Fault}
use Rattle.itchsnap_cli.specs.declared.command_line.fault.Fault.TheVariants.{Usage, OutOfMemory}
use Rattle.clap.specs.declared.error.kind.ErrorKind.{ErrorKind}
use Rattle.clap.specs.declared.error.kind.ErrorKind.TheVariants as kind

-- the kind of the error that explains a fault
abbrev pub fault_kind : Fault → ErrorKind
fault_kind (Usage message) = kind.ValueValidation
fault_kind OutOfMemory = kind.OutOfMemory
