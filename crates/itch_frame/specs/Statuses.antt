-- The exit status and the system error of a fault of blocks.
use Rattle.std.specs.Prelude.{ℕ, Option, Some, None}
use Rattle.std.specs.declared.io.Error.{Error}
use Rattle.itch_frame.specs.declared.fault.FrameFault.{FrameFault}
use Rattle.itch_frame.specs.declared.fault.FrameFault.TheVariants.{Read, Write}

-- the exit status: 3 for a failed read or write, 1 for any other fault
abbrev pub frame_status : FrameFault → ℕ
frame_status (Read error) = 3
frame_status (Write sent error) = 3
frame_status fault = 1

-- the system's own error, if a read or a write failed
abbrev pub frame_error : FrameFault → Option Error
frame_error (Read error) = Some error
frame_error (Write sent error) = Some error
frame_error fault = None
