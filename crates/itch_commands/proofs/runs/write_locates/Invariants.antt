use Rattle.std.specs.String.{string_bytes}
use Rattle.itch_commands.specs.Runs.{IsWritten}
use Rattle.itch_commands.proofs.runs.write_locates.Given as goal

abbrev pub invariant-loop-locate : goal.invariant-loop-locate
invariant-loop-locate g l = IsWritten l.set (string_bytes l.runs.list) l.runs.is_first l.runs.begun l.locate
