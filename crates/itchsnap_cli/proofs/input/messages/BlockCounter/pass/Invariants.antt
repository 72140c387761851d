use Rattle.std.proofs.Common.{take}
use Rattle.itchsnap_cli.specs.Tallies.{CountsOn}
use Rattle.itchsnap_cli.proofs.input.messages.BlockCounter.pass.Given as goal

abbrev pub invariant-loop-byte : goal.invariant-loop-byte
invariant-loop-byte l = CountsOn l.fn.self (take l.byte-index l.piece) l.self
