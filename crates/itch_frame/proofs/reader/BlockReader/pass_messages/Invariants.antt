use Rattle.itch_frame.specs.Passing.{PassedOver}
use Rattle.itch_frame.proofs.reader.BlockReader.pass_messages.Given as goal

abbrev pub invariant-loop-count : goal.invariant-loop-count
invariant-loop-count g l = PassedOver g.R.CountedRead.remaining g.R.CountedRead.failures l.initial.self l.count l.self
