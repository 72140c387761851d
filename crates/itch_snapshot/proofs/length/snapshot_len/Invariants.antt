use Rattle.itch_snapshot.proofs.LengthLemmas.{CountsSoFar}
use Rattle.itch_snapshot.proofs.length.snapshot_len.Given as goal

abbrev pub invariant-loop-locate : goal.invariant-loop-locate
invariant-loop-locate g l = CountsSoFar l.market l.yielded l.locate-iterator l.len
