use Rattle.itch_snapshot.proofs.Partings.{AgreeSoFar}
use Rattle.itch_snapshot.proofs.compare.first_difference.Given as goal

abbrev pub invariant-loop-message : goal.invariant-loop-message
invariant-loop-message g l = AgreeSoFar l.fn.one l.initial.other l.yielded l.message-iterator l.other l.place
