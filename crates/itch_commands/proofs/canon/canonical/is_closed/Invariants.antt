use Rattle.itch_commands.proofs.CanonicalBytes.{Matched}
use Rattle.itch_commands.proofs.canon.canonical.is_closed.Given as goal

abbrev pub invariant-loop-message : goal.invariant-loop-message
invariant-loop-message g l = Matched l.market l.initial.bytes l.yielded l.message-iterator l.rest
