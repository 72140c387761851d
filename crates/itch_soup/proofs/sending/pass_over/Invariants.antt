use Rattle.std.proofs.Common.{◌≡◌, drop}
use Rattle.itch_soup.proofs.sending.pass_over.Given as goal

abbrev pub invariant-loop-passed : goal.invariant-loop-passed
invariant-loop-passed g l = l.messages ≡ drop l._passed l.initial.messages
