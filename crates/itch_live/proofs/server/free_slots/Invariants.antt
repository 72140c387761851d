use Rattle.std.proofs.Common.{◌≡◌, None, replicate}
use Rattle.itch_live.proofs.server.free_slots.Given as goal

abbrev pub invariant-loop-place : goal.invariant-loop-place
invariant-loop-place g l = l.slots.items ≡ replicate l._place None
