use Rattle.std.proofs.Common.{ℕ, ◌<◌, IsSome}
use Rattle.itch_live.specs.Slots.{client_at}
use Rattle.itch_live.proofs.slots.free_slot.Given as goal

-- each place before this one has a client
abbrev pub invariant-loop-place : goal.invariant-loop-place
invariant-loop-place g l = (k : ℕ) → k < l.place → IsSome (client_at l.slots k)
