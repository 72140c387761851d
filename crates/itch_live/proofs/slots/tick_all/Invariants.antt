use Rattle.std.proofs.Common.{◌≡◌, ◌++◌, map, take, drop}
use Rattle.itch_live.specs.Slots.{ticked_slot}
use Rattle.itch_live.proofs.slots.tick_all.Given as goal

abbrev pub invariant-loop-place : goal.invariant-loop-place
invariant-loop-place g l = l.slots ≡ map (ticked_slot l.now_ms) (take l.place l.fn.slots) ++ drop l.place l.fn.slots
