use Rattle.std.proofs.Common.{◌≡◌}
use Rattle.itch_live.specs.Slots.{answered}
use Rattle.itch_live.proofs.slots.answer_all.Given as goal

abbrev pub invariant-loop-place : goal.invariant-loop-place
invariant-loop-place g l = l.slots ≡ answered l.encoded.value.items l.next l.now_ms l.place l.fn.slots
