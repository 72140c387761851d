use Rattle.std.proofs.Common.{◌≡◌}
use Rattle.itch_market.specs.Slots.{locates_from}
use Rattle.itch_market.proofs.locates.first_from.Given as goal

abbrev pub invariant-loop-locate : goal.invariant-loop-locate
invariant-loop-locate g l = locates_from l.from l.slots ≡ locates_from l.locate l.slots
