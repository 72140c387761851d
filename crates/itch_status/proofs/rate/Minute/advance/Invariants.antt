use Rattle.std.proofs.Common.{◌≡◌}
use Rattle.itch_status.specs.Rates.{passed_by}
use Rattle.itch_status.proofs.rate.Minute.advance.Given as goal

abbrev pub invariant-loop-second : goal.invariant-loop-second
invariant-loop-second l = l.self ≡ passed_by l._second l.fn.self
