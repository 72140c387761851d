use Rattle.std.proofs.Common.{◌≡◌, ℕ, take}
use Rattle.itch_market.specs.Wanted.{has}
use Rattle.itchsnap_c.specs.Snapshots.{is_listed}
use Rattle.itchsnap_c.proofs.snapshots.set_of.Given as goal

abbrev pub invariant-loop-locate : goal.invariant-loop-locate
invariant-loop-locate l = (at : ℕ) → has l.set at ≡ is_listed (take l.locate-index l.locates) at
