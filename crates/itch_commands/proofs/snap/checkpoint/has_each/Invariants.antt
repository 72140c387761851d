use Rattle.std.proofs.Common.{◌≡◌, ℕ, ◌<◌, true}
use Rattle.itch_market.specs.Wanted.{has}
use Rattle.itch_commands.proofs.snap.checkpoint.has_each.Given as goal

abbrev pub invariant-loop-locate : goal.invariant-loop-locate
invariant-loop-locate g l = (locate : ℕ) → locate < l.locate → has l.wanted locate ≡ true → has l.kept locate ≡ true
