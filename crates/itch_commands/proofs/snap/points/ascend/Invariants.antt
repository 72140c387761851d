use Rattle.std.proofs.Common.{◌≡◌, drop}
use Rattle.itch_commands.specs.Ascending.{ascend, ascend_after}
use Rattle.itch_commands.proofs.snap.points.ascend.Given as goal

-- those left ascend after the ones before exactly if all do
abbrev pub invariant-loop-limit : goal.invariant-loop-limit
invariant-loop-limit l = ascend_after l.before (drop l.limit-index l.limits) ≡ ascend l.limits
