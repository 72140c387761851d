use Rattle.std.proofs.Common.{◌≡◌, drop}
use Rattle.itch_history.specs.Histories.{first_by}
use Rattle.itch_history.proofs.chain.first_number.Given as goal

abbrev pub invariant-loop-index : goal.invariant-loop-index
invariant-loop-index l = l.first ≡ first_by (drop l.index l.replacements) l.fn.number
