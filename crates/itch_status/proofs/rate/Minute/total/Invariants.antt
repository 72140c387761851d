use Rattle.std.proofs.Common.{◌≡◌, drop}
use Rattle.itch_status.specs.Rates.{sum_from, total}
use Rattle.itch_status.proofs.rate.Minute.total.Given as goal

-- the sum so far and the sum of the rest are the sum of all
abbrev pub invariant-loop-messages : goal.invariant-loop-messages
invariant-loop-messages l = sum_from l.total (drop l.messages-index l.self.before) ≡ total l.self
