use Rattle.std.proofs.Common.{◌≡◌, drop}
use Rattle.itch_status.specs.Pages.{after_host}
use Rattle.itch_status.proofs.page.after_host.Given as goal

-- the passed bytes belong to the host
abbrev pub invariant-loop-at : goal.invariant-loop-at
invariant-loop-at l = after_host (drop l.at l.target) ≡ after_host l.target
