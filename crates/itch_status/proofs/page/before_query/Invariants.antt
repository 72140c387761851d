use Rattle.std.proofs.Common.{◌≡◌, ◌++◌, take, drop}
use Rattle.itch_status.specs.Pages.{before_query}
use Rattle.itch_status.proofs.page.before_query.Given as goal

-- the passed bytes are before the query
abbrev pub invariant-loop-at : goal.invariant-loop-at
invariant-loop-at l = take l.at l.target ++ before_query (drop l.at l.target) ≡ before_query l.target
