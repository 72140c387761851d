use Rattle.std.proofs.Common.{ℕ, List, Result}
use Rattle.std.specs.FinMap as map
use Rattle.itch_join.specs.declared.state.Stopped.{Stopped}
use Rattle.itch_market.specs.Wanted.{has}
use Rattle.itch_join.specs.Rules.{rules_of}
use Rattle.itch_join.specs.Applying.{Front, at_hand, Applies}
use Rattle.itch_join.proofs.position.drain.Given as goal

-- if applying continues in some way from here, it continues in the same way from the beginning
abbrev pub invariant-loop-payload : goal.invariant-loop-payload
invariant-loop-payload g l =
    let here : Front = record { wait = l.wait; next = l.position-inside.next; market = l.position-inside.market } in
    let first : Front = record { wait = l.initial.wait; next = l.initial.position-inside.next; market = l.initial.position-inside.market } in
    (ps : List (List ℕ)) (ending : Result (Unit {0}) Stopped) (b : Front) → Applies (rules_of (has l.set)) here (at_hand here) ps ending b
    → (qs : List (List ℕ)) × Applies (rules_of (has l.set)) first (at_hand first) qs ending b

abbrev pub decreases-loop-payload : goal.decreases-loop-payload
decreases-loop-payload g l = map.len l.wait
