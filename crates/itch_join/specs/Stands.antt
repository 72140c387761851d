-- The state of a joiner after any calls whose deliveries belong to one feed.
use Rattle.std.specs.Prelude.{◌≡◌, ℕ, ◌+◌, ◌-◌, ◌<◌, ◌≤◌, ◌&&◌, nat_le, Bool, true, false, List, [], ◌∷◌, length, take, Option, Some, None, is_some, Err, slice_get}
use Rattle.std.specs.FinMap as map
use Rattle.itch_market.specs.SameMarkets.{Same}
use Rattle.itch_join.specs.declared.fault.Cause.{Cause}
use Rattle.itch_join.specs.declared.fault.JoinFault.TheVariants.{Full, Halted}
use Rattle.itch_join.specs.declared.state.Halt.{Halt}
use Rattle.itch_join.specs.Positions.{Position}
use Rattle.itch_join.specs.Rules.{Rules, run, bad}
use Rattle.itch_join.specs.States.{State}
use Rattle.itch_join.specs.Steps.{Call, CallLive, CallSnapshot, CallRestart, CallResume}
use Rattle.itch_join.specs.Deliveries.{Event, accepted, start, settled, halt_returned}

-- the market is that of the feed's messages before the next one
pub record IsRight (R : Rules) (feed : List (List ℕ)) (past : List Event) (j : Position) : Type 0 where
  pub first : ℕ
  pub is_start : start R past ≡ Some first
  pub from_start : first ≤ j.next
  pub to_bad : j.next ≤ bad R feed
  pub market : Same j.market (run R (take (j.next - 1) feed))

-- the next number is the smallest number, from the snapshot's on, that was not accepted
pub record IsLeast (R : Rules) (past : List Event) (j : Position) : Type 0 where
  pub missing : accepted j.next past ≡ false
  pub before : (first i : ℕ) → start R past ≡ Some first → first ≤ i → i < j.next → accepted i past ≡ true

-- a number that is not below the next one
abbrev pub is_from : Option Position → ℕ → Bool
is_from None i = true
is_from (Some j) i = nat_le j.next i

-- the feed's message at this position is its first bad one, and is refused for this cause
pub record IsBadAt (R : Rules) (feed : List (List ℕ)) (place : ℕ) (cause : Cause) : Type 0 where
  pub is_bad : place ≡ bad R feed
  pub payload : List ℕ
  pub there : slice_get feed (place - 1) ≡ Some payload
  pub refused : R.refused (run R (take (place - 1) feed)) payload ≡ Some cause

-- the joiner is halted at its next number
pub record IsHaltedAt (R : Rules) (feed : List (List ℕ)) (now : State) (h : Halt) : Type 0 where
  pub position : Position
  pub joined : now.joined ≡ Some position
  pub number : h.number ≡ position.next
  pub at_bad : IsBadAt R feed h.number h.cause

-- `Full` occurs only if `cap` messages are waiting and the number is not the next
abbrev pub FullIsRight : ℕ → State → Call → Type 0
FullIsRight cap s (CallLive number payload result) =
    (n : ℕ) → result ≡ Err (Full n) → (n ≡ cap) × (map.len s.wait ≡ cap) × ((j : Position) → s.joined ≡ Some j → number ≡ j.next → ⊥)
FullIsRight cap s (CallSnapshot payload result) = Unit {0}
FullIsRight cap s CallRestart = Unit {0}
FullIsRight cap s (CallResume result) = Unit {0}

-- the feed's first bad message is `Halted` if it is the next
abbrev pub BadHalts : Rules → List (List ℕ) → State → Call → Type 0
BadHalts R feed s (CallLive number payload result) =
    (j : Position) → s.joined ≡ Some j → number ≡ j.next → j.next ≡ bad R feed → bad R feed ≤ length feed
    → (cause : Cause) × (result ≡ Err (Halted number cause)) × IsBadAt R feed number cause
BadHalts R feed s (CallSnapshot payload result) = Unit {0}
BadHalts R feed s CallRestart = Unit {0}
BadHalts R feed s (CallResume result) = Unit {0}

-- the last call returned the correct result
pub record IsResultRight (R : Rules) (cap : ℕ) (feed : List (List ℕ)) (x : Event) (now : State) : Type 0 where
  pub full : FullIsRight cap x.before x.call
  pub bad_halts : BadHalts R feed x.before x.call
  pub halt_stays : (h : Halt) → halt_returned x.call ≡ Some h → now.halt ≡ Some h

abbrev pub LastIsRight : Rules → ℕ → List (List ℕ) → List Event → State → Type 0
LastIsRight R cap feed [] now = Unit {0}
LastIsRight R cap feed (x ∷ past) now = IsResultRight R cap feed x now

pub record Stands (R : Rules) (cap : ℕ) (feed : List (List ℕ)) (past : List Event) (now : State) : Type 0 where
  -- joined: the market is that of the feed's messages before the next one, which is neither below the snapshot's number nor above the first
  -- bad one
  pub right : (j : Position) → now.joined ≡ Some j → IsRight R feed past j
  -- settled and not halted: the next number is the smallest number, from the snapshot's on, that was not accepted
  pub least : (j : Position) → now.joined ≡ Some j → now.halt ≡ None → settled past ≡ true → IsLeast R past j
  -- not halted: the waiting messages are those that were accepted, from the next number on
  pub waiting : now.halt ≡ None → (i : ℕ) → is_some (map.get now.wait i) ≡ (accepted i past && is_from now.joined i)
  -- at most `cap` messages are waiting
  pub within : map.len now.wait ≤ cap
  -- halted: at the next number, which is the feed's first bad message, for its cause
  pub halted : (h : Halt) → now.halt ≡ Some h → IsHaltedAt R feed now h

-- each message of the feed from the snapshot's number on was accepted
abbrev pub AreAllAccepted : Rules → List (List ℕ) → List Event → Type 0
AreAllAccepted R feed past = (first i : ℕ) → start R past ≡ Some first → first ≤ i → i ≤ length feed → accepted i past ≡ true

-- the market is that of the complete feed
pub record IsAtEnd (R : Rules) (feed : List (List ℕ)) (now : State) (j : Position) : Type 0 where
  pub running : now.halt ≡ None
  pub next : j.next ≡ length feed + 1
  pub market : Same j.market (run R feed)
