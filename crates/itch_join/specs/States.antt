-- The state of a joiner.
use Rattle.std.specs.Prelude.{ℕ, ◌^◌, ◌&&◌, nat_lt, Bool, List, Option, None}
use Rattle.std.specs.Ordering.{nat_cmp}
use Rattle.std.specs.FinMap as map
use Rattle.itch_market.specs.Content.{Content, empty}
use Rattle.itch_market.specs.Wanted.{Wanted}
use Rattle.itch_join.specs.declared.fault.Cause.{Cause}
use Rattle.itch_join.specs.declared.state.Halt.{Halt}
use Rattle.itch_join.specs.Positions.{Position}

-- the waiting messages, by number
abbrev pub Wait : Type 0
Wait = map.FinMap nat_cmp (List ℕ)

-- an unfinished snapshot: the number of its messages taken, and the market after them; or the position of the message that is refused, and
-- the reason
pub data HalfRead : Type 0 where
  Reading : ℕ → Content → HalfRead
  Broken : ℕ → Cause → HalfRead

pub record State : Type 0 where
  pub wait : Wait
  pub half : HalfRead
  pub joined : Option Position
  pub halt : Option Halt

-- a joiner as contracts describe it: the maximum number of waiting messages, the wanted locates, and its state
pub record Joining : Type 0 where
  pub cap : ℕ
  pub set : Wanted
  pub state : State

-- a snapshot before its first message
abbrev pub unread : HalfRead
unread = Reading 0 empty

-- the state of a new joiner
abbrev pub new : State
new = record { wait = map.empty; half = unread; joined = None; halt = None }

-- a possible number of a message: 1 to 10^19 - 1
abbrev pub is_number : ℕ → Bool
is_number n = nat_lt 0 n && nat_lt n (10 ^ 19)
