-- The effect of the messages of a day, one after another, on a joiner that has joined and has no waiting messages.
use Rattle.std.specs.Prelude.{◌≡◌, ℕ, ◌+◌, ◌<◌, ◌≤◌, ◌⊎◌, ⊤, true, List, Option, Some, None, Ok}
use Rattle.std.specs.FinMap as map
use Rattle.itch_codec.specs.Fields.{AreBytes}
use Rattle.itch_market.specs.Content.{Content, empty}
use Rattle.itch_market.specs.Wanted.{has}
use Rattle.itch_market.specs.declared.refusal.Refusal.TheVariants.{OutOfMemory}
use Rattle.itch_market.specs.declared.refused.Refused.{Refused}
use Rattle.itch_market.specs.declared.refused.Refused.TheVariants.{Codec, Rule}
use Rattle.itch_join.specs.declared.fault.Cause.TheVariants as cause
use Rattle.itch_join.specs.declared.fault.JoinFault.{JoinFault}
use Rattle.itch_join.specs.declared.fault.JoinFault.TheVariants as fault
use Rattle.itch_join.specs.Applying.{AppliesOne}
use Rattle.itch_join.specs.Positions.{Position}
use Rattle.itch_join.specs.Rules.{Rules, rules_of}
use Rattle.itch_join.specs.States.{Joining, State}

abbrev pub position_by : Option Position → Position
position_by None = record { next = 0; market = empty }
position_by (Some j) = j

-- the position of a joiner
abbrev pub position_of : State → Position
position_of s = position_by s.joined

-- a joiner has joined, no messages are waiting, and no message was refused
pub record IsJoined (s : State) : Type 0 where
  pub waits : (i : ℕ) → map.get s.wait i ≡ None
  pub joined : s.joined ≡ Some (position_of s)
  pub running : s.halt ≡ None

-- such a joiner can take the message with this number: its market contains the message, or it is the next
abbrev pub MayTake : Joining → ℕ → Type 0
MayTake j number = IsJoined j.state × (number ≤ Position.next (position_of j.state))

-- the market already contains the message with this number, or it is the next, and is applied
abbrev pub Passes : Rules → Position → ℕ → List ℕ → Position → Type 0
Passes R old number payload new =
    ((number < old.next) × (new ≡ old)) ⊎ ((old.next ≡ number) × AppliesOne R old.market payload (Ok tt) new.market × (new.next ≡ number + 1))

-- rules refuse a message for this reason; or it takes memory, and memory ran out
abbrev pub IsRefusedFor : Rules → Content → List ℕ → Refused → Type 0
IsRefusedFor R m payload (Codec f) = R.refused m payload ≡ Some (cause.Codec f)
IsRefusedFor R m payload (Rule why) =
    (R.refused m payload ≡ Some (cause.Rule why)) ⊎ ((why ≡ OutOfMemory) × (R.refused m payload ≡ None) × (R.takes_memory m payload ≡ true))

-- the message with this number is taken
pub record TakesNumbered (old : Joining) (number : ℕ) (payload : List ℕ) (new : Joining) : Type 0 where
  pub bytes : AreBytes payload
  pub passes : Passes (rules_of (has old.set)) (position_of old.state) number payload (position_of new.state)
  pub set : new.set ≡ old.set

-- it is the next, and is refused
pub record RefusesNumbered (old : Joining) (number : ℕ) (payload : List ℕ) (why : Refused) (new : Joining) : Type 0 where
  pub bytes : AreBytes payload
  pub next : Position.next (position_of old.state) ≡ number
  pub refused : IsRefusedFor (rules_of (has old.set)) (Position.market (position_of old.state)) payload why
  pub stays : position_of new.state ≡ position_of old.state
  pub set : new.set ≡ old.set

-- a possible fault of the next message
abbrev pub IsOfNext : JoinFault → Type 0
IsOfNext (fault.Halted number (cause.Codec f)) = ⊤
IsOfNext (fault.Halted number (cause.Rule why)) = ⊤
IsOfNext (fault.OutOfMemory taken) = ⊤
IsOfNext other = ⊥

-- the reason why the message is refused then
abbrev pub refused_by : JoinFault → Refused
refused_by (fault.Halted number (cause.Codec f)) = Codec f
refused_by (fault.Halted number (cause.Rule why)) = Rule why
refused_by other = Rule OutOfMemory
