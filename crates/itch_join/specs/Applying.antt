-- Applying messages one after another, from the next number on, up to the first number that is missing.
use Rattle.std.specs.Prelude.{◌≡◌, ℕ, ◌+◌, Bool, true, false, not, List, [], ◌∷◌, Option, Some, None, Result, Ok, Err}
use Rattle.std.specs.FinMap as map
use Rattle.itch_market.specs.Content.{Content, laid}
use Rattle.itch_market.specs.declared.refusal.Refusal.{Refusal}
use Rattle.itch_market.specs.declared.refusal.Refusal.TheVariants.{OutOfMemory}
use Rattle.itch_join.specs.declared.fault.Cause.TheVariants.{Rule}
use Rattle.itch_join.specs.declared.fault.JoinFault.{JoinFault}
use Rattle.itch_join.specs.declared.fault.JoinFault.TheVariants as fault
use Rattle.itch_join.specs.declared.state.Halt.{Halt}
use Rattle.itch_join.specs.declared.state.Stopped.{Stopped}
use Rattle.itch_join.specs.declared.state.Stopped.TheVariants.{Refused, NoMemory}
use Rattle.itch_join.specs.Positions.{Position}
use Rattle.itch_join.specs.Rules.{Rules}
use Rattle.itch_join.specs.States.{Wait, HalfRead, State}

-- the state that applying changes: the waiting messages, the number of the next one, and the market of the messages before it
pub record Front : Type 0 where
  pub wait : Wait
  pub next : ℕ
  pub market : Content

abbrev pub front : Wait → Position → Front
front wait j = record { wait = wait; next = j.next; market = j.market }

abbrev pub front_of : State → Position → Front
front_of s j = front s.wait j

-- the message with the next number was applied, and is no longer waiting
abbrev pub advanced : Rules → Front → List ℕ → Front
advanced R a p = record { wait = map.remove a.wait a.next; next = a.next + 1; market = laid (R.effect a.market p) }

-- the message that is waiting under the next number
abbrev pub at_hand : Front → Option (List ℕ)
at_hand a = map.get a.wait a.next

-- the reason why a market did not apply a message: a rule refuses it, or memory ran out
abbrev pub stopped_by : Refusal → Stopped
stopped_by OutOfMemory = NoMemory
stopped_by why = Refused (Rule why)

-- the reason why a message is not applied: it is refused; or it takes memory, and memory ran out
abbrev pub Stops : Rules → Content → List ℕ → Stopped → Type 0
Stops R m p (Refused cause) = R.refused m p ≡ Some cause
Stops R m p NoMemory = (R.refused m p ≡ None) × (R.takes_memory m p ≡ true)

-- a message is applied, or not, with this market as the result
abbrev pub AppliesOne : Rules → Content → List ℕ → Result (Unit {0}) Stopped → Content → Type 0
AppliesOne R m p (Ok done) n = (R.refused m p ≡ None) × (n ≡ laid (R.effect m p))
AppliesOne R m p (Err stopped) n = Stops R m p stopped × (n ≡ m)

-- the end of applying, at a market with this next message: there is none; or it is not applied
abbrev pub EndsBy : Rules → Content → Option (List ℕ) → Result (Unit {0}) Stopped → Type 0
EndsBy R m None (Ok done) = Unit {0}
EndsBy R m None (Err stopped) = ⊥
EndsBy R m (Some p) (Ok done) = ⊥
EndsBy R m (Some p) (Err stopped) = Stops R m p stopped

-- From a front with this next message, these messages are applied one after another, and applying ends with this result, at this front.
abbrev pub Applies : Rules → Front → Option (List ℕ) → List (List ℕ) → Result (Unit {0}) Stopped → Front → Type 0
Applies R a hand [] ending b = EndsBy R a.market hand ending × (b ≡ a)
Applies R a hand (p ∷ ps) ending b =
    (hand ≡ Some p) × (R.refused a.market p ≡ None) × Applies R (advanced R a p) (at_hand (advanced R a p)) ps ending b

-- a refused message halts the joiner, at its number
abbrev pub halt_of : Result (Unit {0}) Stopped → ℕ → Option Halt
halt_of (Ok done) next = None
halt_of (Err (Refused cause)) next = Some (record { number = next; cause = cause })
halt_of (Err NoMemory) next = None

-- the state at the end of applying
abbrev pub standing : HalfRead → Result (Unit {0}) Stopped → Front → State
standing half ending b = record { wait = b.wait; half = half; joined = Some (record { next = b.next; market = b.market }); halt = halt_of ending b.next }

-- the fault of a call that stopped at this number
abbrev pub fault_of : Bool → Stopped → ℕ → JoinFault
fault_of taken (Refused cause) next = fault.Halted next cause
fault_of taken NoMemory next = fault.OutOfMemory taken

-- the result of a call at the end of applying
abbrev pub result_by : {T : Type 0} → (ℕ → T) → Bool → Result (Unit {0}) Stopped → ℕ → Result T JoinFault
result_by done taken (Ok ended) next = Ok (done next)
result_by done taken (Err stopped) next = Err (fault_of taken stopped next)

abbrev pub is_empty : List (List ℕ) → Bool
is_empty [] = true
is_empty (p ∷ ps) = false

-- Messages are applied, up to the first number that is missing. `taken` states whether the delivered message was taken, depending on whether
-- any message was applied.
pub record CatchesUp {T : Type 0} (R : Rules) (half : HalfRead) (a : Front) (hand : Option (List ℕ)) (done : ℕ → T) (taken : Bool → Bool) (result : Result T JoinFault) (now : State) : Type 0 where
  pub payloads : List (List ℕ)
  pub ending : Result (Unit {0}) Stopped
  pub front : Front
  pub applies : Applies R a hand payloads ending front
  pub returned : result ≡ result_by done (taken (not (is_empty payloads))) ending front.next
  pub left : now ≡ standing half ending front

-- these messages are applied, from one position to another, and applying ends with this result
abbrev pub Advances : Rules → Wait → Position → Option (List ℕ) → Result (Unit {0}) Stopped → Wait → Position → Type 0
Advances R wait j hand ending wait' j' = (ps : List (List ℕ)) × Applies R (front wait j) hand ps ending (front wait' j')

-- the waiting messages are applied, up to the first number that is missing
abbrev pub Drains : Rules → Wait → Position → Result (Unit {0}) Stopped → Wait → Position → Type 0
Drains R wait j ending wait' j' = Advances R wait j (at_hand (front wait j)) ending wait' j'
