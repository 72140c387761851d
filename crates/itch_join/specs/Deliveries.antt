-- Lists of calls whose deliveries belong to one feed.
use Rattle.std.specs.Prelude.{◌≡◌, ℕ, ◌-◌, ◌==◌, ◌<◌, ◌≤◌, ◌&&◌, ◌||◌, Bool, true, false, List, [], ◌∷◌, take, Option, Some, None, Result, Ok, Err, slice_get, if◌then◌else◌}
use Rattle.itch_codec.specs.Fields.{AreBytes}
use Rattle.itch_market.specs.SameMarkets.{Same}
use Rattle.itch_join.specs.declared.outcome.Live.{Live}
use Rattle.itch_join.specs.declared.outcome.Live.TheVariants.{Kept, Applied, Old}
use Rattle.itch_join.specs.declared.outcome.Snap.TheVariants as snap
use Rattle.itch_join.specs.declared.fault.JoinFault.{JoinFault}
use Rattle.itch_join.specs.declared.fault.JoinFault.TheVariants.{Full, Conflict, BadNumber, Halted, OutOfMemory, Joined, BadSnapshot}
use Rattle.itch_join.specs.declared.state.Halt.{Halt}
use Rattle.itch_join.specs.Positions.{Position}
use Rattle.itch_join.specs.Rules.{Rules, run, bad}
use Rattle.itch_join.specs.States.{State, new, is_number}
use Rattle.itch_join.specs.Steps.{SnapshotCase, SnapHalted, SnapJoined, SnapBroken, SnapFails, SnapEnds, SnapTakes, snapshot_case, Call, CallLive, CallSnapshot, CallRestart, CallResume, Step}

-- a call with its result, and the state before it
pub record Event : Type 0 where
  pub before : State
  pub call : Call

-- The premise on snapshots: if End of Snapshot is taken, its number is at most that of the feed's first bad message, and the market after the
-- snapshot's messages is the same as the market after the feed's messages before that number.
abbrev pub IsOfFeed : Rules → List (List ℕ) → SnapshotCase → Type 0
IsOfFeed R feed (SnapHalted h) = Unit {0}
IsOfFeed R feed SnapJoined = Unit {0}
IsOfFeed R feed (SnapBroken place cause) = Unit {0}
IsOfFeed R feed (SnapFails place cause) = Unit {0}
IsOfFeed R feed (SnapTakes taken m) = Unit {0}
IsOfFeed R feed (SnapEnds next m) = (0 < next) × (next ≤ bad R feed) × Same m (run R (take (next - 1) feed))

-- a delivery of the live feed has the feed's message with its number, or its number is not a message number; a snapshot's payload consists of
-- bytes
abbrev pub Fits : Rules → List (List ℕ) → State → Call → Type 0
Fits R feed s (CallLive number payload result) = is_number number ≡ true → slice_get feed (number - 1) ≡ Some payload
Fits R feed s (CallSnapshot payload result) = AreBytes payload × IsOfFeed R feed (snapshot_case R s payload)
Fits R feed s CallRestart = Unit {0}
Fits R feed s (CallResume result) = Unit {0}

-- from a new joiner with this cap, these calls have led to this state, for any deliveries; the latest call is first
abbrev pub LeadsTo : Rules → ℕ → List Event → State → Type 0
LeadsTo R cap [] now = now ≡ new
LeadsTo R cap (x ∷ past) now = Step R cap x.before x.call now × LeadsTo R cap past x.before

-- the same for calls whose deliveries belong to one feed
abbrev pub History : Rules → ℕ → List (List ℕ) → List Event → State → Type 0
History R cap feed [] now = now ≡ new
History R cap feed (x ∷ past) now = Step R cap x.before x.call now × Fits R feed x.before x.call × History R cap feed past x.before

-- the message was applied or is waiting, or the market already contained it
abbrev pub is_taken : Result Live JoinFault → Bool
is_taken (Ok live) = true
is_taken (Err (Full cap)) = false
is_taken (Err (Conflict number)) = false
is_taken (Err BadNumber) = false
is_taken (Err (Halted number cause)) = false
is_taken (Err (OutOfMemory taken)) = taken
is_taken (Err Joined) = false
is_taken (Err (BadSnapshot place cause)) = false

abbrev pub accepts : ℕ → Call → Bool
accepts i (CallLive number payload result) = (number == i) && is_taken result
accepts i (CallSnapshot payload result) = false
accepts i CallRestart = false
accepts i (CallResume result) = false

-- some delivery with this number was taken
abbrev pub accepted : ℕ → List Event → Bool
accepted i [] = false
accepted i (x ∷ past) = accepts i x.call || accepted i past

-- the number in End of Snapshot, if this call took it
abbrev pub start_by : SnapshotCase → Option ℕ
start_by (SnapHalted h) = None
start_by SnapJoined = None
start_by (SnapBroken place cause) = None
start_by (SnapFails place cause) = None
start_by (SnapEnds next m) = Some next
start_by (SnapTakes taken m) = None

abbrev pub start_of : Rules → State → Call → Option ℕ
start_of R s (CallLive number payload result) = None
start_of R s (CallSnapshot payload result) = start_by (snapshot_case R s payload)
start_of R s CallRestart = None
start_of R s (CallResume result) = None

abbrev pub or_else : Option ℕ → Option ℕ → Option ℕ
or_else (Some n) rest = Some n
or_else None rest = rest

-- the number in the End of Snapshot that was taken
abbrev pub start : Rules → List Event → Option ℕ
start R [] = None
start R (x ∷ past) = or_else (start_of R x.before x.call) (start R past)

-- after memory ran out, there may be messages left that could be applied
abbrev pub by_fault : JoinFault → Option Bool
by_fault (OutOfMemory taken) = Some false
by_fault _ = None

-- the same, if the delivered message was the next; storing a message does not change it
abbrev pub by_live_fault : Option Position → ℕ → JoinFault → Option Bool
by_live_fault None number fault = None
by_live_fault (Some j) number fault = if number == j.next then by_fault fault else None

-- whether this call left no message that could be applied, if it determines that
abbrev pub settling : State → Call → Option Bool
settling s (CallLive number payload (Ok (Applied next))) = Some true
settling s (CallLive number payload (Ok Kept)) = None
settling s (CallLive number payload (Ok Old)) = None
settling s (CallLive number payload (Err fault)) = by_live_fault s.joined number fault
settling s (CallSnapshot payload (Ok snap.More)) = None
settling s (CallSnapshot payload (Ok (snap.Joined next))) = Some true
settling s (CallSnapshot payload (Err fault)) = by_fault fault
settling s CallRestart = None
settling s (CallResume (Ok None)) = None
settling s (CallResume (Ok (Some next))) = Some true
settling s (CallResume (Err fault)) = by_fault fault

abbrev pub or_last : Option Bool → Bool → Bool
or_last (Some is) rest = is
or_last None rest = rest

-- the last call that determines it left no message that could be applied
abbrev pub settled : List Event → Bool
settled [] = true
settled (x ∷ past) = or_last (settling x.before x.call) (settled past)

-- the halt in a result
abbrev pub halt_in : {T : Type 0} → Result T JoinFault → Option Halt
halt_in (Err (Halted number cause)) = Some (record { number = number; cause = cause })
halt_in _ = None

abbrev pub halt_returned : Call → Option Halt
halt_returned (CallLive number payload result) = halt_in result
halt_returned (CallSnapshot payload result) = halt_in result
halt_returned CallRestart = None
halt_returned (CallResume result) = halt_in result
