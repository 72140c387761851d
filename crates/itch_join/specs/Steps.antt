-- The result of each call of a joiner, and the state after it.
use Rattle.std.specs.Prelude.{◌≡◌, ℕ, ◌+◌, ◌-◌, ◌^◌, ◌==◌, ◌||◌, nat_lt, true, false, not, List, Option, Some, None, is_some, Result, Ok, Err, if◌then◌else◌}
use Rattle.std.specs.Str.{bytes_eq}
use Rattle.std.specs.FinMap as map
use Rattle.itch_market.specs.Content.{Content, laid}
use Rattle.itch_join.specs.declared.fault.Cause.{Cause}
use Rattle.itch_join.specs.declared.fault.Cause.TheVariants.{TooMany}
use Rattle.itch_join.specs.declared.outcome.Live.{Live}
use Rattle.itch_join.specs.declared.outcome.Live.TheVariants.{Kept, Applied, Old}
use Rattle.itch_join.specs.declared.outcome.Snap.{Snap}
use Rattle.itch_join.specs.declared.outcome.Snap.TheVariants as snap
use Rattle.itch_join.specs.declared.fault.JoinFault.{JoinFault}
use Rattle.itch_join.specs.declared.fault.JoinFault.TheVariants.{Full, Conflict, BadNumber, Halted, OutOfMemory, Joined, BadSnapshot}
use Rattle.itch_join.specs.declared.state.Halt.{Halt}
use Rattle.itch_join.specs.declared.state.LiveCase.{LiveCase}
use Rattle.itch_join.specs.declared.state.LiveCase.TheVariants as live
use Rattle.itch_join.specs.Positions.{Position}
use Rattle.itch_join.specs.Rules.{Rules}
use Rattle.itch_join.specs.States.{HalfRead, Reading, Broken, State, unread, is_number}
use Rattle.itch_join.specs.Applying.{Front, front_of, at_hand, CatchesUp}

-- live -------------------------------------------------------------------

abbrev pub halted_case : Option Halt → LiveCase → LiveCase
halted_case None rest = rest
halted_case (Some h) rest = live.Halted h

abbrev pub old_case : Option Position → ℕ → LiveCase → LiveCase
old_case None number rest = rest
old_case (Some j) number rest = if nat_lt number j.next then live.Old else rest

abbrev pub conflict_case : Option (List ℕ) → List ℕ → LiveCase → LiveCase
conflict_case None payload rest = rest
conflict_case (Some waits) payload rest = if bytes_eq waits payload then rest else live.Conflict

abbrev pub next_case : Option Position → ℕ → LiveCase → LiveCase
next_case None number rest = rest
next_case (Some j) number rest = if number == j.next then live.Next else rest

-- the first of these cases that applies to a delivery decides
abbrev pub live_case : ℕ → State → ℕ → List ℕ → LiveCase
live_case cap s number payload =
    halted_case s.halt
    (if is_number number then
    old_case s.joined number
    (conflict_case (map.get s.wait number) payload
    (next_case s.joined number
    (if is_some (map.get s.wait number) then live.Kept
    else if nat_lt (map.len s.wait) cap then live.Stored
    else live.Full)))
    else live.BadNumber)

-- a message is stored, or memory runs out
abbrev pub Stores : State → ℕ → List ℕ → Result Live JoinFault → State → Type 0
Stores s number payload (Ok outcome) now = (outcome ≡ Kept) × (now ≡ record s { wait = map.insert s.wait number payload })
Stores s number payload (Err fault) now = (fault ≡ OutOfMemory false) × (now ≡ s)

-- the delivered message is applied, and then the waiting messages
abbrev pub NextBy : Rules → State → ℕ → List ℕ → Option Position → Result Live JoinFault → State → Type 0
NextBy R s number payload None result now = ⊥
NextBy R s number payload (Some j) result now =
    CatchesUp R s.half (front_of s j) (Some payload) Applied (λ any. is_some (map.get s.wait j.next) || any) result now

abbrev pub LiveBy : Rules → ℕ → State → ℕ → List ℕ → LiveCase → Result Live JoinFault → State → Type 0
LiveBy R cap s number payload (live.Halted h) result now = (result ≡ Err (Halted h.number h.cause)) × (now ≡ s)
LiveBy R cap s number payload live.BadNumber result now = (result ≡ Err BadNumber) × (now ≡ s)
LiveBy R cap s number payload live.Old result now = (result ≡ Ok Old) × (now ≡ s)
LiveBy R cap s number payload live.Conflict result now = (result ≡ Err (Conflict number)) × (now ≡ s)
LiveBy R cap s number payload live.Next result now = NextBy R s number payload s.joined result now
LiveBy R cap s number payload live.Kept result now = (result ≡ Ok Kept) × (now ≡ s)
LiveBy R cap s number payload live.Full result now = (result ≡ Err (Full cap)) × (now ≡ s)
LiveBy R cap s number payload live.Stored result now = Stores s number payload result now

-- snapshot ---------------------------------------------------------------

-- the case of a message of the snapshot: the joiner is halted; it has joined; a message broke the snapshot before; this one breaks it; it is
-- End of Snapshot, with its number and the snapshot's market; it is taken, with the number of messages taken before and the market after them
pub data SnapshotCase : Type 0 where
  SnapHalted : Halt → SnapshotCase
  SnapJoined : SnapshotCase
  SnapBroken : ℕ → Cause → SnapshotCase
  SnapFails : ℕ → Cause → SnapshotCase
  SnapEnds : ℕ → Content → SnapshotCase
  SnapTakes : ℕ → Content → SnapshotCase

-- a message that is not End of Snapshot
abbrev pub message_case : ℕ → Content → Option Cause → SnapshotCase
message_case taken m (Some cause) = SnapFails (taken + 1) cause
message_case taken m None = SnapTakes taken m

abbrev pub payload_case : ℕ → Content → Option ℕ → Option Cause → SnapshotCase
payload_case taken m (Some next) refused = SnapEnds next m
payload_case taken m None refused = if taken == 10 ^ 19 - 1 then SnapFails (10 ^ 19) TooMany else message_case taken m refused

abbrev pub half_case : Rules → HalfRead → List ℕ → SnapshotCase
half_case R (Broken place cause) payload = SnapBroken place cause
half_case R (Reading taken m) payload = payload_case taken m (R.end_number payload) (R.refused m payload)

abbrev pub unjoined_case : Option Position → SnapshotCase → SnapshotCase
unjoined_case (Some j) rest = SnapJoined
unjoined_case None rest = rest

abbrev pub unhalted_case : Option Halt → SnapshotCase → SnapshotCase
unhalted_case (Some h) rest = SnapHalted h
unhalted_case None rest = rest

-- the first case that applies to a message of the snapshot decides
abbrev pub snapshot_case : Rules → State → List ℕ → SnapshotCase
snapshot_case R s payload = unhalted_case s.halt (unjoined_case s.joined (half_case R s.half payload))

-- a message is applied to the snapshot's market, or memory runs out
abbrev pub Takes : Rules → State → ℕ → Content → List ℕ → Result Snap JoinFault → State → Type 0
Takes R s taken m payload (Ok outcome) now = (outcome ≡ snap.More) × (now ≡ record s { half = Reading (taken + 1) (laid (R.effect m payload)) })
Takes R s taken m payload (Err fault) now = (fault ≡ OutOfMemory false) × (R.takes_memory m payload ≡ true) × (now ≡ s)

-- the start of a joiner from a snapshot: waiting messages below its number are dropped
abbrev pub started : State → ℕ → Content → Front
started s next m = record { wait = map.retain_keys s.wait (λ i. not (nat_lt i next)); next = next; market = m }

abbrev pub SnapshotBy : Rules → State → List ℕ → SnapshotCase → Result Snap JoinFault → State → Type 0
SnapshotBy R s payload (SnapHalted h) result now = (result ≡ Err (Halted h.number h.cause)) × (now ≡ s)
SnapshotBy R s payload SnapJoined result now = (result ≡ Err Joined) × (now ≡ s)
SnapshotBy R s payload (SnapBroken place cause) result now = (result ≡ Err (BadSnapshot place cause)) × (now ≡ s)
SnapshotBy R s payload (SnapFails place cause) result now = (result ≡ Err (BadSnapshot place cause)) × (now ≡ record s { half = Broken place cause })
SnapshotBy R s payload (SnapEnds next m) result now = CatchesUp R unread (started s next m) (at_hand (started s next m)) snap.Joined (λ any. true) result now
SnapshotBy R s payload (SnapTakes taken m) result now = Takes R s taken m payload result now

-- restart and resume -----------------------------------------------------

abbrev pub restarted : Option Position → State → State
restarted None s = record s { half = unread }
restarted (Some j) s = s

abbrev pub Resumes : Rules → State → Option Position → Result (Option ℕ) JoinFault → State → Type 0
Resumes R s None result now = (result ≡ Ok None) × (now ≡ s)
Resumes R s (Some j) result now = CatchesUp R s.half (front_of s j) (at_hand (front_of s j)) Some (λ any. false) result now

abbrev pub ResumeBy : Rules → State → Option Halt → Result (Option ℕ) JoinFault → State → Type 0
ResumeBy R s (Some h) result now = (result ≡ Err (Halted h.number h.cause)) × (now ≡ s)
ResumeBy R s None result now = Resumes R s s.joined result now

-- steps --------------------------------------------------------------------

-- a call and its result
pub data Call : Type 0 where
  CallLive : ℕ → List ℕ → Result Live JoinFault → Call
  CallSnapshot : List ℕ → Result Snap JoinFault → Call
  CallRestart : Call
  CallResume : Result (Option ℕ) JoinFault → Call

-- In the state old, a joiner with this cap may return this result from the call, and is then in the state now.
abbrev pub Step : Rules → ℕ → State → Call → State → Type 0
Step R cap old (CallLive number payload result) now = LiveBy R cap old number payload (live_case cap old number payload) result now
Step R cap old (CallSnapshot payload result) now = SnapshotBy R old payload (snapshot_case R old payload) result now
Step R cap old CallRestart now = now ≡ restarted old.joined old
Step R cap old (CallResume result) now = ResumeBy R old old.halt result now
