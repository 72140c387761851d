-- A reader of snapshots as the unfinished snapshot of a joiner.
use Rattle.std.specs.Prelude.{◌≡◌, ◌≢◌, ℕ, ◌^◌, false, Some, Result, Ok, Err}
use Rattle.itch_market.specs.Content.{Content}
use Rattle.itch_market.specs.declared.refusal.Refusal.TheVariants as why
use Rattle.itch_snapshot.specs.declared.fault.SnapFault.{SnapFault}
use Rattle.itch_snapshot.specs.declared.fault.SnapFault.TheVariants.{NoEnd, Frame, Codec, Rule, AfterEnd, TooManyMessages}
use Rattle.itch_snapshot.specs.declared.reader.SnapshotStage.{SnapshotStage}
use Rattle.itch_snapshot.specs.declared.reader.SnapshotStage.TheVariants as stage
use Rattle.itch_snapshot.specs.TakenMessages.{Load}
use Rattle.itch_join.specs.declared.fault.Cause.TheVariants as cause
use Rattle.itch_join.specs.declared.fault.JoinFault.{JoinFault}
use Rattle.itch_join.specs.declared.fault.JoinFault.TheVariants as fault
use Rattle.itch_join.specs.States.{HalfRead, Reading, Broken, State, new, unread}

-- a message of a snapshot may have this fault
abbrev pub IsOfMessage : SnapFault → Type 0
IsOfMessage (Codec place f) = Unit {0}
IsOfMessage (Rule place reason) = Unit {0}
IsOfMessage TooManyMessages = Unit {0}
IsOfMessage NoEnd = ⊥
IsOfMessage (Frame f) = ⊥
IsOfMessage AfterEnd = ⊥

-- a message with this fault breaks the snapshot
abbrev pub Breaks : SnapFault → Type 0
Breaks (Codec place f) = Unit {0}
Breaks (Rule place reason) = reason ≢ why.OutOfMemory
Breaks TooManyMessages = Unit {0}
Breaks NoEnd = ⊥
Breaks (Frame f) = ⊥
Breaks AfterEnd = ⊥

-- a snapshot that was broken by this fault
abbrev pub broken_by : SnapFault → HalfRead
broken_by (Codec place f) = Broken place (cause.Codec f)
broken_by (Rule place reason) = Broken place (cause.Rule reason)
broken_by TooManyMessages = Broken (10 ^ 19) cause.TooMany
broken_by NoEnd = unread
broken_by (Frame f) = unread
broken_by AfterEnd = unread

-- the joiner's fault for this fault of the reader
abbrev pub join_fault_of : SnapFault → JoinFault
join_fault_of (Codec place f) = fault.BadSnapshot place (cause.Codec f)
join_fault_of (Rule place why.OutOfMemory) = fault.OutOfMemory false
join_fault_of (Rule place reason) = fault.BadSnapshot place (cause.Rule reason)
join_fault_of TooManyMessages = fault.BadSnapshot (10 ^ 19) cause.TooMany
join_fault_of NoEnd = fault.Joined
join_fault_of (Frame f) = fault.Joined
join_fault_of AfterEnd = fault.Joined

abbrev pub half_at : SnapshotStage → Load → HalfRead
half_at stage.Taking load = Reading load.taken load.market
half_at (stage.Broken fault) load = broken_by fault
half_at (stage.Closed next) load = unread

-- the unfinished snapshot of a reader
abbrev pub half_of : Load → HalfRead
half_of load = half_at load.stage load

abbrev pub IsOpenAt : SnapshotStage → Type 0
IsOpenAt stage.Taking = Unit {0}
IsOpenAt (stage.Broken fault) = Breaks fault
IsOpenAt (stage.Closed next) = ⊥

-- the reader has not taken an End of Snapshot, and it is broken at most by a message
abbrev pub IsOpen : Load → Type 0
IsOpen load = IsOpenAt load.stage

-- a joiner that has not taken any message joins at the end of the snapshot that was read, or does not change
abbrev pub JoinsAt : (Result (Content × ℕ) SnapFault → Type 0) → Result (Unit {0}) SnapFault → State → Type 0
JoinsAt Reads (Ok done) now = (start : Content × ℕ) × Reads (Ok start) × (now ≡ record new { joined = Some (record { next = start.1; market = start.0 }) })
JoinsAt Reads (Err fault) now = Reads (Err fault) × (now ≡ new)
