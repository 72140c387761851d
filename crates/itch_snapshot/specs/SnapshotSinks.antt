-- The effect of a message of a snapshot file on the market that is built from it, and the end of the reading.
use Rattle.std.specs.Prelude.{ℕ, ◌-◌, List, Option, Some, None, Result, Ok, Err}
use denote.Ref.{Bor}
use Rattle.itch_day.specs.declared.stop.PartStop.{PartStop}
use Rattle.itch_day.specs.declared.stop.PartStop.TheVariants as part
use Rattle.itch_market.specs.Content.{Content}
use Rattle.itch_market.specs.Wanted.{Wanted}
use Rattle.itch_snapshot.specs.declared.fault.SnapFault.{SnapFault}
use Rattle.itch_snapshot.specs.declared.fault.SnapFault.TheVariants.{NoEnd, Frame, TooManyMessages}
use Rattle.itch_snapshot.specs.declared.sink.SnapshotEnd.{SnapshotEnd}
use Rattle.itch_snapshot.specs.declared.sink.SnapshotEnd.TheVariants.{Closed, Broken}
use Rattle.itch_snapshot.specs.TakenMessages.{TakesFor}

-- the result for the message that ends the messages
abbrev pub answer_of : SnapshotEnd → Result (Option ℕ) SnapFault
answer_of (Closed next) = Ok (Some next)
answer_of (Broken fault) = Err fault

-- the result for this message if the reading of the file has this result
abbrev pub last_of : Result ℕ SnapFault → Result (Option ℕ) SnapFault
last_of (Ok next) = Ok (Some next)
last_of (Err fault) = Err fault

-- the message with this number is applied, or it is at a locate that is not wanted
abbrev pub TakesOfSnapshot : Option (Bor Wanted) → Content → ℕ → List ℕ → Content → Type 0
TakesOfSnapshot set m number payload n = TakesFor set (number - 1) m payload (Ok None) n

-- the messages end there
abbrev pub EndsSnapshot : Option (Bor Wanted) → Content → ℕ → List ℕ → SnapshotEnd → Content → Type 0
EndsSnapshot set m number payload why n = TakesFor set (number - 1) m payload (answer_of why) n

-- the result of a snapshot file when the reading stops: the number in End of Snapshot, or the reason why there is none
abbrev pub end_of : PartStop SnapshotEnd → Result ℕ SnapFault
end_of part.Full = Err NoEnd
end_of part.Late = Err NoEnd
end_of part.End = Err NoEnd
end_of (part.Frame fault) = Err (Frame fault)
end_of part.TooMany = Err TooManyMessages
end_of (part.Refused (Closed next)) = Ok next
end_of (part.Refused (Broken fault)) = Err fault
