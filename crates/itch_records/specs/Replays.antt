-- The messages of a record that a follower has applied.
use Rattle.std.specs.Prelude.{◌≡◌, ℕ, ⊤, List, Option, Ok}
use Rattle.std.specs.List.{AllByRecursion}
use Rattle.std.specs.Io.KnownBytes.{Consumes}
use Rattle.itch_day.specs.DayCursors.{cursor_after}
use Rattle.itch_day.specs.Sinks.{TakesAll}
use Rattle.itch_day.specs.declared.cursor.DayCursor.{DayCursor}
use Rattle.itch_day.specs.declared.stop.PartStop.{PartStop}
use Rattle.itch_day.specs.declared.stop.PartStop.TheVariants.{Full, Late, End, Frame, TooMany, Refused}
use Rattle.itch_frame.specs.Blocks.{blocks, IsFull}
use Rattle.itch_frame.specs.Reading.{Reading, bytes_left}
use Rattle.itch_frame.specs.declared.fault.FrameFault.TheVariants.{Read, Truncated, Write, TooLong}
use Rattle.itch_join.specs.declared.outcome.Live.TheVariants.{Applied}
use Rattle.itch_live.specs.Follows.{Following, Replayed}

-- a follower applies the message of the record with this number, as a message of its feed
abbrev pub TakesRecorded : Following → ℕ → List ℕ → Following → Type 0
TakesRecorded old number payload new = (next : ℕ) × Replayed old number payload (Ok (Applied next)) new

-- the part was read, up to its limit, to the end of the record, or to an incomplete message at its end
abbrev pub IsRead : {F : Type 0} → PartStop F → Type 0
IsRead Full = ⊤
IsRead Late = ⊤
IsRead End = ⊤
IsRead (Frame (Truncated held)) = ⊤
IsRead (Frame (Read error)) = ⊥
IsRead (Frame (Write sent error)) = ⊥
IsRead (Frame TooLong) = ⊥
IsRead TooMany = ⊥
IsRead (Refused why) = ⊥

-- Some messages came off the front of the record. The follower applied them in order, each under its number, and the cursor is the one after
-- them.
pub record Replays {R : Type 0} (remaining : R → Option (List ℕ)) (old new : Reading R) (cursor past : DayCursor) (before after : Following) : Type 0 where
  pub payloads : List (List ℕ)
  pub bytes : Consumes (bytes_left remaining old) (bytes_left remaining new) (blocks payloads)
  pub full : AllByRecursion IsFull payloads
  pub taken : TakesAll TakesRecorded before cursor.count payloads after
  pub tracked : past ≡ cursor_after cursor payloads
