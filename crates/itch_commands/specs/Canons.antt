-- Canonical snapshot files: all bytes of the file are those of the snapshot of its market, closed with its number.
use Rattle.std.specs.Prelude.{◌≡◌, ◌≢◌, ℕ, ◌-◌, ◌<◌, ◌≤◌, ◌^◌, ◌⊎◌, ◌↔◌, Bool, true, false, List, [], ◌++◌, length, codes, MatchOption, MatchResult, Option, IfSome, Result, Ok, Err}
use Rattle.std.specs.Borrow.{Bor}
use Rattle.std.specs.Io.KnownBytes.{Consumes, IsAtEnd}
use Rattle.itch_frame.specs.Blocks.{block}
use Rattle.itch_frame.specs.Reading.{Reading, bytes_left}
use Rattle.itch_frame.specs.declared.tally.Failures.{Failures}
use Rattle.itch_market.specs.Content.{Content, empty}
use Rattle.itch_market.specs.Replays.{Takes}
use Rattle.itch_snapshot.specs.Reads.{ReadsNext, ReadsAll, ReadsEnd, CountsFault}
use Rattle.itch_commands.specs.Outputs.{closed_bytes}
use Rattle.itch_commands.specs.Readings.{ReadsSnap}
use Rattle.itch_commands.specs.declared.fault.Source.TheVariants.{Only}
use Rattle.itch_commands.specs.declared.fault.ToolFault.{ToolFault}
use Rattle.itch_commands.specs.declared.fault.ToolFault.TheVariants as tool

-- the line that reports whether a file is canonical
abbrev pub canonical_line : Bool → List ℕ
canonical_line true = codes "canonical\n"
canonical_line false = codes "not canonical\n"

-- the bytes after this prefix, or none if the bytes do not begin with it
abbrev pub StripsFront : List ℕ → List ℕ → Option (Bor (List ℕ)) → Type 0
StripsFront bytes front rest = MatchOption rest ((more : List ℕ) → bytes ≢ front ++ more) (λ r. bytes ≡ front ++ r.now)

-- a failed read is counted with its error, and no other fault is
abbrev pub CountsRefusal : ToolFault → Failures → Failures → Type 0
CountsRefusal (tool.Snap at fault) old new = CountsFault fault old new
CountsRefusal fault old new = new ≡ old

abbrev pub CountsSnap : {X : Type 0} → Result X ToolFault → Failures → Failures → Type 0
CountsSnap result old new = MatchResult result (λ _. new ≡ old) (λ fault. CountsRefusal fault old new)

-- The next message, or End of Snapshot, is taken, and the bytes of its block are copied; or it is refused; or it is taken, but
-- there is no memory for these bytes.
abbrev pub CopiesNext : ℕ → Content → Option (List ℕ) → Option (List ℕ) → List ℕ → Result (Option ℕ) ToolFault → Content → List ℕ → Type 0
CopiesNext taken m old new copy (Ok found) n more =
    ReadsNext taken m old new (Ok found) n × ((bytes : List ℕ) × Consumes old new bytes × (more ≡ copy ++ bytes))
CopiesNext taken m old new copy (Err (tool.Snap at fault)) n more = (at ≡ Only) × ReadsNext taken m old new (Err fault) n
CopiesNext taken m old new copy (Err tool.OutOfMemory) n more = (found : Option ℕ) × ReadsNext taken m old new (Ok found) n
CopiesNext taken m old new copy (Err fault) n more = ⊥

-- at least one message, or End of Snapshot after some, was taken, and there was no memory for the bytes of the last block
abbrev pub LacksRoom : Option (List ℕ) → Option (List ℕ) → Type 0
LacksRoom old new =
    ((payloads : List (List ℕ)) × (n : Content) × Takes empty old new payloads n × (0 < length payloads) × (length payloads ≤ 10 ^ 19 - 1))
    ⊎ ((next : ℕ) × (n : Content) × ReadsAll empty old new (Ok next) n)

-- the messages of a snapshot are taken up to its End of Snapshot, and all bytes up to there are copied
abbrev pub CopiesAll : Option (List ℕ) → Option (List ℕ) → Result ℕ ToolFault → Content → List ℕ → Type 0
CopiesAll old new (Ok next) n copy = ReadsAll empty old new (Ok next) n × Consumes old new copy
CopiesAll old new (Err (tool.Snap at fault)) n copy = (at ≡ Only) × ReadsAll empty old new (Err fault) n
CopiesAll old new (Err tool.OutOfMemory) n copy = LacksRoom old new
CopiesAll old new (Err fault) n copy = ⊥

-- after End of Snapshot the input ends, or an empty block comes off the front
abbrev pub EndsFile : Option (List ℕ) → Option (List ℕ) → Result Bool ToolFault → Type 0
EndsFile old new (Ok true) = IsAtEnd old
EndsFile old new (Ok false) = Consumes old new (block [])
EndsFile old new (Err (tool.Snap at fault)) = (at ≡ Only) × ReadsEnd old new (Err fault)
EndsFile old new (Err fault) = ⊥

module _ {R : Type 0} (remaining : R → Option (List ℕ)) (failures : R → Failures) where
  -- The result of checking a snapshot file, and its reader afterwards. The file is refused as by any reading; or memory may run out for a
  -- copy of the bytes of the messages taken.
  abbrev pub ChecksSnap : Reading R → Reading R → Result Bool ToolFault → Type 0
  ChecksSnap old new (Ok canonical) =
      (done : Content × ℕ) × ReadsSnap remaining failures Only old new (Ok done)
      × IfSome (bytes_left remaining old) (λ bytes. (canonical ≡ true) ↔ (bytes ≡ closed_bytes done))
  ChecksSnap old new (Err tool.OutOfMemory) =
      LacksRoom (bytes_left remaining old) (bytes_left remaining new) × (failures new.reader ≡ failures old.reader)
  ChecksSnap old new (Err fault) = ReadsSnap remaining failures Only old new (Err fault)
