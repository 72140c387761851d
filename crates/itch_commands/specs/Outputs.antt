-- The output and the result of a command.
use Rattle.std.specs.Prelude.{◌≡◌, ℕ, ◌+◌, ◌<◌, ◌⊎◌, Bool, List, ◌++◌, length, map, take, codes, decimal, Option, None, Some, Result, Ok, Err}
use Rattle.std.specs.Io.KnownBytes.{Appends}
use Rattle.itch_frame.specs.Counting.{failed}
use Rattle.itch_frame.specs.declared.tally.Failures.{Failures}
use Rattle.itch_codec.specs.Messages.{message_of}
use Rattle.itch_market.specs.Content.{Content, Securities}
use Rattle.itch_market.specs.Partial.{only}
use Rattle.itch_market.specs.Runs.{run}
use Rattle.itch_market.specs.Wanted.{Wanted, has}
use Rattle.itch_snapshot.specs.Bytes.{canon, closing}
use Rattle.itch_commands.specs.Stocks.{only_stocks}
use Rattle.itch_commands.specs.declared.fault.ToolFault.{ToolFault}
use Rattle.itch_commands.specs.declared.fault.ToolFault.TheVariants as tool

-- the line that reports that this many messages follow the order rules
abbrev pub ok_line : ℕ → List ℕ
ok_line count = codes "ok " ++ decimal count ++ codes " messages\n"

-- the bytes of the snapshot after these messages: canonical bytes, and the block of End of Snapshot with the next number
abbrev pub snapshot_of : List (List ℕ) → List ℕ
snapshot_of payloads = canon (run (map message_of payloads)) ++ closing (length payloads + 1)

-- the same restricted to the locates of a set, if there is one
abbrev pub snapshot_in : Option Wanted → List (List ℕ) → List ℕ
snapshot_in None payloads = snapshot_of payloads
snapshot_in (Some set) payloads = canon (only (has set) (run (map message_of payloads))) ++ closing (length payloads + 1)

-- the directory after these messages
abbrev pub directory_after : List (List ℕ) → Securities
directory_after payloads = Content.securities (run (map message_of payloads))

-- the snapshot after them restricted to the locates that have one of these stocks
abbrev pub stocks_snapshot : List (List ℕ) → List (List ℕ) → List ℕ
stocks_snapshot names payloads = canon (only_stocks names (run (map message_of payloads))) ++ closing (length payloads + 1)

-- the bytes of the snapshot of a market, with the number of the first message that it does not contain
abbrev pub closed_bytes : Content × ℕ → List ℕ
closed_bytes done = canon done.0 ++ closing done.1

module _ {W : Type 0} (contents : W → Option (List ℕ)) (failures : W → Failures) where
  -- these bytes were written, and no write failed
  abbrev pub Wrote : List ℕ → W → W → Type 0
  Wrote bytes old new = Appends (contents old) (contents new) bytes × (failures new ≡ failures old)

  -- these bytes were written, or a write failed after a prefix of them
  abbrev pub WritesText : List ℕ → W → Result (Unit {0}) ToolFault → W → Type 0
  WritesText bytes old (Ok done) new = Wrote bytes old new
  WritesText bytes old (Err (tool.Write error)) new =
      (sent : ℕ) × (sent < length bytes) × Appends (contents old) (contents new) (take sent bytes) × (failures new ≡ failed error (failures old))
  WritesText bytes old (Err fault) new = ⊥

  -- the same, and the result is this verdict
  abbrev pub WritesOutput : List ℕ → Bool → W → Result Bool ToolFault → W → Type 0
  WritesOutput bytes verdict old (Ok answer) new = (answer ≡ verdict) × WritesText bytes old (Ok tt) new
  WritesOutput bytes verdict old (Err fault) new = WritesText bytes old (Err fault) new

  -- The output and the result of a command that first reads and then writes: the reading was refused and nothing is written; or it read
  -- this, and wrote the `output` for it, with the verdict on it.
  abbrev pub Outputs : {X : Type 0} → (Result X ToolFault → Type 0) → (X → List ℕ) → (X → Bool) → W → Result Bool ToolFault → W → Type 0
  Outputs {X} reads output verdict old result new =
      ((fault : ToolFault) × (result ≡ Err fault) × reads (Err fault) × (new ≡ old))
      ⊎ ((x : X) × reads (Ok x) × WritesOutput (output x) (verdict x) old result new)
