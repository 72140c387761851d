-- Writing one block, or several.
use Rattle.std.specs.Prelude.{◌≡◌, ℕ, ◌+◌, ◌-◌, ◌<◌, ◌≤◌, List, ◌∷◌, ◌++◌, length, take, Option, Result, Ok, Err}
use Rattle.std.specs.Io.KnownBytes.{Appends}
use Rattle.itch_frame.specs.Blocks.{IsPayload, block, blocks}
use Rattle.itch_frame.specs.Counting.{failed}
use Rattle.itch_frame.specs.declared.tally.Failures.{Failures}
use Rattle.itch_frame.specs.declared.fault.FrameFault.{FrameFault}
use Rattle.itch_frame.specs.declared.fault.FrameFault.TheVariants.{Read, Truncated, Write, TooLong}

module _ {W : Type 0} (contents : W → Option (List ℕ)) (failures : W → Failures) where
  -- the possible results of writing these bytes, after `before` bytes of the same block, and the writer afterwards
  abbrev pub WritePart : W → ℕ → List ℕ → Result (Unit {0}) FrameFault → W → Type 0
  WritePart old before bytes (Ok done) new =
      Appends (contents old) (contents new) bytes × (failures new ≡ failures old)
  -- exactly the bytes up to `sent` were written
  WritePart old before bytes (Err (Write sent error)) new =
      (before ≤ sent) × (sent < before + length bytes) × Appends (contents old) (contents new) (take (sent - before) bytes)
      × (failures new ≡ failed error (failures old))
  WritePart old before bytes (Err TooLong) new = ⊥
  WritePart old before bytes (Err (Read error)) new = ⊥
  WritePart old before bytes (Err (Truncated held)) new = ⊥

  -- the possible results of writing the block of this payload, and the writer afterwards
  abbrev pub WriteBlock : W → List ℕ → Result (Unit {0}) FrameFault → W → Type 0
  WriteBlock old payload (Ok done) new = IsPayload payload × WritePart old 0 (block payload) (Ok done) new
  WriteBlock old payload (Err (Write sent error)) new = IsPayload payload × WritePart old 0 (block payload) (Err (Write sent error)) new
  -- nothing was written
  WriteBlock old payload (Err TooLong) new = (65535 < length payload) × (new ≡ old)
  WriteBlock old payload (Err (Read error)) new = ⊥
  WriteBlock old payload (Err (Truncated held)) new = ⊥

  -- the possible results of writing the blocks of these payloads, and the writer afterwards
  abbrev pub WriteBlocks : W → List (List ℕ) → Result ℕ FrameFault → W → Type 0
  WriteBlocks old payloads (Ok count) new =
      Appends (contents old) (contents new) (blocks payloads) × (failures new ≡ failures old) × (count ≡ length payloads)
  -- some blocks were written completely, and exactly the bytes of the next one up to `sent`
  WriteBlocks old payloads (Err (Write sent error)) new =
      (done : List (List ℕ)) × (payload : List ℕ) × (more : List (List ℕ)) × (payloads ≡ done ++ payload ∷ more) × (sent < length (block payload))
      × Appends (contents old) (contents new) (blocks done ++ take sent (block payload)) × (failures new ≡ failed error (failures old))
  WriteBlocks old payloads (Err TooLong) new = ⊥
  WriteBlocks old payloads (Err (Read error)) new = ⊥
  WriteBlocks old payloads (Err (Truncated held)) new = ⊥
