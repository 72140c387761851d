-- Writing a snapshot.
use Rattle.std.specs.Prelude.{◌≡◌, ℕ, ◌+◌, List, [], ◌∷◌, ◌++◌, map, length, Option, Result, Ok, Err}
use Rattle.std.specs.Io.KnownBytes.{Appends}
use Rattle.itch_codec.specs.declared.message.Message.{Message}
use Rattle.itch_codec.specs.declared.message.Message.TheVariants as is
use Rattle.itch_codec.specs.Messages.{spelling}
use Rattle.itch_frame.specs.Blocks.{blocks}
use Rattle.itch_frame.specs.Writing.{WriteBlocks}
use Rattle.itch_frame.specs.declared.fault.FrameFault.{FrameFault}
use Rattle.itch_frame.specs.declared.tally.Failures.{Failures}
use Rattle.itch_market.specs.Content.{Content}
use Rattle.itch_snapshot.specs.declared.fault.SnapFault.{SnapFault}
use Rattle.itch_snapshot.specs.declared.fault.SnapFault.TheVariants.{NoEnd, Frame, Codec, Rule, AfterEnd, TooManyMessages}
use Rattle.itch_snapshot.specs.Snapshot.{snap}
use Rattle.itch_snapshot.specs.Bytes.{closing}

-- the payloads of messages, and of the End of Snapshot after them
abbrev pub closed_payloads : List Message → ℕ → List (List ℕ)
closed_payloads ms next = map spelling ms ++ spelling (is.End next) ∷ []

-- the payloads of a snapshot, End of Snapshot included
abbrev pub payloads : Content → ℕ → List (List ℕ)
payloads m next = closed_payloads (snap m) next

module _ {W : Type 0} (contents : W → Option (List ℕ)) (failures : W → Failures) where
  -- the blocks of messages and the closing block were appended, or some complete blocks and exactly the bytes of the next one up to `sent`
  abbrev pub WritesClosed : List Message → ℕ → W → Result ℕ FrameFault → W → Type 0
  WritesClosed ms next old (Ok count) new =
      Appends (contents old) (contents new) (blocks (map spelling ms) ++ closing next) × (failures new ≡ failures old) × (count ≡ length ms + 1)
  WritesClosed ms next old (Err fault) new = WriteBlocks contents failures old (closed_payloads ms next) (Err fault) new

  -- the canonical bytes of a market and the closing block were appended, or a prefix of them
  abbrev pub WritesSnapshot : Content → ℕ → W → Result ℕ SnapFault → W → Type 0
  WritesSnapshot m next old (Ok count) new = WritesClosed (snap m) next old (Ok count) new
  WritesSnapshot m next old (Err (Frame fault)) new = WritesClosed (snap m) next old (Err fault) new
  WritesSnapshot m next old (Err NoEnd) new = ⊥
  WritesSnapshot m next old (Err (Codec place fault)) new = ⊥
  WritesSnapshot m next old (Err (Rule place reason)) new = ⊥
  WritesSnapshot m next old (Err AfterEnd) new = ⊥
  WritesSnapshot m next old (Err TooManyMessages) new = ⊥
