-- A reader of blocks, as contracts describe it.
use Rattle.std.specs.Prelude.{◌≡◌, ◌≢◌, ℕ, ◌<◌, ◌⊎◌, Bool, true, false, List, [], ◌++◌, length, Option, None, Some, Result, Ok, Err, IfSome}
use Rattle.std.specs.Borrow.{Bor}
use Rattle.std.specs.Io.KnownBytes.{prepend_known, Keeps, Consumes, IsAtEnd}
use Rattle.itch_frame.specs.Blocks.{IsPayload, IsBlock, block, Open}
use Rattle.itch_frame.specs.Counting.{failed}
use Rattle.itch_frame.specs.declared.tally.Failures.{Failures}
use Rattle.itch_frame.specs.declared.reader.BlockStage.{BlockStage}
use Rattle.itch_frame.specs.declared.reader.BlockStage.TheVariants.{Going, Given, Ended, Cut}
use Rattle.itch_frame.specs.declared.fault.FrameFault.{FrameFault}
use Rattle.itch_frame.specs.declared.fault.FrameFault.TheVariants.{Read, Truncated, Write, TooLong}

-- the inner reader, the bytes held of an unfinished block, and the stage of the reading
pub record Reading (R : Type 0) : Type 0 where
  pub reader : R
  pub held : List ℕ
  pub stage : BlockStage

-- the bytes held of an unfinished block: a returned block is no longer held
abbrev pub held_of : BlockStage → List ℕ → List ℕ
held_of Going bytes = bytes
held_of Given bytes = []
held_of Ended bytes = bytes
held_of Cut bytes = bytes

-- the bytes held of an unfinished block, and then the unread ones, if they are known; a returned block does not count
abbrev pub bytes_left : {R : Type 0} → (R → Option (List ℕ)) → Reading R → Option (List ℕ)
bytes_left remaining r = prepend_known r.held (remaining r.reader)

-- the input is at its end, or an empty block came off the front
abbrev pub EndsHere : Option (List ℕ) → Option (List ℕ) → Type 0
EndsHere old new = IsAtEnd old ⊎ Consumes old new (block [])

-- the reason why no block came off the front
abbrev pub FailsHere : FrameFault → Option (List ℕ) → Option (List ℕ) → Type 0
FailsHere (Truncated held) old new = IfSome old (λ bytes. Open bytes × (held ≡ length bytes))
FailsHere (Read error) old new = Keeps old new
FailsHere (Write sent error) old new = ⊥
FailsHere TooLong old new = ⊥

module _ {R : Type 0} (remaining : R → Option (List ℕ)) (failures : R → Failures) where
  -- the possible results of a request for the next block, and the reader afterwards
  abbrev pub NextBlock : Reading R → Result (Option (Bor (List ℕ))) FrameFault → Reading R → Type 0
  -- a block came off the front, and nothing after it was read
  NextBlock old (Ok (Some p)) new =
      IsPayload p.now × Consumes (bytes_left remaining old) (bytes_left remaining new) (block p.now) × (new.held ≡ []) × (failures new.reader ≡ failures old.reader)
      × (new.stage ≡ Given)
  -- no bytes were left
  NextBlock old (Ok None) new =
      IsAtEnd (bytes_left remaining old) × (new.stage ≡ Ended) × (new.held ≡ []) × (failures new.reader ≡ failures old.reader)
  -- some bytes were left, and no prefix of them is a block
  NextBlock old (Err (Truncated held)) new =
      IfSome (bytes_left remaining old) (λ b. Open b × (held ≡ length b)) × (new.stage ≡ Cut) × (held ≡ length new.held) × (failures new.reader ≡ failures old.reader)
  -- no bytes are lost: the held bytes are still held, followed by the bytes that were read
  NextBlock old (Err (Read error)) new =
      Keeps (bytes_left remaining old) (bytes_left remaining new) × (new.stage ≡ Going) × (failures new.reader ≡ failed error (failures old.reader))
      × ((more : List ℕ) × (new.held ≡ old.held ++ more))
  NextBlock old (Err (Write sent error)) new = ⊥
  NextBlock old (Err TooLong) new = ⊥

  -- the possible results of a request for the next message, and the reader afterwards
  abbrev pub NextMessage : Reading R → Result (Option (Bor (List ℕ))) FrameFault → Reading R → Type 0
  -- a block that is not empty
  NextMessage old (Ok (Some p)) new = (0 < length p.now) × NextBlock old (Ok (Some p)) new
  -- the end of the input, or an empty block, which was read: the stage distinguishes the two
  NextMessage old (Ok None) new =
      EndsHere (bytes_left remaining old) (bytes_left remaining new) × (new.held ≡ []) × ((new.stage ≡ Ended) ⊎ (new.stage ≡ Given))
      × (failures new.reader ≡ failures old.reader)
      × (new.stage ≡ Ended → IsAtEnd (bytes_left remaining old)) × (new.stage ≡ Given → Consumes (bytes_left remaining old) (bytes_left remaining new) (block []))
  NextMessage old (Err fault) new = NextBlock old (Err fault) new

-- after the end of the input, each call returns the result of the first one, and nothing is read
abbrev pub StaysEnded : {R : Type 0} → Reading R → Result (Option (Bor (List ℕ))) FrameFault → Reading R → Type 0
StaysEnded old r new =
    (old.stage ≡ Ended → (r ≡ Ok None) × (new ≡ old)) × (old.stage ≡ Cut → (r ≡ Err (Truncated (length old.held))) × (new ≡ old))

module _ {R : Type 0} (remaining : R → Option (List ℕ)) (failures : R → Failures) where
  -- the possible results of a request for a block in memory, and the reader afterwards
  abbrev pub NextAtHand : Reading R → Option (Bor (List ℕ)) → Reading R → Type 0
  NextAtHand old (Some p) new = NextBlock remaining failures old (Ok (Some p)) new × (old.stage ≢ Ended) × (old.stage ≢ Cut)
  NextAtHand old None new = new ≡ old

-- the reader of blocks in this stage, after the loaded block if there is one
abbrev pub passed_in : {R : Type 0} → BlockStage → Reading R → Reading R
passed_in Going r = record { reader = r.reader; held = []; stage = Given }
passed_in Given r = r
passed_in Ended r = r
passed_in Cut r = r

abbrev pub passed : {R : Type 0} → Reading R → Reading R
passed r = passed_in r.stage r

-- after the end of the input, nothing more is read
abbrev pub StaysAsEnded : {R : Type 0} → Reading R → Reading R → Type 0
StaysAsEnded old new = (old.stage ≡ Ended → new ≡ old) × (old.stage ≡ Cut → new ≡ old)

module _ {R : Type 0} (remaining : R → Option (List ℕ)) (failures : R → Failures) where
  -- the possible results of loading the next block, and the reader afterwards: no bytes come off the front
  abbrev pub Loads : Reading R → Result Bool FrameFault → Reading R → Type 0
  -- the next block is held, and nothing after it was read
  Loads old (Ok true) new =
      IsBlock new.held × Keeps (bytes_left remaining old) (bytes_left remaining new) × (new.stage ≡ Going) × (failures new.reader ≡ failures old.reader)
  -- no bytes are left
  Loads old (Ok false) new =
      IsAtEnd (bytes_left remaining new) × Keeps (bytes_left remaining old) (bytes_left remaining new) × (new.stage ≡ Ended) × (new.held ≡ [])
      × (failures new.reader ≡ failures old.reader)
  -- some bytes are left, and no prefix of them is a block
  Loads old (Err (Truncated held)) new =
      IfSome (bytes_left remaining new) (λ b. Open b × (held ≡ length b)) × Keeps (bytes_left remaining old) (bytes_left remaining new)
      × (new.stage ≡ Cut) × (held ≡ length new.held) × (failures new.reader ≡ failures old.reader)
  -- no bytes are lost: the held bytes are still held, followed by the bytes that were read
  Loads old (Err (Read error)) new =
      Keeps (bytes_left remaining old) (bytes_left remaining new) × (new.stage ≡ Going) × (failures new.reader ≡ failed error (failures old.reader))
      × ((more : List ℕ) × (new.held ≡ old.held ++ more))
  Loads old (Err (Write sent error)) new = ⊥
  Loads old (Err TooLong) new = ⊥

  -- the same for a block in memory
  abbrev pub LoadsAtHand : Reading R → Bool → Reading R → Type 0
  LoadsAtHand old true new = Loads old (Ok true) new × (old.stage ≢ Ended) × (old.stage ≢ Cut)
  LoadsAtHand old false new = new ≡ old
