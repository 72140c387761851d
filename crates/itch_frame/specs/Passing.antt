-- Passing over messages: the result, and the reader of blocks afterwards.
use Rattle.std.specs.Prelude.{◌≡◌, ℕ, ◌<◌, Bool, true, false, List, length, Option, None, Result, Ok, Err}
use Rattle.std.specs.List.{AllByRecursion}
use Rattle.std.specs.Io.KnownBytes.{Consumes}
use Rattle.itch_frame.specs.Blocks.{block, blocks, IsFull}
use Rattle.itch_frame.specs.Reading.{Reading, bytes_left, NextMessage}
use Rattle.itch_frame.specs.declared.fault.FrameFault.{FrameFault}
use Rattle.itch_frame.specs.declared.passing.AtHand.{AtHand}
use Rattle.itch_frame.specs.declared.passing.AtHand.TheVariants.{Message, End, Nothing}
use Rattle.itch_frame.specs.declared.tally.Failures.{Failures}

module _ {R : Type 0} (remaining : R → Option (List ℕ)) (failures : R → Failures) where
  -- the next message came off the front, or no message did
  abbrev pub PassesMessage : Reading R → Result Bool FrameFault → Reading R → Type 0
  PassesMessage old (Ok true) new =
      (payload : List ℕ) × IsFull payload × Consumes (bytes_left remaining old) (bytes_left remaining new) (block payload)
      × (failures new.reader ≡ failures old.reader)
  PassesMessage old (Ok false) new = NextMessage remaining failures old (Ok None) new
  PassesMessage old (Err fault) new = NextMessage remaining failures old (Err fault) new

  -- the same if only the bytes in memory are considered
  abbrev pub PassesAtHand : Reading R → AtHand → Reading R → Type 0
  PassesAtHand old Message new = PassesMessage old (Ok true) new
  PassesAtHand old End new = PassesMessage old (Ok false) new
  PassesAtHand old Nothing new = new ≡ old

  -- this number of messages came off the front
  pub record PassedOver (old : Reading R) (count : ℕ) (new : Reading R) : Type 0 where
    pub payloads : List (List ℕ)
    pub counted : length payloads ≡ count
    pub full : AllByRecursion IsFull payloads
    pub bytes : Consumes (bytes_left remaining old) (bytes_left remaining new) (blocks payloads)
    pub uncounted : failures new.reader ≡ failures old.reader

  -- the requested number of messages came off the front; or fewer, and then the messages ended or there was a fault
  abbrev pub PassesMessages : ℕ → Reading R → ℕ → Result Bool FrameFault → Reading R → Type 0
  PassesMessages most old count (Ok true) new = (count ≡ most) × PassedOver old count new
  PassesMessages most old count (Ok false) new = (count < most) × ((mid : Reading R) × PassedOver old count mid × PassesMessage mid (Ok false) new)
  PassesMessages most old count (Err fault) new = (count < most) × ((mid : Reading R) × PassedOver old count mid × PassesMessage mid (Err fault) new)
