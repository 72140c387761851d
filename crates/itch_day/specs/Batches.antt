-- Messages whose blocks are in memory: one, and many that are taken together.
use Rattle.std.specs.Prelude.{◌≡◌, ℕ, ◌+◌, List, length, Bool, true, false, Option, Result, Ok, Err}
use Rattle.std.specs.List.{AllByRecursion}
use Rattle.itch_frame.specs.Blocks.{blocks, IsFull}
use Rattle.itch_frame.specs.Reading.{Reading}
use Rattle.itch_frame.specs.declared.tally.Failures.{Failures}
use Rattle.itch_day.specs.declared.limit.Limit.{Limit}
use Rattle.itch_day.specs.declared.not_taken.NotTaken.{NotTaken}
use Rattle.itch_day.specs.Parts.{Steps, stop_of}
use Rattle.itch_day.specs.Sinks.{TakesAll}

-- these bytes are the blocks of non-empty payloads, which were taken in order, after `before` others
pub record TakesBlocks {T : Type 0} (takes : T → ℕ → List ℕ → T → Type 0) (before count : ℕ) (t u : T) (bytes : List ℕ) : Type 0 where
  pub payloads : List (List ℕ)
  pub whole : bytes ≡ blocks payloads
  pub full : AllByRecursion IsFull payloads
  pub taken : TakesAll takes t before payloads u
  pub counted : count ≡ before + length payloads

module _ {R T F : Type 0} (remaining : R → Option (List ℕ)) (failures : R → Failures) (takes : T → ℕ → List ℕ → T → Type 0) (refuses : T → ℕ → List ℕ → F → T → Type 0) (limit : Limit) where
  -- the effect of one block in memory: its payload is taken, or the part stops there; if none is in memory, nothing changes
  abbrev pub StepsAtHand : Reading R → Reading R → ℕ → ℕ → T → Result Bool (NotTaken F) → T → Type 0
  StepsAtHand old new before count t (Ok true) u = Steps remaining failures takes refuses limit old new before count t (Ok tt) u
  StepsAtHand old new before count t (Ok false) u = (new ≡ old) × (count ≡ before) × (u ≡ t)
  StepsAtHand old new before count t (Err why) u = Steps remaining failures takes refuses limit old new before count t (Err (stop_of why)) u
