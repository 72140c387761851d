-- The two sides of a connection, for reading and for writing, in contracts.
use Rattle.std.specs.Prelude.{ℕ, List, [], Option, None}
use Rattle.itch_frame.specs.Reading.{Reading}
use Rattle.itch_frame.specs.declared.reader.BlockStage.TheVariants.{Going}
use Rattle.itch_frame.specs.declared.tally.Failures.{Failures}

-- the bytes of a side, if they are known, and its failures
pub record Side : Type 0 where
  pub bytes : Option (List ℕ)
  pub failures : Failures

-- a side that has not failed
abbrev pub sound : Option (List ℕ) → Side
sound bytes = record { bytes = bytes; failures = record { count = 0; last = None } }

-- a reader of blocks before the first of these bytes
abbrev pub unread : Option (List ℕ) → Reading Side
unread bytes = record { reader = sound bytes; held = []; stage = Going }

module _ {T : Type 0} (bytes : T → Option (List ℕ)) (failures : T → Failures) where
  -- a reader or a writer
  abbrev pub side_of : T → Side
  side_of x = record { bytes = bytes x; failures = failures x }

  -- a reader of blocks
  abbrev pub reading_of : Reading T → Reading Side
  reading_of r = record { reader = side_of r.reader; held = r.held; stage = r.stage }
