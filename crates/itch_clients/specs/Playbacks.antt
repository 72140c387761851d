-- The place of a playback in its file.
use Rattle.std.specs.Prelude.{◌≡◌, ◌⊎◌, ℕ, ◌-◌, ⊤, Bool, true, false, List, [], Option, Some, Result, Ok, Err, slice_get}
use Rattle.itch_frame.specs.Passing.{PassedOver}
use Rattle.itch_frame.specs.Reading.{Reading}
use Rattle.itch_frame.specs.declared.tally.Failures.{Failures}
use Rattle.itch_sessions.specs.declared.session_fault.SessionFault.{SessionFault}

module _ {R : Type 0} (remaining : R → Option (List ℕ)) (failures : R → Failures) where
  -- this is message `number` of the file, and the reader stands after it
  pub record IsAt (first : Reading R) (number : ℕ) (message : List ℕ) (now : Reading R) : Type 0 where
    pub passed : PassedOver remaining failures first number now
    pub last : slice_get passed.payloads (number - 1) ≡ Some message

  -- the reader stands after `number` messages of the file: the last one is this, or it was passed over
  abbrev pub Stands : Reading R → ℕ → List ℕ → Reading R → Type 0
  Stands first number message now = IsAt first number message now ⊎ (PassedOver remaining failures first number now × (message ≡ []))

  -- the current message is the requested one of the file; or it comes later, or was passed over
  abbrev pub MovesTo : Reading R → ℕ → Result Bool SessionFault → ℕ → List ℕ → Reading R → Type 0
  MovesTo first wanted (Ok true) number message now = (number ≡ wanted) × IsAt first wanted message now
  MovesTo first wanted (Ok false) number message now = Stands first number message now
  MovesTo first wanted (Err fault) number message now = ⊤
