-- Days whose order reference numbers are unique, as the standard says.
use Rattle.std.specs.Prelude.{◌≡◌, ◌≢◌, ℕ, false, List, [], ◌∷◌, ⊤, Option, None, Some}
use Rattle.std.specs.List.{AllByRecursion}
use Rattle.itch_codec.specs.declared.message.Message.{Message}
use Rattle.itch_history.specs.Histories.{names, number_after, replacement_of}
use Rattle.itch_history.specs.declared.chain.Replacement.{Replacement}

-- a message does not name the order that this replacement has ended
abbrev pub IsDone : Option Replacement → Message → Type 0
IsDone None later = ⊤
IsDone (Some r) later = names r.original later ≡ false

-- no message names an order after its replacement
unfoldable pub AreDone : List Message → Type 0
AreDone [] = ⊤
AreDone (message ∷ messages) = AllByRecursion (IsDone (replacement_of message)) messages × AreDone messages

-- a replacement of another order does not give it this number
abbrev pub IsAlone : ℕ → Option Replacement → Type 0
IsAlone number None = ⊤
IsAlone number (Some r) = r.original ≢ number → r.reference ≢ number

-- no replacement gives another order the number that this one then has
unfoldable pub StaysAlone : ℕ → List Message → Type 0
StaysAlone number [] = ⊤
StaysAlone number (message ∷ messages) = IsAlone number (replacement_of message) × StaysAlone (number_after message number) messages
