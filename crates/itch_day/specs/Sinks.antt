-- The sinks that take the messages of a day.
use Rattle.std.specs.Prelude.{◌≡◌, ℕ, ◌+◌, List, [], ◌∷◌, Bool, true, false, None, Some, Result, Ok, Err}
use Rattle.itch_codec.specs.Messages.{fault, message_of}
use Rattle.itch_codec.specs.Widths.{IsMessage}
use Rattle.itch_codec.specs.declared.fault.CodecFault.{CodecFault}
use Rattle.itch_codec.specs.declared.message.Message.{Message}

-- the decoded form of a payload: its message, or its fault
abbrev pub Decodes : List ℕ → Result Message CodecFault → Type 0
Decodes payload (Ok message) = (fault payload ≡ None) × (message ≡ message_of payload) × IsMessage message
Decodes payload (Err why) = fault payload ≡ Some why

module _ {T : Type 0} (takes : T → ℕ → List ℕ → T → Type 0) where
  -- these payloads are taken in order, after this number of others
  abbrev pub TakesAll : T → ℕ → List (List ℕ) → T → Type 0
  TakesAll old count [] new = new ≡ old
  TakesAll old count (payload ∷ rest) new = (next : T) × takes old (count + 1) payload next × TakesAll next (count + 1) rest new

-- the effect of offering an undecoded payload: it is taken; or nothing changes, and it still has to be decoded
abbrev pub OffersPayload : {T : Type 0} → (T → ℕ → List ℕ → T → Type 0) → T → ℕ → List ℕ → Bool → T → Type 0
OffersPayload takes old number payload true new = takes old number payload new
OffersPayload takes old number payload false new = new ≡ old
