-- The message of one type in a payload, if the payload is a valid message of that type.
use Rattle.std.specs.Prelude.{◌≡◌, ℕ, List, Option, Some, None}
use Rattle.itch_codec.specs.declared.message.Message.{Message}
use Rattle.itch_codec.specs.Messages.{Spells, fault, message_of}
use Rattle.itch_codec.specs.Widths.{IsMessage}

-- the payload encodes this message, whose fields fit
pub record IsDecoded (m : Message) (payload : List ℕ) : Type 0 where
  pub spelled : Spells m payload
  pub message : m ≡ message_of payload
  pub no_fault : fault payload ≡ None
  pub fits : IsMessage m

-- the payload encodes the message of the result; or it is not a valid message of that type
abbrev pub IsTyped : {X : Type 0} → (X → Message) → List ℕ → Option X → Type 0
IsTyped as_message payload (Some x) = IsDecoded (as_message x) payload
IsTyped as_message payload None = (x : _) → Spells (as_message x) payload → ⊥
