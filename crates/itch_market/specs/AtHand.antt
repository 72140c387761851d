-- Applying a message directly from its payload; if this is not possible, nothing changes.
use Rattle.std.specs.Prelude.{◌≡◌, ◌⊎◌, ℕ, Bool, true, false, IsTrue, IsSome, List, None}
use Rattle.itch_codec.specs.declared.message.Message.{Message}
use Rattle.itch_codec.specs.Messages.{fault, message_of}
use Rattle.itch_codec.specs.Widths.{IsMessage}
use Rattle.itch_book.specs.Orders.{taken}
use Rattle.itch_market.specs.Content.{Content, laid}
use Rattle.itch_market.specs.Reasons.{reason, take_reason}
use Rattle.itch_market.specs.Effects.{effect, takes_memory}

-- no rule refuses the message, and the result is the market after it; or nothing changes, and a rule refuses it or it takes memory
abbrev pub IsTried : Content → Message → Bool → Content → Type 0
IsTried m message true n = (reason m message ≡ None) × (n ≡ laid (effect m message))
IsTried m message false n = (n ≡ m) × (IsSome (reason m message) ⊎ IsTrue (takes_memory m message))

-- the same for a message that takes shares from an order
abbrev pub IsTaken : Content → ℕ → ℕ → ℕ → Bool → Content → Type 0
IsTaken m locate reference shares true n = (take_reason m locate reference shares ≡ None) × (n ≡ laid (record m { orders = taken reference shares m.orders }))
IsTaken m locate reference shares false n = (n ≡ m) × IsSome (take_reason m locate reference shares)

-- the same for the message of a payload; or nothing changes
abbrev pub IsApplied : Content → List ℕ → Bool → Content → Type 0
IsApplied m payload true n =
    (fault payload ≡ None) × IsMessage (message_of payload) × (reason m (message_of payload) ≡ None) × (n ≡ laid (effect m (message_of payload)))
IsApplied m payload false n = n ≡ m
