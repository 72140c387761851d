-- The history of an order: a replace gives the order a new reference number, so an order has one number after another.
use Rattle.std.specs.Prelude.{ℕ, ◌==◌, ◌||◌, Bool, false, List, [], ◌∷◌, ◌++◌, Option, None, Some, if◌then◌else◌}
use Rattle.itch_codec.specs.Headers.{reference_of}
use Rattle.itch_codec.specs.declared.message.Message.{Message}
use Rattle.itch_codec.specs.declared.message.Message.TheVariants as is
use Rattle.itch_history.specs.declared.chain.Replacement.{Replacement}

-- the replacement in a message, if it is one
abbrev pub replacement_of : Message → Option Replacement
replacement_of (is.OrderReplace m) = Some (record { original = m.original; reference = m.reference })
replacement_of message = None

-- the number that an order had before a replacement, by its number after it
abbrev pub before_replacement : Option Replacement → ℕ → ℕ
before_replacement None number = number
before_replacement (Some r) number = if r.reference == number then r.original else number

-- the number that an order had before a message
abbrev pub number_before : Message → ℕ → ℕ
number_before message number = before_replacement (replacement_of message) number

-- the number that an order had before these messages: the first number of its history
unfoldable pub first_number : List Message → ℕ → ℕ
first_number [] number = number
first_number (message ∷ messages) number = number_before message (first_number messages number)

-- the number that an order has after a replacement, by its number before it
abbrev pub after_replacement : Option Replacement → ℕ → ℕ
after_replacement None number = number
after_replacement (Some r) number = if r.original == number then r.reference else number

-- the number that an order has after a message
abbrev pub number_after : Message → ℕ → ℕ
number_after message number = after_replacement (replacement_of message) number

-- the number that an order has after these messages
unfoldable pub last_number : List Message → ℕ → ℕ
last_number [] number = number
last_number (message ∷ messages) number = last_number messages (number_after message number)

-- this is the number, if there is one
abbrev pub is_number : ℕ → Option ℕ → Bool
is_number number None = false
is_number number (Some other) = other == number

-- a replacement gives an order this number
abbrev pub gives : ℕ → Option Replacement → Bool
gives number None = false
gives number (Some r) = r.reference == number

-- a message is about the order with this number
abbrev pub is_about : ℕ → Message → Bool
is_about number message = is_number number (reference_of message)

-- a message names the order with this number: it is about the order, or gives it the number
abbrev pub names : ℕ → Message → Bool
names number message = is_about number message || gives number (replacement_of message)

-- the replacements in messages, in order
abbrev pub listed : Option Replacement → List Replacement
listed None = []
listed (Some r) = r ∷ []

unfoldable pub replacements_of : List Message → List Replacement
replacements_of [] = []
replacements_of (message ∷ messages) = listed (replacement_of message) ++ replacements_of messages

-- the number that an order had before these replacements
unfoldable pub first_by : List Replacement → ℕ → ℕ
first_by [] number = number
first_by (r ∷ rest) number = before_replacement (Some r) (first_by rest number)
