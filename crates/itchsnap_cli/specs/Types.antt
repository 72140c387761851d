-- The types of messages.
use Rattle.std.specs.Prelude.{ℕ, ◌==◌, Bool, List, codes}
use Rattle.std.specs.List.{list_any}

-- the types of TotalView-ITCH 5.0, and that of End of Snapshot (GLIMPSE 5.0)
abbrev pub message_types : List ℕ
message_types = codes "SRHYLVWKJhAFECXDUPQBINOG"

abbrev pub is_message_type : ℕ → Bool
is_message_type letter = list_any (λ kind. kind == letter) message_types
