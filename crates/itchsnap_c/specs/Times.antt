-- The place where a time of the day begins in the blocks of a day file.
use Rattle.std.specs.Prelude.{◌≡◌, ◌⊎◌, ℕ, List, ◌++◌, length, Option, Some, None}
use Rattle.std.specs.List.{AllByRecursion}
use Rattle.itch_frame.specs.Blocks.{blocks, Ends, IsFull, Open}
use Rattle.itch_day.specs.Limits.{IsLate}
use Rattle.itch_market.specs.DayMessages.{StartsLate}
use Rattle.itch_day.specs.declared.limit.Limit.{Limit}
use Rattle.itchsnap_c.specs.Codes.{counted, no_count}
use Rattle.itchsnap_c.specs.declared.answers.Count.{Count}

-- the messages before a time
abbrev pub before : ℕ → Limit
before time = record { after = None; until = Some time }

-- a payload that is not empty and is not a late message
abbrev pub IsPassed : Limit → List ℕ → Type 0
IsPassed limit payload = IsFull payload × (IsLate limit payload → ⊥)

-- these bytes begin with the blocks of these payloads, none of them late, and then these bytes follow
pub record Passes (limit : Limit) (bytes : List ℕ) (payloads : List (List ℕ)) (rest : List ℕ) : Type 0 where
  pub whole : bytes ≡ blocks payloads ++ rest
  pub each : AllByRecursion (IsPassed limit) payloads

-- the number of bytes before the block of the first late message; or there is none before the end or an unfinished block
abbrev pub Finds : Limit → List ℕ → Option ℕ → Type 0
Finds limit bytes (Some count) =
    (payloads : List (List ℕ)) × (rest : List ℕ) × Passes limit bytes payloads rest × StartsLate limit rest × (count ≡ length (blocks payloads))
Finds limit bytes None = (payloads : List (List ℕ)) × (rest : List ℕ) × Passes limit bytes payloads rest × (Ends rest ⊎ Open rest)

-- the answer for that
abbrev pub found : Option ℕ → Count
found (Some count) = counted count
found None = no_count 52

-- the number of bytes before the first message at a time or later, if there is one; or memory for a block runs out
abbrev pub FindsTime : List ℕ → ℕ → Count → Type 0
FindsTime bytes time c = ((at : Option ℕ) × Finds (before time) bytes at × (c ≡ found at)) ⊎ (c ≡ no_count 48)
