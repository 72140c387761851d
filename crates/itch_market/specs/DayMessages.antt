-- The messages of the requested part of a day, taken in order from the empty market.
use Rattle.std.specs.Prelude.{◌≡◌, ℕ, ◌-◌, ◌^◌, ◌≤◌, List, ◌++◌, length, ◌⊎◌, Option, Some, None, IsSome}
use Rattle.std.specs.List.{AllByRecursion}
use Rattle.std.specs.Io.KnownBytes.{Consumes}
use Rattle.itch_frame.specs.Blocks.{block, blocks, Ends, IsFull}
use Rattle.itch_day.specs.Limits.{IsBefore, IsEarly, IsLate}
use Rattle.itch_day.specs.declared.limit.Limit.{Limit}
use Rattle.itch_market.specs.Content.{empty}
use Rattle.itch_market.specs.DayParts.{IsEnough}
use Rattle.itch_market.specs.Replays.{NoCause}

-- these payloads were taken in order, from the empty market: none is empty, faulty, refused or late
pub record AreTaken (limit : Limit) (payloads : List (List ℕ)) : Type 0 where
  pub full : AllByRecursion IsFull payloads
  pub taken : NoCause empty payloads
  pub few : length payloads ≤ 10 ^ 19 - 1
  pub early : AllByRecursion (IsEarly limit) payloads

-- the bytes begin with the block of a late message
abbrev pub StartsLate : Limit → List ℕ → Type 0
StartsLate limit bytes = (payload : List ℕ) × (rest : List ℕ) × (bytes ≡ block payload ++ rest) × IsFull payload × IsLate limit payload

-- no message is requested after this many: the number is reached, or the next message is late, or the file ends
abbrev pub IsCut : Limit → ℕ → List ℕ → Type 0
IsCut limit count rest = (limit.after ≡ Some count) ⊎ (IsBefore limit count × StartsLate limit rest) ⊎ ((limit.after ≡ None) × Ends rest)

-- the payloads of the requested part of a file, whose blocks come one after another
abbrev pub IsPart : Limit → List ℕ → List (List ℕ) → Type 0
IsPart limit bytes payloads = (rest : List ℕ) × (bytes ≡ blocks payloads ++ rest) × IsCut limit (length payloads) rest

-- fewer messages than requested
abbrev pub IsShort : Limit → ℕ → Type 0
IsShort limit count = IsSome limit.after × IsBefore limit count

-- the payloads came off the front, and no more are requested
abbrev pub LeavesPart : Limit → Option (List ℕ) → Option (List ℕ) → List (List ℕ) → Type 0
LeavesPart limit old new payloads = (mid : Option (List ℕ)) × Consumes old mid (blocks payloads) × IsEnough limit (length payloads) mid new
