-- A stream of blocks, framed like the packets of SoupBinTCP 3.00: each block has a length in two bytes, the high byte first, and then a
-- payload of that length.
use Rattle.std.specs.Prelude.{◌≡◌, ℕ, ◌<◌, ◌⊎◌, List, [], ◌++◌, length}
use Rattle.std.specs.List.{flat_map, AllByRecursion}
use Rattle.byteorder.specs.Endian.{big_bytes}

-- a payload whose length fits into two bytes
abbrev pub IsPayload : List ℕ → Type 0
IsPayload payload = length payload < 65536

-- the block of a payload
abbrev pub block : List ℕ → List ℕ
block payload = big_bytes 2 (length payload) ++ payload

-- these bytes are the block of this payload
abbrev pub IsBlockOf : List ℕ → List ℕ → Type 0
IsBlockOf payload bytes = IsPayload payload × (bytes ≡ block payload)

-- these bytes are exactly one block
abbrev pub IsBlock : List ℕ → Type 0
IsBlock bytes = (payload : List ℕ) × IsBlockOf payload bytes

-- no prefix of these bytes is a block
abbrev pub HasNoBlock : List ℕ → Type 0
HasNoBlock bytes = (payload more : List ℕ) → IsPayload payload → bytes ≡ block payload ++ more → ⊥

-- the blocks of these payloads, one after another
abbrev pub blocks : List (List ℕ) → List ℕ
blocks payloads = flat_map block payloads

-- the bytes are the blocks of these payloads, and then a rest that does not begin with a block
pub record Blocks (bytes : List ℕ) (payloads : List (List ℕ)) (rest : List ℕ) : Type 0 where
  pub whole : bytes ≡ blocks payloads ++ rest
  pub each : AllByRecursion IsPayload payloads
  pub no_more : HasNoBlock rest

-- the end of a day: no bytes, or an empty block and any bytes after it
abbrev pub Ends : List ℕ → Type 0
Ends rest = (rest ≡ []) ⊎ ((more : List ℕ) × (rest ≡ block [] ++ more))

-- an unfinished block: at least one byte, and no prefix that is a block
abbrev pub Open : List ℕ → Type 0
Open rest = (0 < length rest) × HasNoBlock rest

-- a payload that is not empty
abbrev pub IsFull : List ℕ → Type 0
IsFull payload = (0 < length payload) × IsPayload payload

-- the bytes are the blocks of these payloads, none of them empty, and then the end of the day or an unfinished block
pub record Day (bytes : List ℕ) (payloads : List (List ℕ)) (rest : List ℕ) : Type 0 where
  pub whole : bytes ≡ blocks payloads ++ rest
  pub each : AllByRecursion IsFull payloads
  pub last : Ends rest ⊎ Open rest
