-- The tally of messages in a stream of blocks, as far as the stream has arrived.
use Rattle.std.specs.Prelude.{◌≡◌, ℕ, ◌-◌, ◌^◌, ◌<◌, min, List, [], ◌∷◌, ◌++◌, length}
use Rattle.itch_frame.specs.Blocks.{IsBlock, Blocks}
use Rattle.itchsnap_cli.specs.declared.input.messages.BlockPosition.{BlockPosition}
use Rattle.itchsnap_cli.specs.declared.input.messages.BlockPosition.TheVariants.{Border, Length, Payload}
use Rattle.itchsnap_cli.specs.declared.input.messages.BlockCounter.{BlockCounter}

-- this many more bytes, whatever they are, make these bytes a block
abbrev pub IsWholeAfter : ℕ → List ℕ → Type 0
IsWholeAfter count bytes = (more : List ℕ) → length more ≡ count → IsBlock (bytes ++ more)

-- the place after these bytes of an incomplete block
abbrev pub IsAt : BlockPosition → List ℕ → Type 0
IsAt Border bytes = bytes ≡ []
IsAt (Length high) bytes = (bytes ≡ high ∷ []) × (high < 256)
IsAt (Payload count) bytes = (0 < count) × IsWholeAfter count bytes

-- the place after these bytes, the last of which may have completed a block
abbrev pub Reaches : BlockPosition → List ℕ → Type 0
Reaches Border bytes = IsBlock bytes
Reaches place bytes = IsAt place bytes

-- the tally of the bytes so far: the number of blocks, up to the greatest number, and the place in the next one
pub record Counts (tally : BlockCounter) (bytes : List ℕ) : Type 0 where
  pub payloads : List (List ℕ)
  pub rest : List ℕ
  pub reading : Blocks bytes payloads rest
  pub counted : tally.messages ≡ min (length payloads) (2 ^ 64 - 1)
  pub place : IsAt tally.place rest

-- the tally of some bytes becomes that of these bytes followed by a piece
abbrev pub CountsOn : BlockCounter → List ℕ → BlockCounter → Type 0
CountsOn old piece new = (bytes : List ℕ) → Counts old bytes → Counts new (bytes ++ piece)
