-- The steps of a splitter over the pieces of a stream.
use Rattle.std.specs.Prelude.{◌≡◌, ℕ, ◌<◌, ◌≤◌, List, [], ◌∷◌, ◌++◌, length, take}
use Rattle.itch_frame.specs.Blocks.{IsBlock, IsBlockOf, Blocks}

-- The splitter takes the first n bytes of the piece: the fewest that complete a block with the held bytes, or all of them if none do.
pub record IsTake (held piece : List ℕ) (n : ℕ) (new : List ℕ) : Type 0 where
  pub within : n ≤ length piece
  pub joined : new ≡ held ++ take n piece
  pub fewest : (k : ℕ) → k < n → IsBlock (held ++ take k piece) → ⊥
  pub whole : n < length piece → IsBlock new

-- a call that took n bytes of a piece, or a call that dropped the block of a payload
pub data CutStep : Type 0 where
  Takes : List ℕ → ℕ → CutStep
  Clears : List ℕ → CutStep

-- these steps lead from the held bytes to the new ones; a splitter drops only complete blocks
abbrev pub Run : List ℕ → List CutStep → List ℕ → Type 0
Run held [] new = new ≡ held
Run held (Takes piece n ∷ steps) new = (mid : List ℕ) × IsTake held piece n mid × Run mid steps new
Run held (Clears payload ∷ steps) new = IsBlockOf payload held × Run [] steps new

-- the bytes that the splitter took, piece after piece
abbrev pub stream_of : List CutStep → List ℕ
stream_of [] = []
stream_of (Takes piece n ∷ steps) = take n piece ++ stream_of steps
stream_of (Clears payload ∷ steps) = stream_of steps

-- the payloads that were ready when the splitter dropped them
abbrev pub payloads_of : List CutStep → List (List ℕ)
payloads_of [] = []
payloads_of (Takes piece n ∷ steps) = payloads_of steps
payloads_of (Clears payload ∷ steps) = payload ∷ payloads_of steps

-- The payloads are those of the stream's blocks, for all pieces of the stream.
pub record AnyCut (steps : List CutStep) (held : List ℕ) : Type 0 where
  -- the last block is unfinished, or nothing is held
  pub unfinished : (IsBlock held → ⊥) → Blocks (stream_of steps) (payloads_of steps) held
  -- a block is ready, and was not dropped yet
  pub ready : (payload : List ℕ) → IsBlockOf payload held → Blocks (stream_of steps) (payloads_of steps ++ payload ∷ []) []
