-- The length of the current block.
use Rattle.std.specs.Prelude.{ℕ, ◌+◌, ◌*◌, List, [], ◌∷◌}

-- the length of a block according to its bytes so far: two, until both length bytes are known
abbrev pub need : List ℕ → ℕ
need [] = 2
need (high ∷ []) = 2
need (high ∷ low ∷ payload) = 2 + (high * 256 + low)
