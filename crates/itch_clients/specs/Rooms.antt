-- The limit of the snapshots in use.
use Rattle.std.specs.Prelude.{ℕ, ◌-◌, ◌*◌, ◌^◌, max, min, Option, None, Some}

-- the given limit, or else 256 MiB, or four times the longest snapshot if that is more
abbrev pub limit_of : Option ℕ → ℕ → ℕ
limit_of (Some bytes) longest = bytes
limit_of None longest = max (min (longest * 4) (2 ^ 64 - 1)) 268_435_456
