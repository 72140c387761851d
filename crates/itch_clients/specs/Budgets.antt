-- The share of time spent on encoding snapshots, and which clients are slow.
use Rattle.std.specs.Prelude.{ℕ, ◌-◌, ◌*◌, ◌||◌, ◌^◌, min, nat_le, nat_lt, Bool}

-- a snapshot may be encoded if there is no other work, or if twice as long has passed as encoding the last one took
abbrev pub may_encode : ℕ → ℕ → ℕ → Bool → Bool
may_encode ended took now idle = idle || nat_le (min (took * 2) (2 ^ 64 - 1)) (now - ended)

-- less than a megabyte per second: 1,000 bytes per millisecond
abbrev pub is_slow : ℕ → ℕ → Bool
is_slow bytes passed = nat_lt bytes (min (passed * 1_000) (2 ^ 64 - 1))
