-- The number of messages of a snapshot.
use Rattle.std.specs.Prelude.{ℕ, ◌+◌, Option, Some, None}
use Rattle.std.specs.FinMap as finite
use Rattle.itch_market.specs.Content.{Listing}

-- 1 if there is a value, otherwise 0
abbrev pub count_of : {A : Type 0} → Option A → ℕ
count_of None = 0
count_of (Some x) = 1

-- the number of messages of a security without its orders: its directory entry, its trading states, halts and positions
abbrev pub security_len : Listing → ℕ
security_len s = 1 + count_of s.action + count_of s.sho + finite.len s.halts + finite.len s.positions
