-- Which server is connected to next, and how long a follower waits before that.
use Rattle.std.specs.Prelude.{ℕ, Bool, ◌+◌, ◌-◌, ◌*◌, ◌^◌, nat_le, nat_lt, max, min, if◌then◌else◌}
use Rattle.itch_sessions.specs.declared.spot.Spot.{Spot}
use Rattle.itch_sessions.specs.declared.spot.Pause.{Pause}

-- the next address of the same server, of the ones found; after the last one the first address of the next server; after the last server the
-- first one
abbrev pub spot_after : Spot → ℕ → Bool → Spot
spot_after spot found another =
    if nat_lt spot.address (found - 1) then record { server = spot.server; address = spot.address + 1 }
    else (if another then record { server = min (spot.server + 1) (2 ^ 64 - 1); address = 0 } else record { server = 0; address = 0 })

-- the wait in milliseconds: twice the last one, from 100 to 5,000; 100 if the server stayed connected for a minute
abbrev pub wait_after : ℕ → ℕ → ℕ
wait_after last stayed = if nat_le 60_000 stayed then 100 else min 5_000 (max 100 (2 * last))

-- no wait before another address; the last wait is forgotten if a server stayed connected for a minute
abbrev pub pause_after : ℕ → ℕ → Bool → Pause
pause_after last stayed first =
    if first then record { wait_ms = wait_after last stayed; counts_ms = wait_after last stayed }
    else record { wait_ms = 0; counts_ms = if nat_le 60_000 stayed then 0 else last }
