-- When clients are served after a start, and where a replay pauses.
use Rattle.std.specs.Prelude.{ℕ, ◌+◌, ◌-◌, ◌%◌, ◌^◌, ◌==◌, min, Bool, true, false, not, ◌&&◌, nat_le, if◌then◌else◌}
use Rattle.itch_status.specs.declared.state.FeedState.{FeedState}
use Rattle.itch_status.specs.declared.state.FeedState.TheVariants as state

-- A feed is caught up if it has ended, or if none of its bytes wait to be read a second after it accepted the login.
abbrev pub is_caught_up : FeedState → ℕ → Bool → Bool
is_caught_up state.Ended accepted_for busy = true
is_caught_up state.Following accepted_for busy = not busy && nat_le 1000 accepted_for
is_caught_up other accepted_for busy = false

-- the first multiple of a number after another number
abbrev pub next_multiple : ℕ → ℕ → ℕ
next_multiple every count = (count - count % every) + every

-- A replay at this message pauses after 8,192 more messages, or when a snapshot is due, if any are written.
abbrev pub next_stop : ℕ → ℕ → ℕ
next_stop every count = if every == 0 then min (count + 8192) (2 ^ 64 - 1) else min (min (count + 8192) (2 ^ 64 - 1)) (next_multiple every count)
