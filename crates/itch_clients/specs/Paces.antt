-- When a message of a played day file is due.
use Rattle.std.specs.Prelude.{ℕ, ◌*◌, nat_le, Bool, true, List, unwrap_or}
use Rattle.itch_codec.specs.Headers.{stamp_in}
use Rattle.itch_clients.specs.declared.pace.Pace.{Pace}
use Rattle.itch_clients.specs.declared.pace.Pace.TheVariants.{Free, Rate, Clock}

-- Whether a message is due `passed` milliseconds after the login was accepted, if `before` messages come before it, and its timestamp is
-- `later` nanoseconds after that of the first one. At a rate of N per second, message k after the first is due k / N seconds after it; at X
-- times the clock, a message whose timestamp is t later is due t / X later.
abbrev pub is_due : Pace → ℕ → ℕ → ℕ → Bool
is_due Free passed before later = true
is_due (Rate rate) passed before later = nat_le (before * 1_000) (rate * passed)
is_due (Clock times) passed before later = nat_le later (times * 1_000_000 * passed)

-- the timestamp of a message, or 0 if it has none
abbrev pub timestamp : List ℕ → ℕ
timestamp message = unwrap_or (stamp_in message) 0
