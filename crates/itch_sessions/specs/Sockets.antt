-- The outcome of a read from a socket.
use Rattle.std.specs.Prelude.{ℕ, ◌<◌, ◌≤◌}
use Rattle.itch_sessions.specs.declared.socket.Got.{Got}
use Rattle.itch_sessions.specs.declared.socket.Got.TheVariants.{Bytes, Nothing, Ended}

-- a read returns at least one byte, and no more than a buffer of this length holds
abbrev pub IsWithin : ℕ → Got → Type 0
IsWithin length (Bytes count) = (0 < count) × (count ≤ length)
IsWithin length Nothing = Unit {0}
IsWithin length Ended = Unit {0}
