-- How long the server waits for a peer.
use Rattle.std.specs.Prelude.{ℕ, ◌+◌, ◌*◌, ◌/◌}

-- The nanoseconds that a peer has for its login, and for accepting this number of bytes of its answer: 15 seconds, and one more second for
-- each 64 KiB.
abbrev pub patience : ℕ → ℕ
patience bytes = (15 + bytes / 65_536) * 1_000_000_000
