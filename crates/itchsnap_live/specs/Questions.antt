-- Asking a feed for its session.
use Rattle.std.specs.Prelude.{ℕ, Bool, ◌==◌, ◌&&◌, not}

-- a feed is asked once, after a rejection with S, 83, of a login for a record, if no login was accepted before
abbrev pub asks_session : ℕ → Bool → Bool → Bool
asks_session code accepted asked = code == 83 && not accepted && not asked
