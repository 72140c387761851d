-- Names of sessions, which may be padded at either end.
use Rattle.std.specs.Prelude.{ℕ, Bool, not, List}
use Rattle.std.specs.Str.{bytes_eq}
use Rattle.itch_soup.specs.Names.{session_name}

-- the names differ, even without the spaces around them
abbrev pub is_another : List ℕ → List ℕ → Bool
is_another session named = not (bytes_eq (session_name session) (session_name named))
