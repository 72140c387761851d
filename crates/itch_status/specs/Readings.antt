-- The status as its client reads it.
use Rattle.std.specs.Prelude.{ℕ, nat_eq, ◌||◌, Bool, List, codes}
use Rattle.std.specs.List.{starts_with}

-- the lines or the JSON of a status state that the server is ready, which is their first figure
abbrev pub says_ready : List ℕ → Bool
says_ready body = starts_with nat_eq body (codes "ready yes\n") || starts_with nat_eq body (codes "{\"ready\":true,")
