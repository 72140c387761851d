-- Which snapshots of a feed's market are saved, and where.
use Rattle.std.specs.Prelude.{ℕ, ◌-◌, ◌%◌, ◌==◌, ◌&&◌, nat_lt, Bool, List, ◌++◌, codes, decimal}

-- a snapshot is due after every `every` messages; the next message has this number
abbrev pub is_wanted : ℕ → ℕ → Bool
is_wanted every next = nat_lt 0 (next - 1) && nat_lt 0 every && (next - 1) % every == 0

-- the path of the snapshot of this number of messages
abbrev pub path_of : List ℕ → ℕ → List ℕ
path_of folder messages = folder ++ codes "/" ++ decimal messages ++ codes ".snap"
