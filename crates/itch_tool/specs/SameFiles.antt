-- Two paths of one file.
use Rattle.std.specs.Prelude.{◌==◌, ◌&&◌, Bool, false, Option, None, Some}
use Rattle.itch_records.specs.declared.watch.Seen.{Seen}

-- these are one file, whatever its length
abbrev pub is_same_file : Seen → Option Seen → Bool
is_same_file one None = false
is_same_file one (Some other) = (one.device == other.device) && (one.inode == other.inode)
