-- Changes of a file by another process while it is being written.
use Rattle.std.specs.Prelude.{◌==◌, ◌||◌, not, nat_lt, Option, None, Some, if◌then◌else◌}
use Rattle.itch_records.specs.declared.watch.Seen.{Seen}
use Rattle.itch_records.specs.declared.watch.FileChange.{FileChange}
use Rattle.itch_records.specs.declared.watch.FileChange.TheVariants.{Removed, Replaced, CutShort, Appended}

-- it was removed if its path leads to no file, and replaced if its path leads to another one; otherwise its length decides
abbrev pub change_of : Seen → Option Seen → Option FileChange
change_of written None = Some Removed
change_of written (Some seen) =
    if not (seen.device == written.device) || not (seen.inode == written.inode) then Some Replaced
    else (if nat_lt seen.length written.length then Some CutShort
    else (if nat_lt written.length seen.length then Some Appended else None))
