use Rattle.std.proofs.Common.{◌≡◌, ◌++◌, take}
use Rattle.std.specs.List.{flat_map}
use Rattle.itch_records.specs.DayFiles.{file_character}
use Rattle.itch_records.proofs.day_files.stem_of.Given as goal

abbrev pub invariant-loop-byte : goal.invariant-loop-byte
invariant-loop-byte g l = l.stem.items ≡ l.initial.stem.items ++ flat_map file_character (take l.byte-index l.name)
