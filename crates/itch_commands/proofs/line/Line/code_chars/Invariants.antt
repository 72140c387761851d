use Rattle.std.proofs.Common.{◌≡◌, ◌≤◌, ◌+◌, ◌*◌, ◌++◌, length, take}
use Rattle.std.specs.List.{flat_map}
use Rattle.itch_commands.specs.Rows.{code_char}
use Rattle.itch_commands.proofs.line.Line.code_chars.Given as goal

abbrev pub invariant-loop-byte : goal.invariant-loop-byte
invariant-loop-byte l =
    record {
      text : l.self ≡ l.initial.self ++ flat_map code_char (take l.byte-index l.bytes);
      short : length l.self ≤ length l.initial.self + 4 * l.byte-index;
    }
