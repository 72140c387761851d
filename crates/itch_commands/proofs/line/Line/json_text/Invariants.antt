use Rattle.std.proofs.Common.{◌≡◌, ◌≤◌, ◌+◌, ◌*◌, ◌++◌, length, take}
use Rattle.std.specs.List.{flat_map}
use Rattle.itch_commands.specs.Forms.{json_char}
use Rattle.itch_commands.proofs.line.Line.json_text.Given as goal

abbrev pub invariant-loop-byte : goal.invariant-loop-byte
invariant-loop-byte l =
    record {
      text : l.self ≡ l.initial.self ++ flat_map json_char (take l.byte-index l.text);
      short : length l.self ≤ length l.initial.self + 2 * l.byte-index;
    }
