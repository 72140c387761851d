use Rattle.std.proofs.Common.{◌≡◌, ◌≤◌, ◌++◌, ◌+◌, ◌*◌, take}
use Rattle.std.specs.List.{flat_map}
use Rattle.arrayvec.specs.ArrayString.{array_string_len}
use Rattle.itch_codec.specs.Json.{escaped}
use Rattle.itch_codec.proofs.json_lines.words.push_escaped_bytes.Given as goal

abbrev pub invariant-loop-byte : goal.invariant-loop-byte
invariant-loop-byte l =
    record {
      bytes : l.line.bytes ≡ l.fn.line.bytes ++ flat_map escaped (take l.byte-index l.bytes);
      len : array_string_len l.line ≤ array_string_len l.fn.line + 6 * l.byte-index;
    }
