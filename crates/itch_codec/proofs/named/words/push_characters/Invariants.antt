use Rattle.std.proofs.Common.{◌≡◌, ◌≤◌, ◌++◌, ◌+◌, ◌*◌, take}
use Rattle.std.specs.List.{flat_map}
use Rattle.arrayvec.specs.ArrayString.{array_string_len}
use Rattle.itch_codec.specs.Named.{character}
use Rattle.itch_codec.proofs.named.words.push_characters.Given as goal

abbrev pub invariant-loop-byte : goal.invariant-loop-byte
invariant-loop-byte l =
    record {
      bytes : l.line.bytes ≡ l.fn.line.bytes ++ flat_map character (take l.byte-index l.bytes);
      len : array_string_len l.line ≤ array_string_len l.fn.line + 4 * l.byte-index;
    }
