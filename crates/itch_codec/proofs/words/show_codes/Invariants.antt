use Rattle.std.proofs.Common.{◌≡◌, ◌++◌, ◌+◌, ◌*◌, take, codes}
use Rattle.arrayvec.specs.ArrayString.{array_string_len}
use Rattle.itch_codec.specs.Lines.{hex}
use Rattle.itch_codec.proofs.words.show_codes.Given as goal

abbrev pub invariant-loop-byte : goal.invariant-loop-byte
invariant-loop-byte l =
    record {
      bytes : l.line.bytes ≡ l.fn.line.bytes ++ codes " " ++ hex (take l.byte-index l.bytes);
      len : array_string_len l.line ≡ array_string_len l.fn.line + 1 + 2 * l.byte-index;
    }
