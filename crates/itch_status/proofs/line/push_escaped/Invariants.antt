use Rattle.std.proofs.Common.{◌≡◌, ◌≤◌, ◌++◌, ◌+◌, ◌*◌, take}
use Rattle.std.specs.List.{flat_map}
use Rattle.arrayvec.specs.ArrayVec.{array_vec_len}
use Rattle.itch_status.specs.Texts.{escaped}
use Rattle.itch_status.proofs.line.push_escaped.Given as goal

abbrev pub invariant-loop-byte : goal.invariant-loop-byte
invariant-loop-byte g l =
    record {
      items : l.line.items ≡ l.fn.line.items ++ flat_map escaped (take l.byte-index l.bytes);
      len : array_vec_len l.line ≤ array_vec_len l.fn.line + 2 * l.byte-index;
    }
