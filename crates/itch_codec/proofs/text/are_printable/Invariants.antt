use Rattle.std.proofs.Common.{◌≡◌, take}
use Rattle.itch_codec.proofs.Texts.{all_printable}
use Rattle.itch_codec.proofs.text.are_printable.Given as goal

abbrev pub invariant-loop-byte : goal.invariant-loop-byte
invariant-loop-byte l = l.are ≡ all_printable (take l.byte-index l.bytes)
