use Rattle.std.proofs.Common.{◌/◌, ◌%◌, [], ◌∷◌, ◌++◌, take, get_or, sym, ap, ◌∙◌, arith}
use Rattle.std.proofs.lemmas.List.{append_assoc, append-nil, take_all}
use Rattle.itch_codec.specs.Lines.{hex, hex_digit, word}
use Rattle.itch_codec.proofs.Hexadecimal.{hex-none, hex-take}
use Rattle.itch_codec.proofs.words.show_codes.Goals as goal

pub loop-byte-init : goal.loop-byte-init
loop-byte-init c =
    let front = c.args.line.now.bytes ++ 32 ∷ [] in
    record {
      bytes = c.push_str.ensures.bytes ∙ sym (append-nil front) ∙ ap (λ zs. front ++ zs) (sym hex-none);
      len = omega (arith, c.push_str.ensures.len);
    }

pub loop-byte-preserved : goal.loop-byte-preserved
loop-byte-preserved c =
    let i = c.loop-byte.byte-index in
    let bytes = c.args.bytes.now in
    let front = c.args.line.now.bytes ++ 32 ∷ [] in
    let digits = hex_digit (get_or bytes i 0 / 16) ∷ hex_digit (get_or bytes i 0 % 16) ∷ [] in
    record {
      bytes = c.push_hex.ensures.bytes
          ∙ ap (λ xs. xs ++ digits) c.loop-byte.invariant.bytes
          ∙ append_assoc front (hex (take i bytes)) digits
          ∙ ap (λ zs. front ++ zs) (sym (hex-take bytes i (omega arith)));
      len = omega (arith, c.push_hex.ensures.len, c.loop-byte.invariant.len);
    }

pub returns-clause-bytes : goal.returns-clause-bytes
unfolding word
returns-clause-bytes c =
    let front = c.args.line.now.bytes ++ 32 ∷ [] in
    let all = take_all c.loop-byte.byte-index c.args.bytes.now (omega arith) in
    c.loop-byte.invariant.bytes ∙ ap (λ xs. front ++ hex xs) all ∙ append_assoc c.args.line.now.bytes (32 ∷ []) (hex c.args.bytes.now)
