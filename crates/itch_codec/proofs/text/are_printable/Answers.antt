use Rattle.std.proofs.Common.{◌≡◌, sym, ap, ◌∙◌}
use Rattle.std.proofs.lemmas.List.{take_all}
use Rattle.itch_codec.proofs.Texts.{all_printable, all-printable, printable-all}
use Rattle.itch_codec.proofs.text.are_printable.Goals as goal

pub returns : goal.returns
returns c =
    let bytes = c.args.bytes.now in
    let same : c.loop-byte.are ≡ all_printable bytes =
    c.loop-byte.invariant ∙ ap all_printable (take_all c.loop-byte.byte-index bytes c.loop-byte-test.false) in
    (λ are. all-printable bytes (sym same ∙ are), λ printable. same ∙ printable-all bytes printable)
