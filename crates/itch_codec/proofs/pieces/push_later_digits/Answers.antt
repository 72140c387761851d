use Rattle.std.proofs.Common.{length, ap, arith}
use Rattle.std.proofs.lemmas.Fmt.{decimal_nonempty}
use Rattle.itch_codec.proofs.pieces.push_later_digits.Goals as goal

pub range_from-requires : goal.range_from-requires
range_from-requires g c = λ _. (
  omega (arith, ap length c.format.ensures.text, decimal_nonempty c.args.number (omega arith)),
  λ _ high. absurd (omega (arith, high, c.format.ensures.ascii 1)),
)
