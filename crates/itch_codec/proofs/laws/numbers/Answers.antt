-- A field encodes at most one number.
use Rattle.itch_codec.proofs.Numbers.{same_spelled}
use Rattle.itch_codec.proofs.laws.numbers.Goals as goal

pub returns-clause-one : goal.returns-clause-one
returns-clause-one c = same_spelled
