-- An encoded number is read back.
use Rattle.std.proofs.Common.{◌∙◌}
use Rattle.itch_codec.proofs.Numbers.{spells-read}
use Rattle.itch_codec.proofs.number.read_number20.Goals as goal

pub returns-clause-complete : goal.returns-clause-complete
returns-clause-complete c = λ number spelled. c.read.ensures.value ∙ spells-read c.args.field.now number spelled
