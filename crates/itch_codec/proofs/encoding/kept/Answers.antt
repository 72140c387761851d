-- A slice's bytes are bytes.
use Rattle.std.proofs.Common.{arith}
use Rattle.itch_codec.proofs.Bytes.{all_bytes}
use Rattle.itch_codec.proofs.encoding.kept.Goals as goal

pub returns-clause-wide : goal.returns-clause-wide
returns-clause-wide c = all_bytes c.args.payload.now (λ k. omega (arith, c.type_inv.payload k))
