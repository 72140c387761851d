-- The result is the one message that the payload encodes, and its fields fit.
use Rattle.std.proofs.Common.{arith}
use Rattle.itch_codec.proofs.Bytes.{all_bytes}
use Rattle.itch_codec.proofs.Spelling.{only_read, read_message, read_fits}
use Rattle.itch_codec.proofs.decoding.decode.Goals as goal

pub returns-clause-only : goal.returns-clause-only
returns-clause-only c = only_read c.args.payload.now c.read.result c.read.ensures

pub returns-clause-message : goal.returns-clause-message
returns-clause-message c = read_message c.args.payload.now c.read.result c.read.ensures

pub returns-clause-fits : goal.returns-clause-fits
returns-clause-fits c =
    read_fits c.args.payload.now c.read.result (all_bytes c.args.payload.now (λ k. omega (arith, c.type_inv.payload k))) c.read.ensures
