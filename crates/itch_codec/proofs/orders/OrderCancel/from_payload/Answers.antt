use Rattle.std.proofs.Common.{rules, arith}
use Rattle.itch_codec.specs.declared.message.Message.TheVariants as is
use Rattle.itch_codec.proofs.OneType.{decoded}
use Rattle.itch_codec.proofs.orders.OrderCancel.from_payload.Goals as goal

pub returns : goal.returns
returns c =
    decoded (is.OrderCancel c.decode.result) c.args.payload.now (λ k. omega (arith, c.type_inv.payload k))
    (record { first = search rules; size = search rules; fields = c.decode.ensures })
