use Rattle.std.proofs.Common.{rules, arith}
use Rattle.itch_codec.specs.declared.message.Message.TheVariants as is
use Rattle.itch_codec.specs.Layouts.{attributed_add_order}
use Rattle.itch_codec.proofs.OneType.{decoded, not_laid}
use Rattle.itch_codec.proofs.orders.AttributedAddOrder.from_payload.Goals as goal

pub returns-in-Ok : goal.returns-in-Ok
returns-in-Ok c =
    decoded (is.AttributedAddOrder c.in-Ok.message) c.args.payload.now (λ k. omega (arith, c.type_inv.payload k))
    (record { first = search rules; size = search rules; fields = c.in-Ok.ensures.0 })

pub returns-in-Err : goal.returns-in-Err
returns-in-Err c x laid = not_laid c.args.payload.now attributed_add_order _ c.in-Err.field-0 c.in-Err.ensures laid
