-- The bytes of a message are its encoding.
use Rattle.std.proofs.Common.{◌∙◌, ap, subst}
use Rattle.itch_codec.specs.Fields.{AreBytes}
use Rattle.itch_codec.specs.Messages.{spelling}
use Rattle.itch_codec.proofs.encoding.spell.Goals as goal
use Rattle.itch_codec.proofs.encoding.spell.Goals.{in-SystemEvent, in-StockDirectory, in-TradingAction, in-RegSho, in-Halt, in-Position, in-AddOrder, in-AttributedAddOrder, in-OrderExecuted, in-OrderExecutedWithPrice, in-OrderCancel, in-OrderDelete, in-OrderReplace, in-Trade, in-CrossTrade, in-BrokenTrade, in-End}

pub returns-in-Other-clause-fits : goal.returns-in-Other-clause-fits
returns-in-Other-clause-fits c =
    rw c.in-Other.is (record { undecoded = c.payload.ensures.undecoded; wide = subst AreBytes c.payload.ensures.payload c.kept.ensures.wide })

pub returns-clause-bytes : goal.returns-clause-bytes
unfolding spelling
returns-clause-bytes c = elim c.match-message.branch [
  | in-SystemEvent w ↦ rw w.in-SystemEvent.is (ap (λ o. o.items) w.out-is ∙ w.spell.ensures.bytes)
  | in-StockDirectory w ↦ rw w.in-StockDirectory.is (ap (λ o. o.items) w.out-is ∙ w.spell-in-StockDirectory.ensures.bytes)
  | in-TradingAction w ↦ rw w.in-TradingAction.is (ap (λ o. o.items) w.out-is ∙ w.spell-in-TradingAction.ensures.bytes)
  | in-RegSho w ↦ rw w.in-RegSho.is (ap (λ o. o.items) w.out-is ∙ w.spell-in-RegSho.ensures.bytes)
  | in-Halt w ↦ rw w.in-Halt.is (ap (λ o. o.items) w.out-is ∙ w.spell-in-Halt.ensures.bytes)
  | in-Position w ↦ rw w.in-Position.is (ap (λ o. o.items) w.out-is ∙ w.spell-in-Position.ensures.bytes)
  | in-AddOrder w ↦ rw w.in-AddOrder.is (ap (λ o. o.items) w.out-is ∙ w.spell-in-AddOrder.ensures.bytes)
  | in-AttributedAddOrder w ↦ rw w.in-AttributedAddOrder.is (ap (λ o. o.items) w.out-is ∙ w.spell-in-AttributedAddOrder.ensures.bytes)
  | in-OrderExecuted w ↦ rw w.in-OrderExecuted.is (ap (λ o. o.items) w.out-is ∙ w.spell-in-OrderExecuted.ensures.bytes)
  | in-OrderExecutedWithPrice w ↦ rw w.in-OrderExecutedWithPrice.is (ap (λ o. o.items) w.out-is ∙ w.spell-in-OrderExecutedWithPrice.ensures.bytes)
  | in-OrderCancel w ↦ rw w.in-OrderCancel.is (ap (λ o. o.items) w.out-is ∙ w.spell-in-OrderCancel.ensures.bytes)
  | in-OrderDelete w ↦ rw w.in-OrderDelete.is (ap (λ o. o.items) w.out-is ∙ w.spell-in-OrderDelete.ensures.bytes)
  | in-OrderReplace w ↦ rw w.in-OrderReplace.is (ap (λ o. o.items) w.out-is ∙ w.spell-in-OrderReplace.ensures.bytes)
  | in-Trade w ↦ rw w.in-Trade.is (ap (λ o. o.items) w.out-is ∙ w.spell-in-Trade.ensures.bytes)
  | in-CrossTrade w ↦ rw w.in-CrossTrade.is (ap (λ o. o.items) w.out-is ∙ w.spell-in-CrossTrade.ensures.bytes)
  | in-BrokenTrade w ↦ rw w.in-BrokenTrade.is (ap (λ o. o.items) w.out-is ∙ w.spell-in-BrokenTrade.ensures.bytes)
  | in-End w ↦ rw w.in-End.is (ap (λ o. o.items) w.out-is ∙ w.spell-in-End.ensures.bytes)
]
