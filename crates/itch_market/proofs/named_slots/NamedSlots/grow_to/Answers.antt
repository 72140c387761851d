use Rattle.std.proofs.Common.{rules, ap, sym, ◌∙◌}
use Rattle.itch_market.specs.Slots.{directory, stock_in}
use Rattle.std.specs.Prelude.{map as map_list}
use Rattle.itch_market.proofs.Slots.{directory_more, stocks_more}
use Rattle.itch_market.proofs.named_slots.NamedSlots.grow_to.Goals as goal

pub loop-self-preserved : goal.loop-self-preserved
loop-self-preserved g c = (
  ap directory c.push_reserved.ensures.items ∙ directory_more c.loop-self.self-inside.slots.items 1 ∙ c.loop-self.invariant.0,
  c.push_reserved-in-loop-self.ensures.items ∙ stocks_more _ _ c.loop-self.invariant.1 ∙ ap (map_list stock_in) (sym c.push_reserved.ensures.items),
  search rules,
  search rules,
  search rules,
)
