use Rattle.std.proofs.Common.{Some, set, ap, ◌∙◌}
use Rattle.itch_market.specs.Content.{Listing}
use Rattle.itch_market.proofs.Slots.{stocks_set}
use Rattle.itch_market.proofs.named_slots.NamedSlots.put.Goals as goal

pub invariant_of-self : goal.invariant_of-self
invariant_of-self g c =
    ap (set c.self.inside.stocks.items c.args.at) (c.bytes.ensures.bytes ∙ ap (λ (s : Listing). s.entry.stock) c.security.view_is)
    ∙ stocks_set _ _ c.args.at (Some c.args.security) c.self.invariant
