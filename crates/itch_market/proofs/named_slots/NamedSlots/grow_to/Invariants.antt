use Rattle.std.proofs.Common.{◌≡◌, ◌≤◌, ◌-◌, length, map}
use Rattle.std.specs.Prelude.{vec_capacity}
use Rattle.itch_market.specs.Slots.{directory, stock_in}
use Rattle.itch_market.proofs.named_slots.NamedSlots.grow_to.Given as goal

abbrev pub invariant-loop-self : goal.invariant-loop-self
invariant-loop-self g l =
    (directory l.self-inside.slots.items ≡ directory l.fn.self)
    × (l.self-inside.stocks.items ≡ map stock_in l.self-inside.slots.items)
    × (length l.self-inside.slots.items ≤ l.len)
    × (l.len ≤ vec_capacity l.self-inside.slots)
    × (l.len ≤ vec_capacity l.self-inside.stocks)

abbrev pub decreases-loop-self : goal.decreases-loop-self
decreases-loop-self g l = l.len - length l.self-inside.slots.items
