use Rattle.std.proofs.Common.{inr}
use Rattle.itch_commands.proofs.show.orders.orders_blocks.Goals as goal

pub returns : goal.returns
returns g c = inr (rw c.in_ok-choice.ensures at c.list_found.ensures)
