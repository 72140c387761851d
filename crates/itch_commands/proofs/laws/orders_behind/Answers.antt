use Rattle.itch_commands.proofs.OrdersLeft.{has_none, has_order, order_left}
use Rattle.itch_commands.proofs.laws.orders_behind.Goals as goal

pub returns-clause-there : goal.returns-clause-there
returns-clause-there c = has_order

pub returns-clause-none : goal.returns-clause-none
returns-clause-none c = has_none

pub returns-clause-left : goal.returns-clause-left
returns-clause-left c = order_left
