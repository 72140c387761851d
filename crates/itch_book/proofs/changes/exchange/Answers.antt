use Rattle.itch_book.proofs.PlaceLemmas.{is_replaced}
use Rattle.itch_book.proofs.changes.exchange.Goals as goal

pub returns-clause-orders : goal.returns-clause-orders
returns-clause-orders g c =
    is_replaced c.args.original c.args.reference c.args.shares c.args.price c.args.orders.now.items c.take_out-old.new.orders.items c.put_in.new.orders.items
    c.take_out-old.result c.take_out-old.ensures.order c.take_out-old.ensures.orders (rw c.unwrap.ensures at c.put_in.ensures.ok)
