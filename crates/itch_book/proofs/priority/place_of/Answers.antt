use Rattle.std.proofs.Common.{not, rules}
use Rattle.std.proofs.lemmas.List.Sorted.{IsPartitionPoint-from_clause}
use Rattle.itch_book.specs.Orders.{stands_before}
use Rattle.itch_book.proofs.PlaceLemmas.{parted, place_is}
use Rattle.itch_book.proofs.priority.place_of.Goals as goal

pub returns-clause-place : goal.returns-clause-place
returns-clause-place c =
    let order = c.args.order.now in
    let orders = c.args.orders.now in
    let point = IsPartitionPoint-from_clause (λ y. not (stands_before order y)) orders c.partition_point.result c.partition_point.ensures.partitioned (parted order orders c.requires) (λ a r q k. search rules) in
    place_is order orders c.partition_point.result c.partition_point.ensures.bound point
