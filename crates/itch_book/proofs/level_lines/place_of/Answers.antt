use Rattle.std.proofs.Common.{rules}
use Rattle.std.proofs.lemmas.List.Sorted.{IsPartitionPoint-from_clause}
use Rattle.itch_book.specs.declared.level_lines.Level.{Level}
use Rattle.itch_book.specs.Orders.{is_better}
use Rattle.itch_book.proofs.RisingLemmas.{parted, place_is}
use Rattle.itch_book.proofs.level_lines.place_of.Goals as goal

pub returns-clause-place : goal.returns-clause-place
returns-clause-place c =
    let s = c.args.side in let p = c.args.price in let xs = c.args.levels.now in
    let point = IsPartitionPoint-from_clause (λ (x : Level). is_better s p x.price) xs c.partition_point.result c.partition_point.ensures.partitioned (parted s p xs c.requires) (λ a r q k. search rules) in
    place_is s p xs c.partition_point.result (record { price = 0; queue = 0 }) c.partition_point.ensures.bound point
