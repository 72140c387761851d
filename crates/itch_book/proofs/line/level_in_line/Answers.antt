use Rattle.std.proofs.Common.{◌≡◌, true, false, rules, ◌∙◌}
use Rattle.std.specs.List.Sorted.{IsPartitionPoint}
use Rattle.std.proofs.lemmas.List.Sorted.{IsPartitionPoint-from_clause}
use Rattle.itch_book.specs.declared.arrived.Arrived.{Arrived}
use Rattle.itch_book.proofs.BetweenLemmas.{spot, ahead, not_past, ahead_parted, past_parted, ends, total_between}
use Rattle.itch_book.proofs.line.level_in_line.Goals as goal

pub slice_bounds-total_in-count : goal.slice_bounds-total_in-count
slice_bounds-total_in-count c =
    let l = c.args.locate in let s = c.args.side in let p = c.args.price in
    let line = c.args.line.now in let i = c.partition_point-start.result in let j = c.partition_point-end.result in
    let start : IsPartitionPoint (λ (y : Arrived). ahead (spot l s p) y ≡ true) (λ (y : Arrived). ahead (spot l s p) y ≡ false) line i =
    IsPartitionPoint-from_clause (λ (y : Arrived). ahead (spot l s p) y) line i c.partition_point-start.ensures.partitioned (ahead_parted (spot l s p) line c.requires) (λ a r q k. search rules) in
    let end : IsPartitionPoint (λ (y : Arrived). not_past (spot l s p) y ≡ true) (λ (y : Arrived). not_past (spot l s p) y ≡ false) line j =
    IsPartitionPoint-from_clause (λ (y : Arrived). not_past (spot l s p) y) line j c.partition_point-end.ensures.partitioned (past_parted (spot l s p) line c.requires) (λ a r q k. search rules) in
    ends l s p line i j c.partition_point-start.ensures.bound c.partition_point-end.ensures.bound start end

pub slice_bounds-total_in-start : goal.slice_bounds-total_in-start
slice_bounds-total_in-start c =
    let l = c.args.locate in let s = c.args.side in let p = c.args.price in
    let line = c.args.line.now in let i = c.partition_point-start.result in let j = c.partition_point-end.result in
    let start : IsPartitionPoint (λ (y : Arrived). ahead (spot l s p) y ≡ true) (λ (y : Arrived). ahead (spot l s p) y ≡ false) line i =
    IsPartitionPoint-from_clause (λ (y : Arrived). ahead (spot l s p) y) line i c.partition_point-start.ensures.partitioned (ahead_parted (spot l s p) line c.requires) (λ a r q k. search rules) in
    let end : IsPartitionPoint (λ (y : Arrived). not_past (spot l s p) y ≡ true) (λ (y : Arrived). not_past (spot l s p) y ≡ false) line j =
    IsPartitionPoint-from_clause (λ (y : Arrived). not_past (spot l s p) y) line j c.partition_point-end.ensures.partitioned (past_parted (spot l s p) line c.requires) (λ a r q k. search rules) in
    ends l s p line i j c.partition_point-start.ensures.bound c.partition_point-end.ensures.bound start end

pub returns : goal.returns
returns c =
    let l = c.args.locate in let s = c.args.side in let p = c.args.price in
    let line = c.args.line.now in let i = c.partition_point-start.result in let j = c.partition_point-end.result in
    let start : IsPartitionPoint (λ (y : Arrived). ahead (spot l s p) y ≡ true) (λ (y : Arrived). ahead (spot l s p) y ≡ false) line i =
    IsPartitionPoint-from_clause (λ (y : Arrived). ahead (spot l s p) y) line i c.partition_point-start.ensures.partitioned (ahead_parted (spot l s p) line c.requires) (λ a r q k. search rules) in
    let end : IsPartitionPoint (λ (y : Arrived). not_past (spot l s p) y ≡ true) (λ (y : Arrived). not_past (spot l s p) y ≡ false) line j =
    IsPartitionPoint-from_clause (λ (y : Arrived). not_past (spot l s p) y) line j c.partition_point-end.ensures.partitioned (past_parted (spot l s p) line c.requires) (λ a r q k. search rules) in
    c.total_in.ensures ∙ total_between l s p line i j c.partition_point-start.ensures.bound c.partition_point-end.ensures.bound start end
