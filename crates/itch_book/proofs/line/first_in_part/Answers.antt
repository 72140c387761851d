use Rattle.std.proofs.Common.{◌≡◌, not, true, false, option_map, rules, sym, ap, ◌∙◌}
use Rattle.std.specs.List.Sorted.{IsPartitionPoint}
use Rattle.std.proofs.lemmas.List.Sorted.{IsPartitionPoint-from_clause}
use Rattle.itch_book.specs.declared.arrived.Arrived.{Arrived}
use Rattle.itch_book.specs.declared.order.Placed.{Placed}
use Rattle.itch_book.specs.Settled.{its_order, begins}
use Rattle.itch_book.proofs.LineLemmas.{line_parted, read_at, read_past, line_hit, line_miss, line_end}
use Rattle.itch_book.proofs.line.first_in_part.Goals as goal

pub returns-then-wants : goal.returns-then-wants
returns-then-wants c =
    let w = c.args.wanted in let line = c.args.orders.now in let i = c.partition_point-place.result in
    let point : IsPartitionPoint (λ (y : Arrived). not (begins w y) ≡ true) (λ (y : Arrived). not (begins w y) ≡ false) line i =
    IsPartitionPoint-from_clause (λ (y : Arrived). not (begins w y)) line i c.partition_point-place.ensures.partitioned (line_parted w line c.requires.order) (λ a r q k. search rules) in
    ap (option_map its_order) (line_hit w line c.requires.order i c.partition_point-place.ensures.bound point c.in_ok-one.one.now (read_at line i c.in_ok-one.one.now c.in_ok-one.ensures.lookup.0 c.in_ok-one.ensures.lookup.1) (sym c.wants.ensures ∙ c.if-wants.true))

pub returns-else-wants : goal.returns-else-wants
returns-else-wants c =
    let w = c.args.wanted in let line = c.args.orders.now in let i = c.partition_point-place.result in
    let point : IsPartitionPoint (λ (y : Arrived). not (begins w y) ≡ true) (λ (y : Arrived). not (begins w y) ≡ false) line i =
    IsPartitionPoint-from_clause (λ (y : Arrived). not (begins w y)) line i c.partition_point-place.ensures.partitioned (line_parted w line c.requires.order) (λ a r q k. search rules) in
    ap (option_map its_order) (line_miss w line c.requires.order i c.partition_point-place.ensures.bound point c.in_ok-one.one.now (read_at line i c.in_ok-one.one.now c.in_ok-one.ensures.lookup.0 c.in_ok-one.ensures.lookup.1) (sym c.wants.ensures ∙ c.if-wants.false))

pub returns-in_err-one : goal.returns-in_err-one
returns-in_err-one c =
    let w = c.args.wanted in let line = c.args.orders.now in let i = c.partition_point-place.result in
    let point : IsPartitionPoint (λ (y : Arrived). not (begins w y) ≡ true) (λ (y : Arrived). not (begins w y) ≡ false) line i =
    IsPartitionPoint-from_clause (λ (y : Arrived). not (begins w y)) line i c.partition_point-place.ensures.partitioned (line_parted w line c.requires.order) (λ a r q k. search rules) in
    ap (option_map (λ (p : Placed). p.order.now)) c.from_residual.ensures
    ∙ ap (option_map its_order) (line_end w line c.requires.order i c.partition_point-place.ensures.bound point (read_past line i c.in_err-one.ensures.lookup.0))
