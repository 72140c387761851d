use Rattle.std.proofs.Common.{◌≡◌, List, length, take, filter, sum_by, ap, ap₂, ◌∙◌}
use Rattle.std.proofs.lemmas.List.{take_all}
use Rattle.itch_book.specs.declared.arrived.Arrived.{Arrived}
use Rattle.itch_book.proofs.BetweenLemmas.{at_level, total_shown}
use Rattle.itch_book.proofs.line.total_in.Goals as goal

pub returns : goal.returns
returns c =
    let l = c.args.locate in let s = c.args.side in let p = c.args.price in
    let all : take c.loop-one.one-index c.args.orders.now ≡ c.args.orders.now = take_all c.loop-one.one-index c.args.orders.now c.loop-one-test.false in
    ap₂ (λ a b. (a, b))
    (c.loop-one.invariant.shares ∙ ap (λ (xs : List Arrived). sum_by (λ (x : Arrived). x.order.shares) (filter (at_level l s p) xs)) all)
    (c.loop-one.invariant.count ∙ ap (λ (xs : List Arrived). length (filter (at_level l s p) xs)) all)
    ∙ total_shown l s p c.args.orders.now
