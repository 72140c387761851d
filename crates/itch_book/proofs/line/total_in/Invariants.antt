use Rattle.std.proofs.Common.{◌≡◌, ◌≤◌, ◌*◌, ◌^◌, length, take, filter, sum_by}
use Rattle.itch_book.specs.declared.arrived.Arrived.{Arrived}
use Rattle.itch_book.proofs.BetweenLemmas.{at_level}
use Rattle.itch_book.proofs.line.total_in.Given as goal

abbrev pub invariant-loop-one : goal.invariant-loop-one
invariant-loop-one l =
    record {
      shares : l.shares ≡ sum_by (λ (x : Arrived). x.order.shares) (filter (at_level l.locate l.side l.price) (take l.one-index l.orders));
      count : l.count ≡ length (filter (at_level l.locate l.side l.price) (take l.one-index l.orders));
      many : l.shares ≤ 2 ^ 32 * l.one-index;
      few : l.count ≤ l.one-index;
    }
