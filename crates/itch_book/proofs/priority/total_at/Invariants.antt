use Rattle.std.proofs.Common.{◌≡◌, ◌≤◌, ◌*◌, ◌^◌, length, take, sum_by}
use Rattle.itch_book.specs.Orders.{level}
use Rattle.itch_book.proofs.priority.total_at.Given as goal

abbrev pub invariant-loop-order : goal.invariant-loop-order
invariant-loop-order l =
    record {
      shares : l.shares ≡ sum_by (λ x. x.shares) (level (take l.order-index l.orders) l.locate l.side l.price);
      count : l.count ≡ length (level (take l.order-index l.orders) l.locate l.side l.price);
      many : l.shares ≤ 2 ^ 32 * l.order-index;
      few : l.count ≤ l.order-index;
    }
