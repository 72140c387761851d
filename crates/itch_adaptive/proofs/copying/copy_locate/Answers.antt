use Rattle.std.proofs.Common.{option_map, sym, subst, ap, arith}
use Rattle.itch_book.specs.declared.order.Placed.{Placed}
use Rattle.itch_book.specs.Orders.{queues_below}
use Rattle.itch_adaptive.proofs.CopiedBooks.{CopiedSoFar, copy_begun, copy_ended, copied_more, fewer_left, has_shares_left, is_new}
use Rattle.itch_adaptive.proofs.copying.copy_locate.Goals as goal

pub loop-next-init : goal.loop-next-init
loop-next-init g c =
    let orders = g.S.OrderBook.orders c.args.book.now in
    rw c.requires (subst (λ next. CopiedSoFar orders c.args.locate next (queues_below c.args.locate orders)) (sym c.first-next.ensures) (copy_begun orders (g.met.S.OrderBook.is_book c.args.book.now) c.args.locate))

pub add-requires-clause-some_shares : goal.add-requires-clause-some_shares
add-requires-clause-some_shares g c =
    has_shares_left (g.S.OrderBook.orders c.args.book.now) (g.met.S.OrderBook.is_book c.args.book.now) c.args.locate _ c.in-Some.placed.order.now _ (omega arith) c.loop-next.invariant
    (ap (option_map (λ (p : Placed). p.order.now)) c.in-Some.is)

pub add-requires-clause-new_reference : goal.add-requires-clause-new_reference
add-requires-clause-new_reference g c =
    is_new (g.S.OrderBook.orders c.args.book.now) (g.met.S.OrderBook.is_book c.args.book.now) c.args.locate _ c.in-Some.placed.order.now _ (omega arith) c.loop-next.invariant
    (ap (option_map (λ (p : Placed). p.order.now)) c.in-Some.is)

pub loop-next-smaller : goal.loop-next-smaller
loop-next-smaller g c =
    fewer_left (g.S.OrderBook.orders c.args.book.now) (g.met.S.OrderBook.is_book c.args.book.now) c.args.locate _ c.in-Some.placed.order.now _ (omega arith) c.loop-next.invariant
    (ap (option_map (λ (p : Placed). p.order.now)) c.in-Some.is) _ c.after-next.ensures

pub loop-next-preserved : goal.loop-next-preserved
loop-next-preserved g c =
    rw c.in_ok-add.ensures.ok
    (copied_more (g.S.OrderBook.orders c.args.book.now) (g.met.S.OrderBook.is_book c.args.book.now) c.args.locate _ c.in-Some.placed.order.now _ (omega arith) c.loop-next.invariant
    (ap (option_map (λ (p : Placed). p.order.now)) c.in-Some.is) _ c.after-next.ensures)

pub returns : goal.returns
returns g c =
    let orders = g.S.OrderBook.orders c.args.book.now in
    let copied = g.T.OrderBook.orders c.loop-next.copy in
    copy_ended orders (g.met.S.OrderBook.is_book c.args.book.now) c.args.locate copied
    (subst (λ next. CopiedSoFar orders c.args.locate (option_map (λ (p : Placed). p.order.now) next) copied) c.in_default.is c.loop-next.invariant)
