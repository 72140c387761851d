use Rattle.std.proofs.Common.{◌≡◌, ◌++◌, ◌∷◌, [], option_map, sym, subst, ap, rules}
use Rattle.itch_book.specs.declared.order.Placed.{Placed}
use Rattle.itchsnap_c.specs.Listings.{order_row}
use Rattle.itchsnap_c.proofs.ListedSoFar.{OrdersSoFar, orders_begun, orders_more, orders_fewer, orders_end}
use Rattle.itchsnap_c.proofs.listings.orders_of.Goals as goal

pub loop-next-init : goal.loop-next-init
loop-next-init g c =
    let orders = g.B.OrderBook.orders c.args.book.now in
    rw c.new-items.ensures.items (subst (λ next. OrdersSoFar orders c.args.locate next []) (sym c.first-next.ensures)
    (orders_begun orders c.args.locate (g.met.B.OrderBook.is_book c.args.book.now)))

pub loop-next-smaller : goal.loop-next-smaller
loop-next-smaller g c =
    orders_fewer (g.B.OrderBook.orders c.args.book.now) c.args.locate _ _ c.in-Some.placed.order.now c.loop-next.items.items (g.met.B.OrderBook.is_book c.args.book.now) c.loop-next.invariant
    (ap (option_map (λ (p : Placed). p.order.now)) c.in-Some.is) c.after-next.ensures

pub loop-next-preserved : goal.loop-next-preserved
loop-next-preserved g c =
    let pushed : c.push.new.self.items ≡ c.loop-next.items.items ++ order_row c.in-Some.placed.order.now ∷ [] = search rules in
    rw pushed
    (orders_more (g.B.OrderBook.orders c.args.book.now) c.args.locate _ _ c.in-Some.placed.order.now c.loop-next.items.items (g.met.B.OrderBook.is_book c.args.book.now) c.loop-next.invariant
    (ap (option_map (λ (p : Placed). p.order.now)) c.in-Some.is) c.after-next.ensures)

pub returns : goal.returns
returns g c =
    let orders = g.B.OrderBook.orders c.args.book.now in
    orders_end orders c.args.locate c.loop-next.items.items
    (subst (λ next. OrdersSoFar orders c.args.locate (option_map (λ (p : Placed). p.order.now) next) c.loop-next.items.items) c.in_default.is c.loop-next.invariant)
