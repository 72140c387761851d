use Rattle.std.proofs.Common.{◌≡◌, ◌++◌, ◌∷◌, [], Some, sym, subst, ◌∙◌, rules}
use Rattle.itch_book.proofs.QueuePrices.{one_fewer}
use Rattle.itchsnap_c.specs.Listings.{level_row}
use Rattle.itchsnap_c.proofs.ListedSoFar.{LevelsSoFar, levels_begun, levels_more, levels_end}
use Rattle.itchsnap_c.proofs.listings.levels_of.Goals as goal

pub loop-price-init : goal.loop-price-init
loop-price-init g c = rw c.new-items.ensures.items (levels_begun (g.B.OrderBook.orders c.args.book.now) c.args.locate c.args.side)

pub loop-price-smaller : goal.loop-price-smaller
loop-price-smaller g c =
    one_fewer (g.B.OrderBook.orders c.args.book.now) c.args.locate c.args.side c.loop-price.last c.loop-price.invariant.done c.in-Some.price (g.met.B.OrderBook.is_book c.args.book.now)
    c.loop-price.invariant.so_far (sym c.in-Some.ensures)

pub loop-price-preserved : goal.loop-price-preserved
loop-price-preserved g c =
    let orders = g.B.OrderBook.orders c.args.book.now in
    let pushed : c.push.new.self.items ≡ c.loop-price.items.items ++ level_row c.in-Some.price c.level_total-total.result ∷ [] = search rules in
    subst (LevelsSoFar orders c.args.locate c.args.side (Some c.in-Some.price)) (sym pushed)
    (levels_more orders c.args.locate c.args.side c.loop-price.last c.in-Some.price c.level_total-total.result c.loop-price.items.items (g.met.B.OrderBook.is_book c.args.book.now)
    c.loop-price.invariant (sym c.in-Some.ensures) c.level_total-total.ensures)

pub returns : goal.returns
returns g c =
    levels_end (g.B.OrderBook.orders c.args.book.now) c.args.locate c.args.side c.loop-price.last c.loop-price.items.items (g.met.B.OrderBook.is_book c.args.book.now)
    c.loop-price.invariant (sym c.next_price.ensures ∙ c.in_default.is)
