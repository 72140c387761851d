use Rattle.std.proofs.Common.{Ok, Err, sym, ap, subst, ◌∙◌}
use Rattle.std.proofs.lemmas.Result.{err_from_is_err_and}
use Rattle.itch_depth.specs.Timed.{timed, timed_row}
use Rattle.itch_commands.specs.Outputs.{WritesText}
use Rattle.itch_book.proofs.QueuePrices.{one_fewer}
use Rattle.itch_commands.proofs.SideLines.{is_next, side_begun, side_more, side_fails, side_ends}
use Rattle.itch_depth.proofs.timed.write_timed_side.Goals as goal

pub loop-price-init : goal.loop-price-init
loop-price-init g c = side_begun g.W.CountedWrite.contents g.W.CountedWrite.failures (timed_row c.args.rows.now.form c.args.time c.args.rows.now.locate c.args.rows.now.stock.now) (g.B.OrderBook.orders c.args.book.now) c.args.rows.now.locate c.args.depth c.args.side c.args.out.now

pub loop-price-smaller : goal.loop-price-smaller
loop-price-smaller g c =
    one_fewer (g.B.OrderBook.orders c.args.book.now) c.args.rows.now.locate c.args.side c.loop-price.last c.loop-price.invariant.done c.in-Some.price (g.met.B.OrderBook.is_book c.args.book.now)
    c.loop-price.invariant.so_far (is_next c.loop-price.left _ c.in-Some.price (sym c.in-Some.ensures))

pub loop-price-preserved : goal.loop-price-preserved
loop-price-preserved g c =
    side_more g.W.CountedWrite.contents g.W.CountedWrite.failures (timed_row c.args.rows.now.form c.args.time c.args.rows.now.locate c.args.rows.now.stock.now) (g.B.OrderBook.orders c.args.book.now) c.args.rows.now.locate c.args.depth c.args.side c.loop-price.last c.loop-price.left c.in-Some.price
    c.level_total-shares.result c.args.out.now c.loop-price.out c.write_timed.new.out (g.met.B.OrderBook.is_book c.args.book.now) c.loop-price.invariant (sym c.in-Some.ensures)
    c.level_total-shares.ensures c.one_fewer-left.result c.one_fewer-left.ensures
    (subst (λ text. WritesText g.W.CountedWrite.contents g.W.CountedWrite.failures text c.loop-price.out (Ok tt) c.write_timed.new.out) (ap (timed c.args.rows.now.form c.args.time) c.row.ensures)
    c.in_ok-write_timed.ensures)

pub returns-in_err-write_timed : goal.returns-in_err-write_timed
returns-in_err-write_timed g c =
    let p = err_from_is_err_and c.from_residual.result c.from_residual.ensures.1 in
    rw (p.1, p.2) (side_fails g.W.CountedWrite.contents g.W.CountedWrite.failures (timed_row c.args.rows.now.form c.args.time c.args.rows.now.locate c.args.rows.now.stock.now) (g.B.OrderBook.orders c.args.book.now) c.args.rows.now.locate c.args.depth c.args.side c.loop-price.last c.loop-price.left c.in-Some.price
    c.level_total-shares.result c.args.out.now c.loop-price.out c.write_timed.new.out (g.met.B.OrderBook.is_book c.args.book.now) c.loop-price.invariant (sym c.in-Some.ensures)
    c.level_total-shares.ensures c.in_err-write_timed.field-0.0
    (subst (λ text. WritesText g.W.CountedWrite.contents g.W.CountedWrite.failures text c.loop-price.out (Err c.in_err-write_timed.field-0.0) c.write_timed.new.out)
    (ap (timed c.args.rows.now.form c.args.time) c.row.ensures) c.in_err-write_timed.ensures))

pub returns : goal.returns
returns g c =
    side_ends g.W.CountedWrite.contents g.W.CountedWrite.failures (timed_row c.args.rows.now.form c.args.time c.args.rows.now.locate c.args.rows.now.stock.now) (g.B.OrderBook.orders c.args.book.now) c.args.rows.now.locate c.args.depth c.args.side c.loop-price.last c.loop-price.left c.args.out.now c.loop-price.out
    (g.met.B.OrderBook.is_book c.args.book.now) c.loop-price.invariant (sym c.next_wanted.ensures ∙ c.in_default.is)
