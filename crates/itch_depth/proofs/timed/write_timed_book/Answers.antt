use Rattle.std.proofs.Common.{◌++◌, List, ℕ, Err}
use Rattle.std.proofs.lemmas.Result.{err_from_is_err_and}
use Rattle.itch_book.specs.Orders.{queue}
use Rattle.itch_codec.specs.declared.orders.Side.TheVariants.{Buy, Sell}
use Rattle.itch_commands.specs.Books.{side_lines}
use Rattle.itch_depth.specs.Timed.{timed_row, timed_title}
use Rattle.itch_commands.proofs.JoinedTexts.{text_then, text_fails}
use Rattle.itch_depth.proofs.timed.write_timed_book.Goals as goal

pub returns-in_err-write_timed_side : goal.returns-in_err-write_timed_side
returns-in_err-write_timed_side g c =
    let p = err_from_is_err_and c.from_residual-in_err-write_timed_side.result c.from_residual-in_err-write_timed_side.ensures.1 in
    let contents = g.W.CountedWrite.contents in
    let failures = g.W.CountedWrite.failures in
    let rows = c.args.rows.now in
    let line = timed_row rows.form c.args.time rows.locate rows.stock.now in
    let first : List ℕ = timed_title rows.form c.args.time rows.locate rows.stock.now in
    let bids : List ℕ = side_lines line c.args.depth Buy (queue (g.B.OrderBook.orders c.args.book.now) rows.locate Buy) in
    let asks : List ℕ = side_lines line c.args.depth Sell (queue (g.B.OrderBook.orders c.args.book.now) rows.locate Sell) in
    rw (p.1, p.2) (text_then contents failures first (bids ++ asks) c.args.out.now c.write_timed_title.new.out c.write_timed_side.new.out (Err c.in_err-write_timed_side.field-0.0)
    c.in_ok-write_timed_title.ensures
    (text_fails contents failures bids asks c.write_timed_title.new.out c.write_timed_side.new.out c.in_err-write_timed_side.field-0.0 c.in_err-write_timed_side.ensures))

pub returns : goal.returns
returns g c =
    let contents = g.W.CountedWrite.contents in
    let failures = g.W.CountedWrite.failures in
    let rows = c.args.rows.now in
    let line = timed_row rows.form c.args.time rows.locate rows.stock.now in
    let first : List ℕ = timed_title rows.form c.args.time rows.locate rows.stock.now in
    let bids : List ℕ = side_lines line c.args.depth Buy (queue (g.B.OrderBook.orders c.args.book.now) rows.locate Buy) in
    let asks : List ℕ = side_lines line c.args.depth Sell (queue (g.B.OrderBook.orders c.args.book.now) rows.locate Sell) in
    text_then contents failures first (bids ++ asks) c.args.out.now c.write_timed_title.new.out c.write_timed_side-2.new.out c.write_timed_side-2.result
    c.in_ok-write_timed_title.ensures
    (text_then contents failures bids asks c.write_timed_title.new.out c.write_timed_side.new.out c.write_timed_side-2.new.out c.write_timed_side-2.result
    c.in_ok-write_timed_side.ensures c.write_timed_side-2.ensures)
