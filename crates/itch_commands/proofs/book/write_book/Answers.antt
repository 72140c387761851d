use Rattle.std.proofs.Common.{◌++◌, List, ℕ, Ok, Err, subst, ◌∙◌}
use Rattle.std.proofs.lemmas.Result.{err_from_is_err_and}
use Rattle.itch_book.specs.Orders.{queue}
use Rattle.itch_codec.specs.declared.orders.Side.TheVariants.{Buy, Sell}
use Rattle.itch_commands.specs.Books.{side_lines}
use Rattle.itch_commands.specs.Forms.{row, title}
use Rattle.itch_commands.specs.Outputs.{WritesText}
use Rattle.itch_commands.proofs.JoinedTexts.{text_then, text_fails}
use Rattle.itch_commands.proofs.book.write_book.Goals as goal

pub returns-in_err-write_side : goal.returns-in_err-write_side
returns-in_err-write_side g c =
    let p = err_from_is_err_and c.from_residual-in_err-write_side.result c.from_residual-in_err-write_side.ensures.1 in
    let contents = g.W.CountedWrite.contents in
    let failures = g.W.CountedWrite.failures in
    let rows = c.args.rows.now in
    let line = row rows.form rows.locate rows.stock.now in
    let first : List ℕ = title rows.form rows.locate rows.stock.now in
    let bids : List ℕ = side_lines line c.args.depth Buy (queue (g.B.OrderBook.orders c.args.book.now) rows.locate Buy) in
    let asks : List ℕ = side_lines line c.args.depth Sell (queue (g.B.OrderBook.orders c.args.book.now) rows.locate Sell) in
    rw (p.1, p.2) (text_then contents failures first (bids ++ asks) c.args.out.now c.write_text.new.out c.write_side.new.out (Err c.in_err-write_side.field-0.0)
    (subst (λ text. WritesText contents failures text c.args.out.now (Ok tt) c.write_text.new.out) (c.as_bytes.ensures.bytes ∙ c.title.ensures) c.in_ok-write_text.ensures)
    (text_fails contents failures bids asks c.write_text.new.out c.write_side.new.out c.in_err-write_side.field-0.0 c.in_err-write_side.ensures))

pub returns : goal.returns
returns g c =
    let contents = g.W.CountedWrite.contents in
    let failures = g.W.CountedWrite.failures in
    let rows = c.args.rows.now in
    let line = row rows.form rows.locate rows.stock.now in
    let first : List ℕ = title rows.form rows.locate rows.stock.now in
    let bids : List ℕ = side_lines line c.args.depth Buy (queue (g.B.OrderBook.orders c.args.book.now) rows.locate Buy) in
    let asks : List ℕ = side_lines line c.args.depth Sell (queue (g.B.OrderBook.orders c.args.book.now) rows.locate Sell) in
    text_then contents failures first (bids ++ asks) c.args.out.now c.write_text.new.out c.write_side-2.new.out c.write_side-2.result
    (subst (λ text. WritesText contents failures text c.args.out.now (Ok tt) c.write_text.new.out) (c.as_bytes.ensures.bytes ∙ c.title.ensures) c.in_ok-write_text.ensures)
    (text_then contents failures bids asks c.write_text.new.out c.write_side.new.out c.write_side-2.new.out c.write_side-2.result
    c.in_ok-write_side.ensures c.write_side-2.ensures)
