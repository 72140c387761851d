use Rattle.std.proofs.Common.{Ok, Err, ℕ, List, ap, ◌++◌, subst, ◌∙◌}
use Rattle.std.proofs.lemmas.Result.{err_from_is_err_and}
use Rattle.itch_commands.specs.Outputs.{WritesText}
use Rattle.itch_commands.proofs.JoinedTexts.{text_fails, text_then}
use Rattle.itch_codec.specs.declared.orders.Side.TheVariants.{Buy, Sell}
use Rattle.itch_commands.specs.Forms.{title_line}
use Rattle.itch_commands.specs.declared.form.BookForm.TheVariants as book
use Rattle.itch_depth.specs.Changes.{front, level_lines}
use Rattle.itch_depth.proofs.changes.lines.write_lines.Goals as goal

pub returns-in_err-write_text : goal.returns-in_err-write_text
returns-in_err-write_text g c =
    let p = err_from_is_err_and c.from_residual.result c.from_residual.ensures.1 in
    let contents = g.W.CountedWrite.contents in
    let failures = g.W.CountedWrite.failures in
    let change = c.args.change.now in
    let ahead : List ℕ = front book.Text change.number change.time in
    let title : List ℕ = title_line change.locate change.stock.now in
    let bids : List ℕ = level_lines ahead Buy change.bids.now in
    let asks : List ℕ = level_lines ahead Sell change.asks.now in
    rw (p.1, p.2) (text_fails contents failures ahead (title ++ (bids ++ asks)) c.args.out.now c.write_text.new.out c.in_err-write_text.field-0.0
    (subst (λ text. WritesText contents failures text c.args.out.now (Err c.in_err-write_text.field-0.0) c.write_text.new.out) (c.as_bytes.ensures.bytes ∙ c.front-front.ensures) c.in_err-write_text.ensures))

pub returns-in_err-write_text-2 : goal.returns-in_err-write_text-2
returns-in_err-write_text-2 g c =
    let p = err_from_is_err_and c.from_residual-in_err-write_text-2.result c.from_residual-in_err-write_text-2.ensures.1 in
    let contents = g.W.CountedWrite.contents in
    let failures = g.W.CountedWrite.failures in
    let change = c.args.change.now in
    let ahead : List ℕ = front book.Text change.number change.time in
    let title : List ℕ = title_line change.locate change.stock.now in
    let bids : List ℕ = level_lines ahead Buy change.bids.now in
    let asks : List ℕ = level_lines ahead Sell change.asks.now in
    rw (p.1, p.2) (text_then contents failures ahead (title ++ (bids ++ asks)) c.args.out.now c.write_text.new.out c.write_text-2.new.out (Err c.in_err-write_text-2.field-0.0)
    (subst (λ text. WritesText contents failures text c.args.out.now (Ok tt) c.write_text.new.out) (c.as_bytes.ensures.bytes ∙ c.front-front.ensures) c.in_ok-write_text.ensures)
    (text_fails contents failures title (bids ++ asks) c.write_text.new.out c.write_text-2.new.out c.in_err-write_text-2.field-0.0
    (subst (λ text. WritesText contents failures text c.write_text.new.out (Err c.in_err-write_text-2.field-0.0) c.write_text-2.new.out) (c.as_bytes-2.ensures.bytes ∙ c.title.ensures) c.in_err-write_text-2.ensures)))

pub returns-in_err-write_levels : goal.returns-in_err-write_levels
returns-in_err-write_levels g c =
    let p = err_from_is_err_and c.from_residual-in_err-write_levels.result c.from_residual-in_err-write_levels.ensures.1 in
    let contents = g.W.CountedWrite.contents in
    let failures = g.W.CountedWrite.failures in
    let change = c.args.change.now in
    let ahead : List ℕ = front book.Text change.number change.time in
    let title : List ℕ = title_line change.locate change.stock.now in
    let bids : List ℕ = level_lines ahead Buy change.bids.now in
    let asks : List ℕ = level_lines ahead Sell change.asks.now in
    rw (p.1, p.2) (text_then contents failures ahead (title ++ (bids ++ asks)) c.args.out.now c.write_text.new.out c.write_levels.new.out (Err c.in_err-write_levels.field-0.0)
    (subst (λ text. WritesText contents failures text c.args.out.now (Ok tt) c.write_text.new.out) (c.as_bytes.ensures.bytes ∙ c.front-front.ensures) c.in_ok-write_text.ensures)
    (text_then contents failures title (bids ++ asks) c.write_text.new.out c.write_text-2.new.out c.write_levels.new.out (Err c.in_err-write_levels.field-0.0)
    (subst (λ text. WritesText contents failures text c.write_text.new.out (Ok tt) c.write_text-2.new.out) (c.as_bytes-2.ensures.bytes ∙ c.title.ensures) c.in_ok-write_text-2.ensures)
    (text_fails contents failures bids asks c.write_text-2.new.out c.write_levels.new.out c.in_err-write_levels.field-0.0
    (subst (λ text. WritesText contents failures text c.write_text-2.new.out (Err c.in_err-write_levels.field-0.0) c.write_levels.new.out) (ap (λ x. level_lines x Buy change.bids.now) c.front-front.ensures) c.in_err-write_levels.ensures))))

pub returns : goal.returns
returns g c =
    let contents = g.W.CountedWrite.contents in
    let failures = g.W.CountedWrite.failures in
    let change = c.args.change.now in
    let ahead : List ℕ = front book.Text change.number change.time in
    let title : List ℕ = title_line change.locate change.stock.now in
    let bids : List ℕ = level_lines ahead Buy change.bids.now in
    let asks : List ℕ = level_lines ahead Sell change.asks.now in
    (text_then contents failures ahead (title ++ (bids ++ asks)) c.args.out.now c.write_text.new.out c.write_levels-2.new.out c.write_levels-2.result
    (subst (λ text. WritesText contents failures text c.args.out.now (Ok tt) c.write_text.new.out) (c.as_bytes.ensures.bytes ∙ c.front-front.ensures) c.in_ok-write_text.ensures)
    (text_then contents failures title (bids ++ asks) c.write_text.new.out c.write_text-2.new.out c.write_levels-2.new.out c.write_levels-2.result
    (subst (λ text. WritesText contents failures text c.write_text.new.out (Ok tt) c.write_text-2.new.out) (c.as_bytes-2.ensures.bytes ∙ c.title.ensures) c.in_ok-write_text-2.ensures)
    (text_then contents failures bids asks c.write_text-2.new.out c.write_levels.new.out c.write_levels-2.new.out c.write_levels-2.result
    (subst (λ text. WritesText contents failures text c.write_text-2.new.out (Ok tt) c.write_levels.new.out) (ap (λ x. level_lines x Buy change.bids.now) c.front-front.ensures) c.in_ok-write_levels.ensures)
    (subst (λ text. WritesText contents failures text c.write_levels.new.out c.write_levels-2.result c.write_levels-2.new.out) (ap (λ x. level_lines x Sell change.asks.now) c.front-front.ensures) c.write_levels-2.ensures))))
