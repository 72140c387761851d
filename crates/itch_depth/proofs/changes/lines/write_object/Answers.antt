use Rattle.std.proofs.Common.{Ok, Err, ℕ, List, ◌++◌, codes, subst, ◌∙◌}
use Rattle.std.proofs.lemmas.Result.{err_from_is_err_and}
use Rattle.itch_commands.specs.Outputs.{WritesText}
use Rattle.itch_commands.proofs.JoinedTexts.{text_fails, text_then}
use Rattle.itch_commands.specs.declared.form.BookForm.TheVariants as book
use Rattle.itch_depth.specs.Changes.{front, json_levels, members}
use Rattle.itch_depth.proofs.changes.lines.write_object.Goals as goal

pub returns-in_err-write_text : goal.returns-in_err-write_text
returns-in_err-write_text g c =
    let p = err_from_is_err_and c.from_residual.result c.from_residual.ensures.1 in
    let contents = g.W.CountedWrite.contents in
    let failures = g.W.CountedWrite.failures in
    let change = c.args.change.now in
    let first : List ℕ = front book.Json change.number change.time in
    let names : List ℕ = members change.locate change.stock.now in
    let bids : List ℕ = json_levels change.bids.now in
    let middle : List ℕ = codes "],\"asks\":[" in
    let asks : List ℕ = json_levels change.asks.now in
    let end : List ℕ = codes "]}\n" in
    rw (p.1, p.2) (text_fails contents failures first (names ++ (bids ++ (middle ++ (asks ++ end)))) c.args.out.now c.write_text.new.out c.in_err-write_text.field-0.0
    (subst (λ text. WritesText contents failures text c.args.out.now (Err c.in_err-write_text.field-0.0) c.write_text.new.out) (c.as_bytes.ensures.bytes ∙ c.front-front.ensures) c.in_err-write_text.ensures))

pub returns-in_err-write_text-2 : goal.returns-in_err-write_text-2
returns-in_err-write_text-2 g c =
    let p = err_from_is_err_and c.from_residual-in_err-write_text-2.result c.from_residual-in_err-write_text-2.ensures.1 in
    let contents = g.W.CountedWrite.contents in
    let failures = g.W.CountedWrite.failures in
    let change = c.args.change.now in
    let first : List ℕ = front book.Json change.number change.time in
    let names : List ℕ = members change.locate change.stock.now in
    let bids : List ℕ = json_levels change.bids.now in
    let middle : List ℕ = codes "],\"asks\":[" in
    let asks : List ℕ = json_levels change.asks.now in
    let end : List ℕ = codes "]}\n" in
    rw (p.1, p.2) (text_then contents failures first (names ++ (bids ++ (middle ++ (asks ++ end)))) c.args.out.now c.write_text.new.out c.write_text-2.new.out (Err c.in_err-write_text-2.field-0.0)
    (subst (λ text. WritesText contents failures text c.args.out.now (Ok tt) c.write_text.new.out) (c.as_bytes.ensures.bytes ∙ c.front-front.ensures) c.in_ok-write_text.ensures)
    (text_fails contents failures names (bids ++ (middle ++ (asks ++ end))) c.write_text.new.out c.write_text-2.new.out c.in_err-write_text-2.field-0.0
    (subst (λ text. WritesText contents failures text c.write_text.new.out (Err c.in_err-write_text-2.field-0.0) c.write_text-2.new.out) (c.as_bytes-2.ensures.bytes ∙ c.members.ensures) c.in_err-write_text-2.ensures)))

pub returns-in_err-write_array : goal.returns-in_err-write_array
returns-in_err-write_array g c =
    let p = err_from_is_err_and c.from_residual-in_err-write_array.result c.from_residual-in_err-write_array.ensures.1 in
    let contents = g.W.CountedWrite.contents in
    let failures = g.W.CountedWrite.failures in
    let change = c.args.change.now in
    let first : List ℕ = front book.Json change.number change.time in
    let names : List ℕ = members change.locate change.stock.now in
    let bids : List ℕ = json_levels change.bids.now in
    let middle : List ℕ = codes "],\"asks\":[" in
    let asks : List ℕ = json_levels change.asks.now in
    let end : List ℕ = codes "]}\n" in
    rw (p.1, p.2) (text_then contents failures first (names ++ (bids ++ (middle ++ (asks ++ end)))) c.args.out.now c.write_text.new.out c.write_array.new.out (Err c.in_err-write_array.field-0.0)
    (subst (λ text. WritesText contents failures text c.args.out.now (Ok tt) c.write_text.new.out) (c.as_bytes.ensures.bytes ∙ c.front-front.ensures) c.in_ok-write_text.ensures)
    (text_then contents failures names (bids ++ (middle ++ (asks ++ end))) c.write_text.new.out c.write_text-2.new.out c.write_array.new.out (Err c.in_err-write_array.field-0.0)
    (subst (λ text. WritesText contents failures text c.write_text.new.out (Ok tt) c.write_text-2.new.out) (c.as_bytes-2.ensures.bytes ∙ c.members.ensures) c.in_ok-write_text-2.ensures)
    (text_fails contents failures bids (middle ++ (asks ++ end)) c.write_text-2.new.out c.write_array.new.out c.in_err-write_array.field-0.0
    c.in_err-write_array.ensures)))

pub returns-in_err-write_text-3 : goal.returns-in_err-write_text-3
returns-in_err-write_text-3 g c =
    let p = err_from_is_err_and c.from_residual-in_err-write_text-3.result c.from_residual-in_err-write_text-3.ensures.1 in
    let contents = g.W.CountedWrite.contents in
    let failures = g.W.CountedWrite.failures in
    let change = c.args.change.now in
    let first : List ℕ = front book.Json change.number change.time in
    let names : List ℕ = members change.locate change.stock.now in
    let bids : List ℕ = json_levels change.bids.now in
    let middle : List ℕ = codes "],\"asks\":[" in
    let asks : List ℕ = json_levels change.asks.now in
    let end : List ℕ = codes "]}\n" in
    rw (p.1, p.2) (text_then contents failures first (names ++ (bids ++ (middle ++ (asks ++ end)))) c.args.out.now c.write_text.new.out c.write_text-3.new.out (Err c.in_err-write_text-3.field-0.0)
    (subst (λ text. WritesText contents failures text c.args.out.now (Ok tt) c.write_text.new.out) (c.as_bytes.ensures.bytes ∙ c.front-front.ensures) c.in_ok-write_text.ensures)
    (text_then contents failures names (bids ++ (middle ++ (asks ++ end))) c.write_text.new.out c.write_text-2.new.out c.write_text-3.new.out (Err c.in_err-write_text-3.field-0.0)
    (subst (λ text. WritesText contents failures text c.write_text.new.out (Ok tt) c.write_text-2.new.out) (c.as_bytes-2.ensures.bytes ∙ c.members.ensures) c.in_ok-write_text-2.ensures)
    (text_then contents failures bids (middle ++ (asks ++ end)) c.write_text-2.new.out c.write_array.new.out c.write_text-3.new.out (Err c.in_err-write_text-3.field-0.0)
    c.in_ok-write_array.ensures
    (text_fails contents failures middle (asks ++ end) c.write_array.new.out c.write_text-3.new.out c.in_err-write_text-3.field-0.0
    c.in_err-write_text-3.ensures))))

pub returns-in_err-write_array-2 : goal.returns-in_err-write_array-2
returns-in_err-write_array-2 g c =
    let p = err_from_is_err_and c.from_residual-in_err-write_array-2.result c.from_residual-in_err-write_array-2.ensures.1 in
    let contents = g.W.CountedWrite.contents in
    let failures = g.W.CountedWrite.failures in
    let change = c.args.change.now in
    let first : List ℕ = front book.Json change.number change.time in
    let names : List ℕ = members change.locate change.stock.now in
    let bids : List ℕ = json_levels change.bids.now in
    let middle : List ℕ = codes "],\"asks\":[" in
    let asks : List ℕ = json_levels change.asks.now in
    let end : List ℕ = codes "]}\n" in
    rw (p.1, p.2) (text_then contents failures first (names ++ (bids ++ (middle ++ (asks ++ end)))) c.args.out.now c.write_text.new.out c.write_array-2.new.out (Err c.in_err-write_array-2.field-0.0)
    (subst (λ text. WritesText contents failures text c.args.out.now (Ok tt) c.write_text.new.out) (c.as_bytes.ensures.bytes ∙ c.front-front.ensures) c.in_ok-write_text.ensures)
    (text_then contents failures names (bids ++ (middle ++ (asks ++ end))) c.write_text.new.out c.write_text-2.new.out c.write_array-2.new.out (Err c.in_err-write_array-2.field-0.0)
    (subst (λ text. WritesText contents failures text c.write_text.new.out (Ok tt) c.write_text-2.new.out) (c.as_bytes-2.ensures.bytes ∙ c.members.ensures) c.in_ok-write_text-2.ensures)
    (text_then contents failures bids (middle ++ (asks ++ end)) c.write_text-2.new.out c.write_array.new.out c.write_array-2.new.out (Err c.in_err-write_array-2.field-0.0)
    c.in_ok-write_array.ensures
    (text_then contents failures middle (asks ++ end) c.write_array.new.out c.write_text-3.new.out c.write_array-2.new.out (Err c.in_err-write_array-2.field-0.0)
    c.in_ok-write_text-3.ensures
    (text_fails contents failures asks end c.write_text-3.new.out c.write_array-2.new.out c.in_err-write_array-2.field-0.0
    c.in_err-write_array-2.ensures)))))

pub returns : goal.returns
returns g c =
    let contents = g.W.CountedWrite.contents in
    let failures = g.W.CountedWrite.failures in
    let change = c.args.change.now in
    let first : List ℕ = front book.Json change.number change.time in
    let names : List ℕ = members change.locate change.stock.now in
    let bids : List ℕ = json_levels change.bids.now in
    let middle : List ℕ = codes "],\"asks\":[" in
    let asks : List ℕ = json_levels change.asks.now in
    let end : List ℕ = codes "]}\n" in
    (text_then contents failures first (names ++ (bids ++ (middle ++ (asks ++ end)))) c.args.out.now c.write_text.new.out c.write_text-4.new.out c.write_text-4.result
    (subst (λ text. WritesText contents failures text c.args.out.now (Ok tt) c.write_text.new.out) (c.as_bytes.ensures.bytes ∙ c.front-front.ensures) c.in_ok-write_text.ensures)
    (text_then contents failures names (bids ++ (middle ++ (asks ++ end))) c.write_text.new.out c.write_text-2.new.out c.write_text-4.new.out c.write_text-4.result
    (subst (λ text. WritesText contents failures text c.write_text.new.out (Ok tt) c.write_text-2.new.out) (c.as_bytes-2.ensures.bytes ∙ c.members.ensures) c.in_ok-write_text-2.ensures)
    (text_then contents failures bids (middle ++ (asks ++ end)) c.write_text-2.new.out c.write_array.new.out c.write_text-4.new.out c.write_text-4.result
    c.in_ok-write_array.ensures
    (text_then contents failures middle (asks ++ end) c.write_array.new.out c.write_text-3.new.out c.write_text-4.new.out c.write_text-4.result
    c.in_ok-write_text-3.ensures
    (text_then contents failures asks end c.write_text-3.new.out c.write_array-2.new.out c.write_text-4.new.out c.write_text-4.result
    c.in_ok-write_array-2.ensures
    c.write_text-4.ensures)))))
