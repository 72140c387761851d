use Rattle.std.proofs.Common.{Ok, Err, ℕ, List, [], ◌∷◌, ◌++◌, flat_map, subst, ◌∙◌}
use Rattle.std.proofs.lemmas.Result.{err_from_is_err_and}
use Rattle.itch_commands.specs.Outputs.{WritesText}
use Rattle.itch_commands.proofs.JoinedTexts.{text_fails, text_then}
use Rattle.std.specs.List.{range_with_len}
use Rattle.itch_commands.specs.declared.form.BookForm.TheVariants as book
use Rattle.itch_depth.specs.Changes.{cells_at, front}
use Rattle.itch_depth.proofs.changes.lines.write_cells.Goals as goal

pub returns-in_err-write_text : goal.returns-in_err-write_text
returns-in_err-write_text g c =
    let p = err_from_is_err_and c.from_residual.result c.from_residual.ensures.1 in
    let contents = g.W.CountedWrite.contents in
    let failures = g.W.CountedWrite.failures in
    let change = c.args.change.now in
    let first : List ℕ = front book.Csv change.number change.time in
    let places : List ℕ = flat_map (cells_at change.asks.now change.bids.now) (range_with_len 0 c.args.depth) in
    let end : List ℕ = 10 ∷ [] in
    rw (p.1, p.2) (text_fails contents failures first (places ++ end) c.args.out.now c.write_text.new.out c.in_err-write_text.field-0.0
    (subst (λ text. WritesText contents failures text c.args.out.now (Err c.in_err-write_text.field-0.0) c.write_text.new.out) (c.as_bytes.ensures.bytes ∙ c.front-front.ensures) c.in_err-write_text.ensures))

pub returns-in_err-write_places : goal.returns-in_err-write_places
returns-in_err-write_places g c =
    let p = err_from_is_err_and c.from_residual-in_err-write_places.result c.from_residual-in_err-write_places.ensures.1 in
    let contents = g.W.CountedWrite.contents in
    let failures = g.W.CountedWrite.failures in
    let change = c.args.change.now in
    let first : List ℕ = front book.Csv change.number change.time in
    let places : List ℕ = flat_map (cells_at change.asks.now change.bids.now) (range_with_len 0 c.args.depth) in
    let end : List ℕ = 10 ∷ [] in
    rw (p.1, p.2) (text_then contents failures first (places ++ end) c.args.out.now c.write_text.new.out c.write_places.new.out (Err c.in_err-write_places.field-0.0)
    (subst (λ text. WritesText contents failures text c.args.out.now (Ok tt) c.write_text.new.out) (c.as_bytes.ensures.bytes ∙ c.front-front.ensures) c.in_ok-write_text.ensures)
    (text_fails contents failures places end c.write_text.new.out c.write_places.new.out c.in_err-write_places.field-0.0
    c.in_err-write_places.ensures))

pub returns : goal.returns
returns g c =
    let contents = g.W.CountedWrite.contents in
    let failures = g.W.CountedWrite.failures in
    let change = c.args.change.now in
    let first : List ℕ = front book.Csv change.number change.time in
    let places : List ℕ = flat_map (cells_at change.asks.now change.bids.now) (range_with_len 0 c.args.depth) in
    let end : List ℕ = 10 ∷ [] in
    (text_then contents failures first (places ++ end) c.args.out.now c.write_text.new.out c.write_text-2.new.out c.write_text-2.result
    (subst (λ text. WritesText contents failures text c.args.out.now (Ok tt) c.write_text.new.out) (c.as_bytes.ensures.bytes ∙ c.front-front.ensures) c.in_ok-write_text.ensures)
    (text_then contents failures places end c.write_text.new.out c.write_places.new.out c.write_text-2.new.out c.write_text-2.result
    c.in_ok-write_places.ensures
    c.write_text-2.ensures))
