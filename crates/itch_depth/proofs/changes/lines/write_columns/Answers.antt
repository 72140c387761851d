use Rattle.std.proofs.Common.{Err, ℕ, List, [], ◌∷◌, ◌++◌, codes, flat_map}
use Rattle.std.proofs.lemmas.Result.{err_from_is_err_and}
use Rattle.itch_commands.proofs.JoinedTexts.{text_fails, text_then}
use Rattle.std.specs.List.{range_with_len}
use Rattle.itch_depth.specs.Changes.{columns}
use Rattle.itch_depth.proofs.changes.lines.write_columns.Goals as goal

pub returns-in_err-write_text : goal.returns-in_err-write_text
returns-in_err-write_text g c =
    let p = err_from_is_err_and c.from_residual.result c.from_residual.ensures.1 in
    let contents = g.W.CountedWrite.contents in
    let failures = g.W.CountedWrite.failures in
    let first : List ℕ = codes "message,time" in
    let names : List ℕ = flat_map columns (range_with_len 0 c.args.depth) in
    let end : List ℕ = 10 ∷ [] in
    rw (p.1, p.2) (text_fails contents failures first (names ++ end) c.args.out.now c.write_text.new.out c.in_err-write_text.field-0.0
    c.in_err-write_text.ensures)

pub returns-in_err-write_names : goal.returns-in_err-write_names
returns-in_err-write_names g c =
    let p = err_from_is_err_and c.from_residual-in_err-write_names.result c.from_residual-in_err-write_names.ensures.1 in
    let contents = g.W.CountedWrite.contents in
    let failures = g.W.CountedWrite.failures in
    let first : List ℕ = codes "message,time" in
    let names : List ℕ = flat_map columns (range_with_len 0 c.args.depth) in
    let end : List ℕ = 10 ∷ [] in
    rw (p.1, p.2) (text_then contents failures first (names ++ end) c.args.out.now c.write_text.new.out c.write_names.new.out (Err c.in_err-write_names.field-0.0)
    c.in_ok-write_text.ensures
    (text_fails contents failures names end c.write_text.new.out c.write_names.new.out c.in_err-write_names.field-0.0
    c.in_err-write_names.ensures))

pub returns : goal.returns
returns g c =
    let contents = g.W.CountedWrite.contents in
    let failures = g.W.CountedWrite.failures in
    let first : List ℕ = codes "message,time" in
    let names : List ℕ = flat_map columns (range_with_len 0 c.args.depth) in
    let end : List ℕ = 10 ∷ [] in
    (text_then contents failures first (names ++ end) c.args.out.now c.write_text.new.out c.write_text-2.new.out c.write_text-2.result
    c.in_ok-write_text.ensures
    (text_then contents failures names end c.write_text.new.out c.write_names.new.out c.write_text-2.new.out c.write_text-2.result
    c.in_ok-write_names.ensures
    c.write_text-2.ensures))
