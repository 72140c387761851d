use Rattle.std.proofs.Common.{Ok, Err, ap, sym, subst, ◌∙◌}
use Rattle.std.proofs.lemmas.Result.{err_from_is_err_and}
use Rattle.std.specs.List.{range_with_len}
use Rattle.itch_commands.specs.Outputs.{WritesText}
use Rattle.itch_depth.specs.Changes.{columns}
use Rattle.itch_depth.proofs.PartsInTurn.{all_written, is_place, one_fails, one_written, past_places, place_at}
use Rattle.itch_depth.proofs.changes.lines.write_names.Goals as goal

pub returns-in_err-write_text : goal.returns-in_err-write_text
returns-in_err-write_text g c =
    let p = err_from_is_err_and c.from_residual.result c.from_residual.ensures.1 in
    let contents = g.W.CountedWrite.contents in
    let failures = g.W.CountedWrite.failures in
    let loop = c.loop-place in
    rw (p.1, p.2) (one_fails contents failures (columns) (range_with_len 0 c.args.depth) c.args.out.now loop.place 0 (is_place c.args.depth loop.place c.loop-place-test.true) loop.out c.write_text.new.out
    c.in_err-write_text.field-0.0 loop.invariant
    (subst (λ text. WritesText contents failures text loop.out (Err c.in_err-write_text.field-0.0) c.write_text.new.out) (c.as_bytes.ensures.bytes ∙ c.columns.ensures ∙ ap (columns) (sym (place_at c.args.depth loop.place c.loop-place-test.true))) c.in_err-write_text.ensures))

pub loop-place-preserved : goal.loop-place-preserved
loop-place-preserved g c =
    let contents = g.W.CountedWrite.contents in
    let failures = g.W.CountedWrite.failures in
    let loop = c.loop-place in
    one_written contents failures (columns) (range_with_len 0 c.args.depth) c.args.out.now loop.place 0 (is_place c.args.depth loop.place c.loop-place-test.true) loop.out c.write_text.new.out loop.invariant
    (subst (λ text. WritesText contents failures text loop.out (Ok tt) c.write_text.new.out) (c.as_bytes.ensures.bytes ∙ c.columns.ensures ∙ ap (columns) (sym (place_at c.args.depth loop.place c.loop-place-test.true))) c.in_ok-write_text.ensures)

pub returns : goal.returns
returns g c =
    all_written g.W.CountedWrite.contents g.W.CountedWrite.failures (columns) (range_with_len 0 c.args.depth) c.args.out.now c.loop-place.place c.loop-place.out
    (past_places c.args.depth c.loop-place.place c.loop-place-test.false) c.loop-place.invariant
