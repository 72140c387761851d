use Rattle.std.proofs.Common.{Ok, Err, subst, ◌∙◌}
use Rattle.std.proofs.lemmas.Result.{err_from_is_err_and}
use Rattle.itch_commands.specs.Outputs.{WritesText}
use Rattle.itch_depth.specs.Changes.{next_level}
use Rattle.itch_depth.proofs.PartsInTurn.{all_written, one_fails, one_written}
use Rattle.itch_depth.proofs.changes.lines.write_rest.Goals as goal

pub returns-in_err-write_text : goal.returns-in_err-write_text
returns-in_err-write_text g c =
    let p = err_from_is_err_and c.from_residual.result c.from_residual.ensures.1 in
    let contents = g.W.CountedWrite.contents in
    let failures = g.W.CountedWrite.failures in
    let loop = c.loop-level in
    rw (p.1, p.2) (one_fails contents failures (next_level) c.args.levels.now c.args.out.now loop.level-index _ c.loop-level-test.true loop.out c.write_text.new.out c.in_err-write_text.field-0.0 loop.invariant
    (subst (λ text. WritesText contents failures text loop.out (Err c.in_err-write_text.field-0.0) c.write_text.new.out) (c.as_bytes.ensures.bytes ∙ c.next_level.ensures) c.in_err-write_text.ensures))

pub loop-level-preserved : goal.loop-level-preserved
loop-level-preserved g c =
    let contents = g.W.CountedWrite.contents in
    let failures = g.W.CountedWrite.failures in
    let loop = c.loop-level in
    one_written contents failures (next_level) c.args.levels.now c.args.out.now loop.level-index _ c.loop-level-test.true loop.out c.write_text.new.out loop.invariant
    (subst (λ text. WritesText contents failures text loop.out (Ok tt) c.write_text.new.out) (c.as_bytes.ensures.bytes ∙ c.next_level.ensures) c.in_ok-write_text.ensures)

pub returns : goal.returns
returns g c =
    all_written g.W.CountedWrite.contents g.W.CountedWrite.failures (next_level) c.args.levels.now c.args.out.now c.loop-level.level-index c.loop-level.out c.loop-level-test.false c.loop-level.invariant
