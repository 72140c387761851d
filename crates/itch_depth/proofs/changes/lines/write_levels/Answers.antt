use Rattle.std.proofs.Common.{◌++◌}
use Rattle.std.proofs.lemmas.Result.{err_from_is_err_and}
use Rattle.itch_commands.specs.Forms.{level_line}
use Rattle.itch_depth.specs.declared.changes.best.DepthLevel.{DepthLevel}
use Rattle.itch_depth.proofs.PartsInTurn.{all_written, one_fails, one_written}
use Rattle.itch_depth.proofs.changes.lines.write_levels.Goals as goal

pub returns-in_err-write_level : goal.returns-in_err-write_level
returns-in_err-write_level g c =
    let p = err_from_is_err_and c.from_residual.result c.from_residual.ensures.1 in
    let contents = g.W.CountedWrite.contents in
    let failures = g.W.CountedWrite.failures in
    let loop = c.loop-level in
    rw (p.1, p.2) (one_fails contents failures (λ (x : DepthLevel). c.args.front.now ++ level_line c.args.side x.price x.shares x.orders) c.args.levels.now c.args.out.now loop.level-index _ c.loop-level-test.true loop.out c.write_level.new.out c.in_err-write_level.field-0.0 loop.invariant
    (c.in_err-write_level.ensures))

pub loop-level-preserved : goal.loop-level-preserved
loop-level-preserved g c =
    let contents = g.W.CountedWrite.contents in
    let failures = g.W.CountedWrite.failures in
    let loop = c.loop-level in
    one_written contents failures (λ (x : DepthLevel). c.args.front.now ++ level_line c.args.side x.price x.shares x.orders) c.args.levels.now c.args.out.now loop.level-index _ c.loop-level-test.true loop.out c.write_level.new.out loop.invariant
    (c.in_ok-write_level.ensures)

pub returns : goal.returns
returns g c =
    all_written g.W.CountedWrite.contents g.W.CountedWrite.failures (λ (x : DepthLevel). c.args.front.now ++ level_line c.args.side x.price x.shares x.orders) c.args.levels.now c.args.out.now c.loop-level.level-index c.loop-level.out c.loop-level-test.false c.loop-level.invariant
