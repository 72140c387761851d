use Rattle.std.proofs.Common.{◌≡◌, ◌+◌, ◌-◌, ◌<◌, Ok, Err, subst, ap, ◌∙◌, arith}
use Rattle.std.specs.Prelude.{slice_index}
use Rattle.std.proofs.lemmas.Result.{err_from_is_err_and}
use Rattle.itch_commands.specs.Infos.{type_text}
use Rattle.itch_commands.specs.Outputs.{WritesText}
use Rattle.itch_commands.proofs.InfoTexts.{types_begun, types_end, types_fail, types_more, types_skip}
use Rattle.itch_commands.proofs.info.writing.write_types.Goals as goal
use Rattle.itch_commands.proofs.info.writing.write_types.Goals.{then-count-gt0+in_ok-write_text, else-count-gt0}

pub loop-kind-init : goal.loop-kind-init
loop-kind-init g c = types_begun g.W.CountedWrite.contents g.W.CountedWrite.failures c.args.form (slice_index c.args.counts.now.counts) c.args.out.now

pub loop-kind-preserved : goal.loop-kind-preserved
loop-kind-preserved g c =
    let contents = g.W.CountedWrite.contents in
    let failures = g.W.CountedWrite.failures in
    let form = c.args.form in
    let counts = slice_index c.args.counts.now.counts in
    let loop = c.loop-kind in
    elim c.if-count-gt0.branch [
      | then-count-gt0+in_ok-write_text w ↦
          rw (w.out-is, w.is_first-is) (types_more contents failures form counts loop.is_first loop.kind c.args.out.now loop.out loop.invariant c.loop-kind-test.true w.write_text.new.out
          (subst (λ n. 0 < n) c.of-count.ensures w.if-count-gt0.true)
          (subst (λ text. WritesText contents failures text loop.out (Ok tt) w.write_text.new.out) (w.as_bytes.ensures.bytes ∙ w.type_text.ensures ∙ ap (type_text form loop.is_first loop.kind) c.of-count.ensures) w.in_ok-write_text.ensures))
      | else-count-gt0 w ↦
          rw (w.out-is, w.is_first-is) (types_skip contents failures form counts loop.is_first loop.kind c.args.out.now loop.out loop.invariant c.loop-kind-test.true
          (omega (arith, w.if-count-gt0.false, c.of-count.ensures)))
    ]

pub returns-in_err-write_text : goal.returns-in_err-write_text
returns-in_err-write_text g c =
    let p = err_from_is_err_and c.from_residual.result c.from_residual.ensures.1 in
    let contents = g.W.CountedWrite.contents in
    let failures = g.W.CountedWrite.failures in
    let form = c.args.form in
    let counts = slice_index c.args.counts.now.counts in
    let loop = c.loop-kind in
    rw (p.1, p.2) (types_fail contents failures form counts loop.is_first loop.kind c.args.out.now loop.out loop.invariant c.loop-kind-test.true c.write_text.new.out c.in_err-write_text.field-0.0 (255 - loop.kind)
    (omega (arith, c.loop-kind-test.true)) (subst (λ n. 0 < n) c.of-count.ensures c.if-count-gt0.true)
    (subst (λ text. WritesText contents failures text loop.out (Err c.in_err-write_text.field-0.0) c.write_text.new.out) (c.as_bytes.ensures.bytes ∙ c.type_text.ensures ∙ ap (type_text form loop.is_first loop.kind) c.of-count.ensures)
    c.in_err-write_text.ensures))

pub returns : goal.returns
returns g c =
    types_end g.W.CountedWrite.contents g.W.CountedWrite.failures c.args.form (slice_index c.args.counts.now.counts) c.loop-kind.is_first c.loop-kind.kind c.args.out.now c.loop-kind.out c.loop-kind.invariant
    (omega (arith, c.loop-kind-test.false, c.loop-kind.auto.kind-end))
