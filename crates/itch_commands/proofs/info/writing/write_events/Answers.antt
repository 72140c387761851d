use Rattle.std.proofs.Common.{◌+◌, Ok, Err, drop, subst, ◌∙◌, arith}
use Rattle.std.proofs.lemmas.Result.{err_from_is_err_and}
use Rattle.itch_commands.specs.Outputs.{WritesText}
use Rattle.itch_commands.proofs.InfoTexts.{EventsSoFar, drop_at, events_fail, events_more}
use Rattle.itch_commands.proofs.info.writing.write_events.Goals as goal

pub loop-event-preserved : goal.loop-event-preserved
loop-event-preserved g c =
    let contents = g.W.CountedWrite.contents in
    let failures = g.W.CountedWrite.failures in
    let form = c.args.form in
    let events = c.args.events.now in
    let loop = c.loop-event in
    let so_far = subst (λ rest. EventsSoFar contents failures form events loop.is_first rest c.args.out.now loop.out) (drop_at events loop.event-index _ c.loop-event-test.true) loop.invariant in
    events_more contents failures form events loop.is_first _ (drop (loop.event-index + 1) events) c.args.out.now loop.out so_far c.write_text.new.out
    (subst (λ text. WritesText contents failures text loop.out (Ok tt) c.write_text.new.out) (c.as_bytes.ensures.bytes ∙ c.event_text.ensures) c.in_ok-write_text.ensures)

pub returns-in_err-write_text : goal.returns-in_err-write_text
returns-in_err-write_text g c =
    let p = err_from_is_err_and c.from_residual.result c.from_residual.ensures.1 in
    let contents = g.W.CountedWrite.contents in
    let failures = g.W.CountedWrite.failures in
    let form = c.args.form in
    let events = c.args.events.now in
    let loop = c.loop-event in
    let so_far = subst (λ rest. EventsSoFar contents failures form events loop.is_first rest c.args.out.now loop.out) (drop_at events loop.event-index _ c.loop-event-test.true) loop.invariant in
    rw (p.1, p.2) (events_fail contents failures form events loop.is_first _ (drop (loop.event-index + 1) events) c.args.out.now loop.out so_far c.write_text.new.out c.in_err-write_text.field-0.0
    (subst (λ text. WritesText contents failures text loop.out (Err c.in_err-write_text.field-0.0) c.write_text.new.out) (c.as_bytes.ensures.bytes ∙ c.event_text.ensures) c.in_err-write_text.ensures))
