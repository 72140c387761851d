use Rattle.std.proofs.Common.{[], sym, subst, ◌∙◌}
use Rattle.std.proofs.lemmas.Result.{err_from_is_err_and}
use Rattle.itch_commands.proofs.RecordedLines.{Recorded, on_ok, recorded_first, recorded_on, recorded_fails, recorded_passes, recorded_ends}
use Rattle.itch_commands.proofs.show.snapshot_file.write_lines.Goals as goal

pub loop-message-init : goal.loop-message-init
loop-message-init g c =
    subst (λ left. Recorded g.W.CountedWrite.contents g.W.CountedWrite.failures c.args.form c.args.choice.now c.args.market.now c.args.next c.args.out.now [] left 1 c.args.choice.now c.args.out.now) (sym (c.into_iter-message-iterator.ensures.into_iter_gives ∙ c.new-message-items.ensures))
    (recorded_first g.W.CountedWrite.contents g.W.CountedWrite.failures c.args.form c.args.choice.now c.args.market.now c.args.next c.args.out.now)

pub loop-message-preserved : goal.loop-message-preserved
loop-message-preserved g c =
    recorded_on g.W.CountedWrite.contents g.W.CountedWrite.failures c.args.form c.args.choice.now _ c.args.next _ _ _ _ _ _ _ c.loop-message.invariant _ _ _ c.in-Some.ensures.steps c.in_ok-write_chosen.ensures.line c.in_ok-write_chosen.ensures.passed

pub returns-in_err-write_chosen-clause-lines : goal.returns-in_err-write_chosen-clause-lines
returns-in_err-write_chosen-clause-lines g c =
    let p = err_from_is_err_and c.from_residual.result c.from_residual.ensures.1 in
    rw (p.1, p.2) (recorded_fails g.W.CountedWrite.contents g.W.CountedWrite.failures c.args.form c.args.choice.now _ c.args.next _ _ _ _ _ _ _ c.loop-message.invariant _ _ _ c.in-Some.ensures.steps c.in_err-write_chosen.ensures.line)

pub returns-clause-passed : goal.returns-clause-passed
returns-clause-passed g c =
    on_ok _ c.write_chosen-2.result (recorded_passes g.W.CountedWrite.contents g.W.CountedWrite.failures c.args.form c.args.choice.now _ c.args.next _ _ _ _ _ _ c.loop-message.out c.loop-message.invariant _ c.in-None.ensures.steps.0 c.write_chosen-2.ensures.passed)

pub returns-clause-lines : goal.returns-clause-lines
returns-clause-lines g c =
    recorded_ends g.W.CountedWrite.contents g.W.CountedWrite.failures c.args.form c.args.choice.now _ c.args.next _ _ _ _ _ _ _ c.loop-message.invariant _ c.in-None.ensures.steps.0 c.write_chosen-2.ensures.line
