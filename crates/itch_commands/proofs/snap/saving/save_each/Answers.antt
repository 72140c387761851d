use Rattle.std.proofs.Common.{◌≡◌, ◌+◌, ◌∷◌, drop, get_or, None, Err, sym, subst}
use Rattle.std.proofs.lemmas.List.{drop_more}
use Rattle.std.proofs.lemmas.Result.{err_from_is_err_and}
use Rattle.itch_day.specs.declared.limit.Limit.{Limit}
use Rattle.itch_commands.specs.SavedPoints.{SavesEach}
use Rattle.itch_commands.proofs.SavedInTurn.{EachSaved, each_begun, each_goes, each_off, each_on}
use Rattle.itch_commands.proofs.snap.saving.save_each.Goals as goal

pub loop-limit-init : goal.loop-limit-init
loop-limit-init g c =
    let pass = c.args.pass.now in
    each_begun g.R.CountedRead.remaining g.R.CountedRead.failures g.S.Fault.From.from_gives g.S.PointSaver.saves pass.first.value c.as_slice-parts.result.now c.args.saver.now
    pass.reader pass.limit.value pass.tracked pass.stop.value c.requires.stands c.requires.begins c.requires.unread c.as_slice-parts.ensures.rising

pub save_at-requires-clause-goes_on : goal.save_at-requires-clause-goes_on
save_at-requires-clause-goes_on g c =
    let parts = c.as_slice-parts.result.now in
    let i = c.loop-limit.limit-index in
    let whole : Limit = record { after = None; until = None } in
    let there : drop i parts ≡ get_or parts i whole ∷ drop (i + 1) parts = drop_more parts i whole c.loop-limit-test.true in
    let first = c.args.pass.now.first.value in
    let so_far = subst (λ left. EachSaved g.R.CountedRead.remaining g.R.CountedRead.failures g.S.Fault.From.from_gives g.S.PointSaver.saves first parts left
    c.args.saver.now c.loop-limit.saver c.loop-limit.pass.first.value c.loop-limit.pass.reader c.loop-limit.pass.limit.value c.loop-limit.pass.tracked c.loop-limit.pass.stop.value) there c.loop-limit.invariant in
    each_goes g.R.CountedRead.remaining g.R.CountedRead.failures g.S.Fault.From.from_gives g.S.PointSaver.saves first parts
    c.args.saver.now c.loop-limit.saver c.loop-limit.pass.first.value c.loop-limit.pass.reader c.loop-limit.pass.limit.value c.loop-limit.pass.tracked c.loop-limit.pass.stop.value
    (get_or parts i whole) (drop (i + 1) parts) so_far

pub returns-in_err-save_at : goal.returns-in_err-save_at
returns-in_err-save_at g c =
    let p = err_from_is_err_and c.from_residual.result c.from_residual.ensures.1 in
    let parts = c.as_slice-parts.result.now in
    let i = c.loop-limit.limit-index in
    let whole : Limit = record { after = None; until = None } in
    let there : drop i parts ≡ get_or parts i whole ∷ drop (i + 1) parts = drop_more parts i whole c.loop-limit-test.true in
    let first = c.args.pass.now.first.value in
    let so_far = subst (λ left. EachSaved g.R.CountedRead.remaining g.R.CountedRead.failures g.S.Fault.From.from_gives g.S.PointSaver.saves first parts left
    c.args.saver.now c.loop-limit.saver c.loop-limit.pass.first.value c.loop-limit.pass.reader c.loop-limit.pass.limit.value c.loop-limit.pass.tracked c.loop-limit.pass.stop.value) there c.loop-limit.invariant in
    rw (p.1, p.2)
    (subst (λ ls. SavesEach g.R.CountedRead.remaining g.R.CountedRead.failures g.S.Fault.From.from_gives g.S.PointSaver.saves first ls c.args.saver.now (Err c.in_err-save_at.field-0.0) c.save_at.new.saver)
    c.as_slice-parts.ensures.limits
    (each_off g.R.CountedRead.remaining g.R.CountedRead.failures g.S.Fault.From.from_gives g.S.PointSaver.saves first parts
    c.args.saver.now c.loop-limit.saver c.loop-limit.pass.first.value c.loop-limit.pass.reader c.loop-limit.pass.limit.value c.loop-limit.pass.tracked c.loop-limit.pass.stop.value
    (get_or parts i whole) (drop (i + 1) parts) so_far c.save_at.new.saver _ c.in_err-save_at.ensures.saves))

pub loop-limit-preserved : goal.loop-limit-preserved
loop-limit-preserved g c =
    let parts = c.as_slice-parts.result.now in
    let i = c.loop-limit.limit-index in
    let whole : Limit = record { after = None; until = None } in
    let there : drop i parts ≡ get_or parts i whole ∷ drop (i + 1) parts = drop_more parts i whole c.loop-limit-test.true in
    let first = c.args.pass.now.first.value in
    let so_far = subst (λ left. EachSaved g.R.CountedRead.remaining g.R.CountedRead.failures g.S.Fault.From.from_gives g.S.PointSaver.saves first parts left
    c.args.saver.now c.loop-limit.saver c.loop-limit.pass.first.value c.loop-limit.pass.reader c.loop-limit.pass.limit.value c.loop-limit.pass.tracked c.loop-limit.pass.stop.value) there c.loop-limit.invariant in
    let new = c.save_at.new.pass in
    subst (λ l. EachSaved g.R.CountedRead.remaining g.R.CountedRead.failures g.S.Fault.From.from_gives g.S.PointSaver.saves first parts (drop (i + 1) parts) c.args.saver.now c.save_at.new.saver
    new.first.value new.reader l new.tracked new.stop.value)
    (sym c.save_at.ensures.limit)
    (each_on g.R.CountedRead.remaining g.R.CountedRead.failures g.S.Fault.From.from_gives g.S.PointSaver.saves first parts
    c.args.saver.now c.loop-limit.saver c.loop-limit.pass.first.value c.loop-limit.pass.reader c.loop-limit.pass.limit.value c.loop-limit.pass.tracked c.loop-limit.pass.stop.value
    (get_or parts i whole) (drop (i + 1) parts) so_far c.save_at.new.saver new.first.value new.reader new.tracked new.stop.value
    c.in_ok-save_at.ensures.saves c.save_at.ensures.first c.save_at.ensures.stands c.in_ok-save_at.ensures.reaches)
