use Rattle.std.proofs.Common.{◌+◌, ◌-◌, ◌^◌, min, Ok, subst}
use Rattle.std.proofs.lemmas.Result.{err_from_is_err_and}
use Rattle.itch_commands.specs.SavedPoints.{SavesNext}
use Rattle.itch_commands.proofs.SavedInTurn.{every_done, every_off, every_on}
use Rattle.itch_commands.proofs.snap.saving.save_every.Goals as goal

pub returns-in_err-save_next : goal.returns-in_err-save_next
returns-in_err-save_next g c =
    let p = err_from_is_err_and c.from_residual.result c.from_residual.ensures.1 in
    rw (p.1, p.2)
    (every_off g.R.CountedRead.remaining g.R.CountedRead.failures g.S.Fault.From.from_gives g.S.PointSaver.saves c.args.step c.requires.some c.args.pass.now.first.value c.loop.counter
    c.args.saver.now c.loop.saver c.loop.pass.first.value c.loop.pass.reader c.loop.pass.tracked c.loop.pass.limit.value c.loop.pass.stop.value c.loop.pass.few c.loop.invariant
    c.save_next.new.saver _ c.in_err-save_next.ensures.saves)

pub returns-then-not-branch : goal.returns-then-not-branch
returns-then-not-branch g c =
    every_done g.R.CountedRead.remaining g.R.CountedRead.failures g.S.Fault.From.from_gives g.S.PointSaver.saves c.args.step c.requires.some c.args.pass.now.first.value c.loop.counter
    c.args.saver.now c.loop.saver c.loop.pass.first.value c.loop.pass.reader c.loop.pass.tracked c.loop.pass.limit.value c.loop.pass.stop.value c.loop.pass.few c.loop.invariant
    c.save_next.new.saver
    (subst (λ b. SavesNext g.R.CountedRead.remaining g.R.CountedRead.failures g.S.Fault.From.from_gives g.S.PointSaver.saves (min (c.loop.pass.tracked.cursor.count + c.args.step) (2 ^ 64 - 1))
    c.loop.pass.first.value c.loop.saver (Ok b) c.save_next.new.saver)
    c.if-not-branch.true c.in_ok-save_next.ensures.saves)

pub loop-preserved : goal.loop-preserved
loop-preserved g c =
    let new = c.save_next.new.pass in
    every_on g.R.CountedRead.remaining g.R.CountedRead.failures g.S.Fault.From.from_gives g.S.PointSaver.saves c.args.step c.requires.some c.args.pass.now.first.value c.loop.counter
    c.args.saver.now c.loop.saver c.loop.pass.first.value c.loop.pass.reader c.loop.pass.tracked c.loop.pass.limit.value c.loop.pass.stop.value c.loop.pass.few c.loop.invariant
    c.save_next.new.saver new.first.value new.reader new.tracked new.limit.value new.stop.value
    (subst (λ b. SavesNext g.R.CountedRead.remaining g.R.CountedRead.failures g.S.Fault.From.from_gives g.S.PointSaver.saves (min (c.loop.pass.tracked.cursor.count + c.args.step) (2 ^ 64 - 1))
    c.loop.pass.first.value c.loop.saver (Ok b) c.save_next.new.saver)
    c.if-not-branch.false c.in_ok-save_next.ensures.saves)
    c.save_next.ensures.first c.save_next.ensures.stands c.in_ok-save_next.ensures.goes_on (c.in_ok-save_next.ensures.count c.if-not-branch.false)
