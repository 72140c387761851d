use Rattle.std.proofs.Common.{refl, subst}
use Rattle.std.proofs.lemmas.Result.{err_from_is_err_and}
use Rattle.itch_day.specs.Passing.{left_by}
use Rattle.itch_commands.proofs.SavedInTurn.{refused_from, saved_from}
use Rattle.itch_commands.proofs.snap.saving.save_at.Goals as goal

pub returns-in_err-read_to-clause-saves : goal.returns-in_err-read_to-clause-saves
returns-in_err-read_to-clause-saves g c =
    let p = err_from_is_err_and c.from_residual.result c.from_residual.ensures.1 in
    let new = c.read_to.new.self in
    rw p.1
    (refused_from g.R.CountedRead.remaining g.R.CountedRead.failures g.S.Fault.From.from_gives g.S.PointSaver.saves new.first.value c.args.pass.now.first.value c.read_to.ensures.first
    c.args.saver.now c.args.saver.now c.args.limit (left_by new.stop.value new.reader) _ p.0 c.in_err-read_to.ensures.reads.0 p.2 refl)

pub returns-clause-saves : goal.returns-clause-saves
returns-clause-saves g c =
    let new = c.read_to.new.self in
    let now = left_by new.stop.value new.reader in
    saved_from g.R.CountedRead.remaining g.R.CountedRead.failures g.S.Fault.From.from_gives g.S.PointSaver.saves new.first.value c.args.pass.now.first.value c.read_to.ensures.first
    c.args.saver.now c.save.new.self c.args.limit now new.tracked.sink new.tracked.cursor c.save.result c.in_ok-read_to.ensures.reads.2
    (subst (λ l. g.S.PointSaver.saves c.args.saver.now l new.first.value now new.tracked.cursor c.save.result c.save.new.self) c.read_to.ensures.limit c.save.ensures)
