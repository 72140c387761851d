use Rattle.std.proofs.Common.{◌+◌, ◌-◌, ◌^◌, min, refl}
use Rattle.std.proofs.lemmas.Result.{err_from_is_err_and}
use Rattle.itch_commands.proofs.SavedInTurn.{next_from, next_read, next_refused_from, next_unsaved_from}
use Rattle.itch_commands.proofs.snap.saving.save_next.Goals as goal

pub returns-in_err-is_more-clause-saves : goal.returns-in_err-is_more-clause-saves
returns-in_err-is_more-clause-saves g c =
    let p = err_from_is_err_and c.from_residual.result c.from_residual.ensures.1 in
    let now = c.args.pass.now in
    let new = c.read_more.new.self in
    rw p.1
    (next_refused_from g.R.CountedRead.remaining g.R.CountedRead.failures g.S.Fault.From.from_gives g.S.PointSaver.saves new.first.value now.first.value c.read_more.ensures.first
    c.args.saver.now c.args.saver.now (min (now.tracked.cursor.count + c.args.count) (2 ^ 64 - 1)) new.limit.value new.reader new.stop.value new.tracked _ p.0 c.in_err-is_more.ensures.reads p.2 refl)

pub save-requires : goal.save-requires
save-requires g c =
    let new = c.read_more.new.self in
    next_read g.R.CountedRead.remaining g.R.CountedRead.failures (min (c.args.pass.now.tracked.cursor.count + c.args.count) (2 ^ 64 - 1)) new.limit.value new.first.value new.reader new.stop.value
    new.tracked c.in_ok-is_more.is_more c.in_ok-is_more.ensures.reads

pub returns-in_err-save-clause-saves : goal.returns-in_err-save-clause-saves
returns-in_err-save-clause-saves g c =
    let p = err_from_is_err_and c.from_residual-in_err-save.result c.from_residual-in_err-save.ensures.1 in
    let now = c.args.pass.now in
    let new = c.read_more.new.self in
    rw (p.1, p.2)
    (next_unsaved_from g.R.CountedRead.remaining g.R.CountedRead.failures g.S.Fault.From.from_gives g.S.PointSaver.saves new.first.value now.first.value c.read_more.ensures.first
    c.args.saver.now c.save.new.self (min (now.tracked.cursor.count + c.args.count) (2 ^ 64 - 1)) new.limit.value new.reader new.stop.value new.tracked c.in_ok-is_more.is_more _
    c.in_ok-is_more.ensures.reads c.in_err-save.ensures)

pub returns-clause-saves : goal.returns-clause-saves
returns-clause-saves g c =
    let now = c.args.pass.now in
    let new = c.read_more.new.self in
    next_from g.R.CountedRead.remaining g.R.CountedRead.failures g.S.Fault.From.from_gives g.S.PointSaver.saves new.first.value now.first.value c.read_more.ensures.first
    c.args.saver.now c.save.new.self (min (now.tracked.cursor.count + c.args.count) (2 ^ 64 - 1)) new.limit.value new.reader new.stop.value new.tracked c.in_ok-is_more.is_more
    c.in_ok-is_more.ensures.reads c.in_ok-save.ensures
