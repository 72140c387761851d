use Rattle.itch_commands.proofs.CopiedSnapshots.{refused_before, refused_after, checked_alone, checked_ended}
use Rattle.std.proofs.lemmas.Result.{err_from_is_err_and}
use Rattle.itch_commands.proofs.canon.is_canonical.Goals as goal

pub returns-in_err-next : goal.returns-in_err-next
returns-in_err-next g c =
    let p = err_from_is_err_and c.from_residual.result c.from_residual.ensures.1 in
    rw (p.1, p.2) (refused_before g.R.CountedRead.remaining g.R.CountedRead.failures c.args.reader.now c.copy_snapshot.new.reader _ c.copy_snapshot.new.loader.market c.copy_snapshot.new.copy.items
    c.in_err-next.ensures.steps c.in_err-next.ensures.failures)

pub returns : goal.returns
returns g c =
    checked_alone g.R.CountedRead.remaining g.R.CountedRead.failures c.args.reader.now c.copy_snapshot.new.reader c.read_end.new.reader c.copy_snapshot.new.loader.market c.in_ok-next.next
    c.copy_snapshot.new.copy.items c.in_ok-next.ensures.steps c.in_ok-next.ensures.failures c.is_closed.result (rw c.if-not-branch.false at c.in_ok-read_end.ensures.step) c.in_ok-read_end.ensures.failures
    (rw (c.as_slice.ensures.value, c.market.ensures, c.settle_market.ensures) at c.is_closed.ensures)

pub returns-then-not-branch : goal.returns-then-not-branch
returns-then-not-branch g c =
    checked_ended g.R.CountedRead.remaining g.R.CountedRead.failures c.args.reader.now c.copy_snapshot.new.reader c.read_end.new.reader c.copy_snapshot.new.loader.market c.in_ok-next.next
    c.copy_snapshot.new.copy.items c.in_ok-next.ensures.steps c.in_ok-next.ensures.failures (rw c.if-not-branch.true at c.in_ok-read_end.ensures.step) c.in_ok-read_end.ensures.failures

pub returns-in_err-read_end : goal.returns-in_err-read_end
returns-in_err-read_end g c =
    let p = err_from_is_err_and c.from_residual-in_err-read_end.result c.from_residual-in_err-read_end.ensures.1 in
    rw (p.1, p.2) (refused_after g.R.CountedRead.remaining g.R.CountedRead.failures c.args.reader.now c.copy_snapshot.new.reader c.read_end.new.reader c.copy_snapshot.new.loader.market c.in_ok-next.next
    c.copy_snapshot.new.copy.items c.in_ok-next.ensures.steps c.in_ok-next.ensures.failures _ c.in_err-read_end.ensures.step c.in_err-read_end.ensures.failures)
