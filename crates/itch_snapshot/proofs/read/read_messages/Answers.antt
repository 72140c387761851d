use Rattle.std.proofs.lemmas.Result.{err_from_is_err_and}
use Rattle.itch_snapshot.proofs.read.read_messages.Goals as goal

pub returns-in_err-next-clause-steps : goal.returns-in_err-next-clause-steps
returns-in_err-next-clause-steps g c =
    let p = err_from_is_err_and c.from_residual.result c.from_residual.ensures.1 in
    rw (p.1, p.2) (_, c.in_err-next.ensures.steps)
