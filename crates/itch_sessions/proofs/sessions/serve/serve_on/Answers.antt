use Rattle.std.proofs.lemmas.Result.{err_from_is_err_and}
use Rattle.itch_sessions.proofs.Lines.{one_served, serving_failed}
use Rattle.itch_sessions.proofs.sessions.serve.serve_on.Goals as goal

pub loop-before-preserved : goal.loop-before-preserved
loop-before-preserved g c = one_served _ _ _ _ _ _ _ _ _ _ _ c.loop-before.invariant c.in_ok-serve_next.ensures

pub returns-in_err-serve_next : goal.returns-in_err-serve_next
returns-in_err-serve_next g c =
    let p = err_from_is_err_and c.from_residual.result c.from_residual.ensures.1 in
    rw (p.1, p.2) (serving_failed _ _ _ _ _ _ _ _ _ _ _ _ _ c.loop-before.invariant c.loop-before-test.true c.in_err-serve_next.ensures)
