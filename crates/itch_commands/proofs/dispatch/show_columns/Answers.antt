use Rattle.std.proofs.Common.{inl, inr, refl}
use Rattle.std.proofs.lemmas.Result.{err_from_is_err_and}
use Rattle.itch_commands.proofs.dispatch.show_columns.Goals as goal

pub returns-in_err-write_heading : goal.returns-in_err-write_heading
returns-in_err-write_heading g c =
    let p = err_from_is_err_and c.from_residual.result c.from_residual.ensures.1 in
    rw (p.1, p.2) (inl (_, refl, c.in_err-write_heading.ensures, refl))

pub returns : goal.returns
returns g c = inr (_, c.in_ok-write_heading.ensures, c.show_kind.ensures)
