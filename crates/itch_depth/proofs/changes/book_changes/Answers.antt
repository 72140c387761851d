use Rattle.std.proofs.Common.{inl, inr, refl}
use Rattle.std.proofs.lemmas.Result.{err_from_is_err_and}
use Rattle.itch_depth.proofs.changes.book_changes.Goals as goal

pub returns-in_err-write_head : goal.returns-in_err-write_head
returns-in_err-write_head g c =
    let p = err_from_is_err_and c.from_residual.result c.from_residual.ensures.1 in
    rw (p.1, p.2) (inl (_, refl, c.in_err-write_head.ensures))

pub returns : goal.returns
returns g c = inr (_, _, c.in_ok-write_head.ensures, c.follow_part.ensures)
