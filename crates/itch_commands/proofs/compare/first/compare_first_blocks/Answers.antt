use Rattle.std.proofs.Common.{refl, inl, inr}
use Rattle.std.proofs.lemmas.Result.{err_from_is_err_and}
use Rattle.itch_commands.proofs.compare.first.compare_first_blocks.Goals as goal

pub returns-in_err-count : goal.returns-in_err-count
returns-in_err-count g c =
    let p = err_from_is_err_and c.from_residual.result c.from_residual.ensures.1 in
    rw (p.1, p.2) (inl (_, refl, c.in_err-count.ensures, refl))

pub returns : goal.returns
returns g c = inr (c.in_ok-count.count, c.in_ok-count.ensures, c.write_first.ensures)
