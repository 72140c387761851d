use Rattle.std.proofs.Common.{refl, inl, inr}
use Rattle.std.proofs.lemmas.Result.{err_from_is_err_and}
use Rattle.itch_depth.proofs.listing.list_set.Goals as goal

pub returns-in_err-all_listed : goal.returns-in_err-all_listed
returns-in_err-all_listed g c =
    let p = err_from_is_err_and c.from_residual.result c.from_residual.ensures.1 in
    rw (p.1, p.2) (inl (_, refl, c.in_err-all_listed.ensures, refl))

pub returns-in_err-write_timed_books : goal.returns-in_err-write_timed_books
returns-in_err-write_timed_books g c =
    let p = err_from_is_err_and c.from_residual-in_err-write_timed_books.result c.from_residual-in_err-write_timed_books.ensures.1 in
    rw (p.1, p.2) (inr (c.args.market.now, (refl, c.in_ok-all_listed.ensures), c.in_err-write_timed_books.ensures))

pub returns : goal.returns
returns g c = inr (c.args.market.now, (refl, c.in_ok-all_listed.ensures), (refl, c.in_ok-write_timed_books.ensures))
