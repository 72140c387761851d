use Rattle.std.proofs.Common.{[], ◌∙◌, sym, subst}
use Rattle.std.proofs.lemmas.Result.{err_from_is_err_and}
use Rattle.std.specs.FinMap as finite
use Rattle.std.specs.Option.{option_copied}
use Rattle.itch_commands.specs.Books.{wanted_by}
use Rattle.itch_depth.specs.Timed.{timed_at}
use Rattle.itch_commands.proofs.BooksInTurn.{BooksSoFar, book_fails}
use Rattle.itch_depth.proofs.timed.write_timed_books.Goals as goal

pub returns-in_err-write_timed_listed : goal.returns-in_err-write_timed_listed
returns-in_err-write_timed_listed g c =
    let p = err_from_is_err_and c.from_residual.result c.from_residual.ensures.1 in
    let contents = g.W.CountedWrite.contents in
    let failures = g.W.CountedWrite.failures in
    let lines = timed_at c.args.form c.args.time c.args.depth c.args.market.now in
    let wanted = wanted_by (option_copied c.args.only) in
    let keys = finite.keys c.args.market.now.securities in
    let loop = c.loop-locate in
    let so_far = subst (λ left. BooksSoFar contents failures [] lines wanted keys c.args.out.now loop.yielded left loop.out) c.in-Some.ensures.steps loop.invariant in
    rw (p.1, p.2) (book_fails contents failures [] lines wanted keys c.args.out.now loop.yielded c.next.new.self c.in-Some.locate loop.out so_far c.write_timed_listed.new.out _
    (sym c.is_wanted.ensures ∙ c.if-is_wanted.true) c.in_err-write_timed_listed.ensures)
