use Rattle.std.proofs.Common.{◌≡◌, ℕ, Bool, Some, Ok, Err, refl, inl, inr, subst}
use Rattle.std.proofs.lemmas.Result.{err_from_is_err_and}
use Rattle.itch_market.specs.Content.{Content}
use Rattle.itch_commands.specs.Books.{wanted_by}
use Rattle.itch_commands.specs.Outputs.{WritesText}
use Rattle.itch_commands.specs.Stocks.{has_one_of, names_of}
use Rattle.itch_depth.specs.Timed.{timed_books}
use Rattle.itch_depth.proofs.listing.list_stocks.Goals as goal

pub returns-in_err-set : goal.returns-in_err-set
returns-in_err-set g c =
    let p = err_from_is_err_and c.from_residual.result c.from_residual.ensures.1 in
    rw (p.1, p.2) (inl (_, refl, c.in_err-set.ensures, refl))

pub returns-in_err-write_timed_books : goal.returns-in_err-write_timed_books
returns-in_err-write_timed_books g c =
    let p = err_from_is_err_and c.from_residual-in_err-write_timed_books.result c.from_residual-in_err-write_timed_books.ensures.1 in
    let m = c.args.market.now in
    let named : wanted_by (Some c.in_ok-set.set) ≡ has_one_of (Content.securities m) (names_of c.args.names.now) = λ i l. c.in_ok-set.ensures.1 l i in
    rw (p.1, p.2) (inr (
      m,
      (refl, c.in_ok-set.ensures.0),
      subst (λ (wanted : ℕ → Bool). WritesText g.W.CountedWrite.contents g.W.CountedWrite.failures (timed_books c.args.form c.args.time c.args.depth wanted m) c.args.out.now
          (Err c.in_err-write_timed_books.field-0.0) c.write_timed_books.new.out) named c.in_err-write_timed_books.ensures,
    ))

pub returns : goal.returns
returns g c =
    let m = c.args.market.now in
    let named : wanted_by (Some c.in_ok-set.set) ≡ has_one_of (Content.securities m) (names_of c.args.names.now) = λ i l. c.in_ok-set.ensures.1 l i in
    inr (
      m,
      (refl, c.in_ok-set.ensures.0),
      (
        refl,
        subst (λ (wanted : ℕ → Bool). WritesText g.W.CountedWrite.contents g.W.CountedWrite.failures (timed_books c.args.form c.args.time c.args.depth wanted m) c.args.out.now (Ok tt)
            c.write_timed_books.new.out) named c.in_ok-write_timed_books.ensures,
      ),
    )
