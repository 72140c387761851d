use Rattle.std.proofs.Common.{Some, Ok, Err, refl, inl, inr}
use Rattle.std.proofs.lemmas.Result.{err_from_is_err_and}
use Rattle.itch_commands.specs.Books.{wanted_by}
use Rattle.itch_commands.specs.Stocks.{names_of}
use Rattle.itch_commands.proofs.BookLines.{stocks_listed, stocks_unlisted, stocks_left}
use Rattle.itch_commands.proofs.book.stocks.book_stocks.Goals as goal

pub returns-in_err-set : goal.returns-in_err-set
returns-in_err-set g c =
    let p = err_from_is_err_and c.from_residual-in_err-set.result c.from_residual-in_err-set.ensures.1 in
    let read = c.in_ok-market.ensures in
    rw (p.1, p.2) (inl (
      _,
      refl,
      inr (
        (read.0, c.in_ok-market.field-0-1),
        read.1,
        stocks_unlisted read.0 c.in_ok-market.market c.in_ok-market.field-0-1 read.2 (names_of c.args.names.now) _ c.in_err-set.ensures,
      ),
      refl,
    ))

pub returns-in_err-write_books : goal.returns-in_err-write_books
returns-in_err-write_books g c =
    let p = err_from_is_err_and c.from_residual-in_err-write_books.result c.from_residual-in_err-write_books.ensures.1 in
    let read = c.in_ok-market.ensures in
    let names = names_of c.args.names.now in
    rw (p.1, p.2) (inr (
      (read.0, c.in_ok-market.field-0-1),
      (read.1, stocks_listed read.0 c.in_ok-market.market c.in_ok-market.field-0-1 read.2 names c.in_ok-set.ensures.0),
      stocks_left read.0 c.in_ok-market.market c.in_ok-market.field-0-1 read.2 g.W.CountedWrite.contents g.W.CountedWrite.failures c.args.form c.args.depth (wanted_by (Some c.in_ok-set.set)) names
          c.args.out.now c.write_books.new.out (Err c.in_err-write_books.field-0.0) c.in_ok-set.ensures.1 c.in_err-write_books.ensures,
    ))

pub returns : goal.returns
returns g c =
    let read = c.in_ok-market.ensures in
    let names = names_of c.args.names.now in
    inr (
      (read.0, c.in_ok-market.field-0-1),
      (read.1, stocks_listed read.0 c.in_ok-market.market c.in_ok-market.field-0-1 read.2 names c.in_ok-set.ensures.0),
      (
        refl,
        stocks_left read.0 c.in_ok-market.market c.in_ok-market.field-0-1 read.2 g.W.CountedWrite.contents g.W.CountedWrite.failures c.args.form c.args.depth (wanted_by (Some c.in_ok-set.set)) names
            c.args.out.now c.write_books.new.out (Ok tt) c.in_ok-set.ensures.1 c.in_ok-write_books.ensures,
      ),
    )
