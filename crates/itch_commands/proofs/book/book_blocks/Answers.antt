use Rattle.std.proofs.Common.{Ok, Err, refl, inl, inr}
use Rattle.std.proofs.lemmas.Result.{err_from_is_err_and}
use Rattle.std.specs.Option.{option_copied}
use Rattle.itch_commands.specs.Books.{wanted_by}
use Rattle.itch_commands.specs.declared.fault.Source.TheVariants.{Only}
use Rattle.itch_commands.specs.Files.{ReadsFile}
use Rattle.itch_commands.proofs.BookLines.{listed, unlisted, books_left}
use Rattle.itch_commands.proofs.book.book_blocks.Goals as goal

pub returns-in_err-all_listed : goal.returns-in_err-all_listed
returns-in_err-all_listed g c =
    let p = err_from_is_err_and c.from_residual-in_err-all_listed.result c.from_residual-in_err-all_listed.ensures.1 in
    let read = c.in_ok-market.ensures in
    let lacks = c.in_err-all_listed.ensures in
    rw (p.1, p.2) (inl (
      _,
      refl,
      inr (lacks.0, ((read.0, c.in_ok-market.field-0-1), read.1, unlisted read.0 c.in_ok-market.market c.in_ok-market.field-0-1 read.2 (option_copied c.args.only) lacks.1)),
      refl,
    ))

pub returns-in_err-write_books : goal.returns-in_err-write_books
returns-in_err-write_books g c =
    let p = err_from_is_err_and c.from_residual-in_err-write_books.result c.from_residual-in_err-write_books.ensures.1 in
    let read = c.in_ok-market.ensures in
    rw (p.1, p.2) (inr (
      (read.0, c.in_ok-market.field-0-1),
      listed read.0 c.in_ok-market.market c.in_ok-market.field-0-1 read.2 (option_copied c.args.only) (ReadsFile g.R.CountedRead.remaining g.R.CountedRead.failures Only c.args.kind c.args.reader.now c.file_market.new.reader)
          read.1 c.in_ok-all_listed.ensures,
      books_left read.0 c.in_ok-market.market c.in_ok-market.field-0-1 read.2 g.W.CountedWrite.contents g.W.CountedWrite.failures c.args.form c.args.depth (wanted_by (option_copied c.args.only)) c.args.out.now
          c.write_books.new.out (Err c.in_err-write_books.field-0.0) c.in_err-write_books.ensures,
    ))

pub returns : goal.returns
returns g c =
    let read = c.in_ok-market.ensures in
    inr (
      (read.0, c.in_ok-market.field-0-1),
      listed read.0 c.in_ok-market.market c.in_ok-market.field-0-1 read.2 (option_copied c.args.only) (ReadsFile g.R.CountedRead.remaining g.R.CountedRead.failures Only c.args.kind c.args.reader.now c.file_market.new.reader)
          read.1 c.in_ok-all_listed.ensures,
      (
        refl,
        books_left read.0 c.in_ok-market.market c.in_ok-market.field-0-1 read.2 g.W.CountedWrite.contents g.W.CountedWrite.failures c.args.form c.args.depth (wanted_by (option_copied c.args.only)) c.args.out.now
            c.write_books.new.out (Ok tt) c.in_ok-write_books.ensures,
      ),
    )
