use Rattle.std.proofs.Common.{Ok, Err, None, refl, inl, inr}
use Rattle.std.proofs.lemmas.Result.{err_from_is_err_and}
use Rattle.itch_commands.specs.declared.fault.Source.TheVariants.{Only}
use Rattle.itch_commands.specs.declared.fault.ToolFault.TheVariants.{UnknownLocate}
use Rattle.itch_commands.specs.declared.form.BookForm.TheVariants.{Text}
use Rattle.itch_commands.specs.Files.{ReadsFile}
use Rattle.itch_commands.proofs.BookLines.{entry_read, no_entry, lines_left}
use Rattle.itch_commands.proofs.book.one.one_blocks.Goals as goal

pub returns-in_err-write_listed : goal.returns-in_err-write_listed
returns-in_err-write_listed g c =
    let p = err_from_is_err_and c.from_residual-in_err-write_listed.result c.from_residual-in_err-write_listed.ensures.1 in
    let read = c.in_ok-market.ensures in
    rw (p.1, p.2) (inr (
      (read.0, c.in_ok-market.field-0-1),
      entry_read read.0 c.in_ok-market.market c.in_ok-market.field-0-1 read.2 c.args.locate (ReadsFile g.R.CountedRead.remaining g.R.CountedRead.failures Only c.args.kind c.args.reader.now c.file_market.new.reader)
          _ read.1 c.in-Some.ensures,
      lines_left read.0 c.in_ok-market.market c.in_ok-market.field-0-1 read.2 g.W.CountedWrite.contents g.W.CountedWrite.failures Text None c.args.locate c.args.out.now
          c.write_listed.new.out (Err c.in_err-write_listed.field-0.0) c.in_err-write_listed.ensures,
    ))

pub returns : goal.returns
returns g c =
    let read = c.in_ok-market.ensures in
    inr (
      (read.0, c.in_ok-market.field-0-1),
      entry_read read.0 c.in_ok-market.market c.in_ok-market.field-0-1 read.2 c.args.locate (ReadsFile g.R.CountedRead.remaining g.R.CountedRead.failures Only c.args.kind c.args.reader.now c.file_market.new.reader)
          _ read.1 c.in-Some.ensures,
      (
        refl,
        lines_left read.0 c.in_ok-market.market c.in_ok-market.field-0-1 read.2 g.W.CountedWrite.contents g.W.CountedWrite.failures Text None c.args.locate c.args.out.now
            c.write_listed.new.out (Ok tt) c.in_ok-write_listed.ensures,
      ),
    )

pub returns-in_default : goal.returns-in_default
returns-in_default g c =
    let read = c.in_ok-market.ensures in
    inl (
      UnknownLocate,
      refl,
      inr (refl, ((read.0, c.in_ok-market.field-0-1), read.1, no_entry read.0 c.in_ok-market.market c.in_ok-market.field-0-1 read.2 c.args.locate c.in_default.ensures)),
      refl,
    )
