use Rattle.std.proofs.Common.{None, true, subst, inr}
use Rattle.itch_commands.specs.declared.fault.Source.TheVariants.{Only}
use Rattle.itch_commands.specs.Books.{lines_at, ReadsEntry}
use Rattle.itch_commands.specs.declared.form.BookForm.TheVariants.{Text}
use Rattle.itch_day.specs.Limits.{counted}
use Rattle.itch_commands.specs.Commands.{ListsBook}
use Rattle.itch_commands.specs.Files.{ReadsFile}
use Rattle.itch_commands.specs.Readings.{FromBlocks, FromReader}
use Rattle.itch_commands.specs.declared.kind.FileKind.TheVariants.{Day}
use Rattle.itch_commands.proofs.Outputs.{Outputs-weaker}
use Rattle.itch_commands.proofs.book.one.book.Goals as goal

pub returns : goal.returns
returns g c =
    let reads = ReadsFile g.R.CountedRead.remaining g.R.CountedRead.failures Only (Day (counted None)) in
    let locate = c.args.locate in
    Outputs-weaker g.W.CountedWrite.contents g.W.CountedWrite.failures (ReadsEntry locate (reads c.in_ok-reader.reader c.one_blocks.new.reader))
    (FromReader c.args.reader (λ a b. ReadsEntry locate (reads a b))) (λ done. lines_at Text None done.0 locate) (λ _. true)
    c.args.out.now c.one_blocks.new.out c.one_blocks.result
    (λ r read. inr (c.in_ok-reader.reader, c.one_blocks.new.reader, c.in_ok-reader.ensures.0, c.in_ok-reader.ensures.1, c.in_ok-reader.ensures.2, read))
    (subst (λ limit. ListsBook g.R.CountedRead.remaining g.R.CountedRead.failures g.W.CountedWrite.contents g.W.CountedWrite.failures locate (Day limit) (FromBlocks c.in_ok-reader.reader c.one_blocks.new.reader) c.args.out.now c.one_blocks.result c.one_blocks.new.out) c.whole.ensures c.one_blocks.ensures)
