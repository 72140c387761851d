use Rattle.std.proofs.Common.{None, inl, inr, subst}
use Rattle.itch_day.specs.Limits.{counted}
use Rattle.itch_commands.specs.Infos.{Informs}
use Rattle.itch_commands.specs.Readings.{FromBlocks}
use Rattle.itch_commands.specs.declared.form.ReportForm.TheVariants.{Text}
use Rattle.itch_commands.proofs.InfoTexts.{from_reader}
use Rattle.itch_commands.proofs.info.info.Goals as goal

pub returns : goal.returns
returns g c =
    from_reader g.R.CountedRead.remaining g.R.CountedRead.failures g.W.CountedWrite.contents g.W.CountedWrite.failures Text (counted None) c.args.reader c.in_ok-reader.reader c.info_blocks.new.reader c.args.out.now c.info_blocks.result
    c.info_blocks.new.out (c.in_ok-reader.ensures.0, c.in_ok-reader.ensures.1, c.in_ok-reader.ensures.2)
    (subst (λ limit. Informs g.R.CountedRead.remaining g.R.CountedRead.failures g.W.CountedWrite.contents g.W.CountedWrite.failures Text limit (FromBlocks c.in_ok-reader.reader c.info_blocks.new.reader) c.args.out.now c.info_blocks.result c.info_blocks.new.out)
    c.whole.ensures c.info_blocks.ensures)
