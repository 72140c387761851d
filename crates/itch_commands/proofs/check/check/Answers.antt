use Rattle.std.proofs.Common.{None, true, subst, inr}
use Rattle.itch_commands.specs.declared.fault.Source.TheVariants.{Only}
use Rattle.itch_commands.specs.Forms.{count_line_of}
use Rattle.itch_commands.specs.declared.form.ReportForm.TheVariants.{Text}
use Rattle.itch_day.specs.Limits.{counted}
use Rattle.itch_commands.specs.Commands.{Checks}
use Rattle.itch_commands.specs.Expectations.{Meets, nothing}
use Rattle.itch_commands.specs.Readings.{ReadsDay, FromBlocks, FromReader}
use Rattle.itch_commands.proofs.Outputs.{Outputs-weaker}
use Rattle.itch_commands.proofs.check.check.Goals as goal

pub returns : goal.returns
returns g c =
    let reads = ReadsDay g.R.CountedRead.remaining g.R.CountedRead.failures Only (counted None) in
    Outputs-weaker g.W.CountedWrite.contents g.W.CountedWrite.failures (Meets nothing (reads c.in_ok-reader.reader c.check_blocks.new.reader)) (FromReader c.args.reader (λ old new. Meets nothing (reads old new))) (count_line_of Text) (λ _. true)
    c.args.out.now c.check_blocks.new.out c.check_blocks.result
    (λ r read. inr (c.in_ok-reader.reader, c.check_blocks.new.reader, c.in_ok-reader.ensures.0, c.in_ok-reader.ensures.1, c.in_ok-reader.ensures.2, read))
    (rw c.nothing.ensures at (subst (λ limit. Checks g.R.CountedRead.remaining g.R.CountedRead.failures g.W.CountedWrite.contents g.W.CountedWrite.failures Text limit c.nothing.result (FromBlocks c.in_ok-reader.reader c.check_blocks.new.reader) c.args.out.now c.check_blocks.result c.check_blocks.new.out) c.whole.ensures c.check_blocks.ensures))
