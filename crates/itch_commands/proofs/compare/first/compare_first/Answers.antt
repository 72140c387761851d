use Rattle.std.proofs.Common.{None, is_none, subst, inr}
use Rattle.itch_commands.specs.Commands.{ComparesFirst}
use Rattle.itch_commands.specs.FirstDifferences.{FindsFirst, first_line}
use Rattle.itch_day.specs.Limits.{counted}
use Rattle.itch_commands.specs.Readings.{FromBlocks, FromReader}
use Rattle.itch_commands.specs.declared.form.ReportForm.TheVariants.{Text}
use Rattle.itch_commands.proofs.Outputs.{Outputs-weaker}
use Rattle.itch_commands.proofs.compare.first.compare_first.Goals as goal

pub returns : goal.returns
returns g c =
    let finds = FindsFirst g.R.CountedRead.remaining g.R.CountedRead.failures g.S.CountedRead.remaining g.S.CountedRead.failures (counted None) in
    let a = c.in_ok-first.first in
    let b = c.compare_first_blocks.new.first in
    let x = c.in_ok-second.second in
    let y = c.compare_first_blocks.new.second in
    Outputs-weaker g.W.CountedWrite.contents g.W.CountedWrite.failures (finds a b x y) (FromReader c.args.first (λ i j. FromReader c.args.second (λ k l. finds i j k l))) (first_line Text) is_none
    c.args.out.now c.compare_first_blocks.new.out c.compare_first_blocks.result
    (λ r read. inr (
      a,
      b,
      c.in_ok-first.ensures.0,
      c.in_ok-first.ensures.1,
      c.in_ok-first.ensures.2,
      inr (x, y, c.in_ok-second.ensures.0, c.in_ok-second.ensures.1, c.in_ok-second.ensures.2, read),
    ))
    (subst (λ limit. ComparesFirst g.R.CountedRead.remaining g.R.CountedRead.failures g.S.CountedRead.remaining g.S.CountedRead.failures g.W.CountedWrite.contents g.W.CountedWrite.failures Text limit (FromBlocks a b) (FromBlocks x y) c.args.out.now c.compare_first_blocks.result c.compare_first_blocks.new.out) c.whole.ensures c.compare_first_blocks.ensures)
