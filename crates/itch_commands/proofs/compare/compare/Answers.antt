use Rattle.std.proofs.Common.{◌≡◌, None, is_none, subst, inr}
use Rattle.itch_commands.specs.declared.fault.Source.TheVariants.{First, Second}
use Rattle.itch_commands.specs.Comparing.{ReadsBoth, PartsAt}
use Rattle.itch_commands.specs.Forms.{verdict_line}
use Rattle.itch_commands.specs.declared.form.ReportForm.TheVariants.{Text}
use Rattle.itch_day.specs.Limits.{counted}
use Rattle.itch_commands.specs.Commands.{Compares}
use Rattle.itch_commands.specs.Files.{ReadsFile}
use Rattle.itch_commands.specs.Readings.{FromBlocks, FromReader}
use Rattle.itch_commands.specs.declared.kind.FileKind.TheVariants.{Day}
use Rattle.itch_commands.proofs.Outputs.{Outputs-weaker}
use Rattle.itch_commands.proofs.compare.compare.Goals as goal

pub returns : goal.returns
returns g c =
    let one = ReadsFile g.R.CountedRead.remaining g.R.CountedRead.failures First (Day (counted None)) in
    let other = ReadsFile g.S.CountedRead.remaining g.S.CountedRead.failures Second (Day (counted None)) in
    let a = c.in_ok-first.first in
    let b = c.compare_blocks.new.first in
    let x = c.in_ok-second.second in
    let y = c.compare_blocks.new.second in
    Outputs-weaker g.W.CountedWrite.contents g.W.CountedWrite.failures (PartsAt (ReadsBoth (one a b) (y ≡ x) (other x y)))
    (FromReader c.args.first (λ i j. FromReader c.args.second (λ k l. PartsAt (ReadsBoth (one i j) (l ≡ k) (other k l))))) (verdict_line Text) is_none
    c.args.out.now c.compare_blocks.new.out c.compare_blocks.result
    (λ r read. inr (
      a,
      b,
      c.in_ok-first.ensures.0,
      c.in_ok-first.ensures.1,
      c.in_ok-first.ensures.2,
      inr (x, y, c.in_ok-second.ensures.0, c.in_ok-second.ensures.1, c.in_ok-second.ensures.2, read),
    ))
    (subst (λ limit. Compares g.R.CountedRead.remaining g.R.CountedRead.failures g.S.CountedRead.remaining g.S.CountedRead.failures g.W.CountedWrite.contents g.W.CountedWrite.failures Text (Day limit) (FromBlocks a b) (FromBlocks x y) c.args.out.now c.compare_blocks.result c.compare_blocks.new.out) c.whole.ensures c.compare_blocks.ensures)
