use Rattle.std.proofs.Common.{◌≡◌, ◌++◌, ◌∙◌, ap, codes}
use Rattle.itch_status.specs.ChartTexts.{bars}
use Rattle.itch_status.proofs.Joining.{three}
use Rattle.itch_status.proofs.chart.extend_chart.Goals as goal

pub returns : goal.returns
returns c =
    three c.args.text.now.items _ _ _ _ _ _ c.in_ok-extend_from_slice.ensures.items
    (c.in_ok-extend_bars.ensures ∙ ap (λ most. c.extend_from_slice.new.self.items ++ bars most 0 c.args.seconds.now) c.greatest.ensures)
    c.in_ok-extend_from_slice-2.ensures.items
