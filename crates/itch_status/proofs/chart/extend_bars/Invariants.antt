use Rattle.std.proofs.Common.{◌≡◌, ◌++◌, drop}
use Rattle.itch_status.specs.ChartTexts.{bars}
use Rattle.itch_status.proofs.chart.extend_bars.Given as goal

-- the bars so far and the remaining ones are all of them
abbrev pub invariant-loop-messages : goal.invariant-loop-messages
invariant-loop-messages l = l.text.items ++ bars l.most l.left (drop l.messages-index l.seconds) ≡ l.fn.text.items ++ bars l.most 0 l.seconds
