use Rattle.std.proofs.Common.{◌≡◌, drop}
use Rattle.itch_status.specs.ChartTexts.{greatest, greatest_from}
use Rattle.itch_status.proofs.chart.greatest.Given as goal

-- the larger of the largest so far and the largest of the rest is the largest of all
abbrev pub invariant-loop-number : goal.invariant-loop-number
invariant-loop-number l = greatest_from l.most (drop l.number-index l.numbers) ≡ greatest l.fn.numbers
