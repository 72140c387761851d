-- A chart of the messages per second, as SVG.
use Rattle.std.specs.Prelude.{ℕ, ◌+◌, ◌-◌, ◌*◌, ◌/◌, ◌==◌, List, [], ◌∷◌, ◌++◌, codes, decimal, min, max, if◌then◌else◌}
use Rattle.itch_status.specs.Rates.{added}

-- the largest of a list of numbers and of the numbers before it
abbrev pub greatest_from : ℕ → List ℕ → ℕ
greatest_from so_far [] = so_far
greatest_from so_far (n ∷ ns) = greatest_from (max n so_far) ns

abbrev pub greatest : List ℕ → ℕ
greatest numbers = greatest_from 0 numbers

-- the height of a bar if the highest bar, of height 100, has `most` messages
abbrev pub bar_height : ℕ → ℕ → ℕ
bar_height messages most = if most == 0 then 0 else min (messages * 100 / most) 100

-- a bar
unfoldable pub bar : ℕ → ℕ → List ℕ
bar left height =
    codes "<rect x=\"" ++ decimal left ++ codes "\" y=\"" ++ decimal (100 - height) ++ codes "\" width=\"9\" height=\"" ++ decimal height ++ codes "\"/>\n"

-- the bars from this position on
abbrev pub bars : ℕ → ℕ → List ℕ → List ℕ
bars most left [] = []
bars most left (messages ∷ later) = bar left (bar_height messages most) ++ bars most (added left 10) later

-- a chart with one bar per second
abbrev pub chart_text : List ℕ → List ℕ
chart_text seconds =
    codes "<svg viewBox=\"0 0 600 100\" preserveAspectRatio=\"none\" role=\"img\" aria-label=\"Messages per second\">\n"
    ++ bars (greatest seconds) 0 seconds ++ codes "</svg>\n"
