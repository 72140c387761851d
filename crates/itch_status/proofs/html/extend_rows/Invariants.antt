use Rattle.std.proofs.Common.{◌≡◌, ◌++◌, take}
use Rattle.std.specs.List.{flat_map}
use Rattle.itch_status.specs.HtmlTexts.{html_row}
use Rattle.itch_status.proofs.html.extend_rows.Given as goal

abbrev pub invariant-loop-figure : goal.invariant-loop-figure
invariant-loop-figure l = l.text.items ≡ l.fn.text.items ++ flat_map (html_row l.figures) (take l.figure-index l.shown)
