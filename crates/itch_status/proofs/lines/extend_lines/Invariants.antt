use Rattle.std.proofs.Common.{◌≡◌, ◌++◌, take}
use Rattle.std.specs.List.{flat_map}
use Rattle.itch_status.specs.PlainTexts.{plain_line}
use Rattle.itch_status.proofs.lines.extend_lines.Given as goal

abbrev pub invariant-loop-figure : goal.invariant-loop-figure
invariant-loop-figure l = l.text.items ≡ l.fn.text.items ++ flat_map (plain_line l.figures) (take l.figure-index l.shown)
