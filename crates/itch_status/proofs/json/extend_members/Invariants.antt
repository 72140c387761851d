use Rattle.std.proofs.Common.{◌≡◌, ◌++◌, take}
use Rattle.std.specs.List.{flat_map}
use Rattle.itch_status.specs.JsonTexts.{json_member}
use Rattle.itch_status.proofs.json.extend_members.Given as goal

abbrev pub invariant-loop-figure : goal.invariant-loop-figure
invariant-loop-figure l = l.text.items ≡ l.fn.text.items ++ flat_map (json_member l.figures) (take l.figure-index l.shown)
