use Rattle.std.proofs.Common.{◌∙◌}
use Rattle.itch_book.proofs.SideLevelLemmas.{line_read, line_past}
use Rattle.itch_book.proofs.level_lines.line_of.Goals as goal

pub returns-in-Some : goal.returns-in-Some
returns-in-Some g c = c.as_slice.ensures.value ∙ line_read c.args.lines.now c.args.locate c.in-Some.levels.now c.in-Some.ensures.lookup.0 c.in-Some.ensures.lookup.1

pub returns-in-None : goal.returns-in-None
returns-in-None g c = line_past c.args.lines.now c.args.locate c.in-None.ensures.lookup.0
