use Rattle.std.proofs.Common.{◌≡◌, length}
use Rattle.itch_book.specs.SideLevels.{as_lines}
use Rattle.itch_book.proofs.SideLevelLemmas.{IsReach}
use Rattle.itch_book.proofs.level_lines.reach.Given as goal

abbrev pub invariant-loop-more : goal.invariant-loop-more
invariant-loop-more g l = IsReach (as_lines l.fn.lines.items) (as_lines l.lines.items) × (length l.lines.items ≡ l._more)
