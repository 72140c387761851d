use Rattle.std.proofs.Common.{◌++◌}
use Rattle.itch_commands.specs.Forms.{level_line}
use Rattle.itch_depth.specs.declared.changes.best.DepthLevel.{DepthLevel}
use Rattle.itch_depth.proofs.PartsInTurn.{AreWritten}
use Rattle.itch_depth.proofs.changes.lines.write_levels.Given as goal

abbrev pub invariant-loop-level : goal.invariant-loop-level
invariant-loop-level g l =
    AreWritten g.W.CountedWrite.contents g.W.CountedWrite.failures (λ (x : DepthLevel). l.front ++ level_line l.side x.price x.shares x.orders) l.levels l.fn.out l.level-index l.out
