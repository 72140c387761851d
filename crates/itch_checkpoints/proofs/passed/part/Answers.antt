use Rattle.itch_checkpoints.proofs.PassedBytes.{part_is}
use Rattle.itch_checkpoints.proofs.passed.part.Goals as goal

pub returns : goal.returns
returns c = rw (c.min.ensures, c.min-2.ensures, c.saturating_sub.ensures, c.saturating_sub-2.ensures) (part_is c.args.older.now c.args.newer.now c.args.begin c.args.end c.requires.order c.requires.within)
