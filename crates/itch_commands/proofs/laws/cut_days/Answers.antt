use Rattle.itch_commands.proofs.CutDays.{cut_follows, cut_leaves}
use Rattle.itch_commands.proofs.laws.cut_days.Goals as goal

pub returns-clause-follows : goal.returns-clause-follows
returns-clause-follows c = cut_follows

pub returns-clause-leaves : goal.returns-clause-leaves
returns-clause-leaves c = cut_leaves
