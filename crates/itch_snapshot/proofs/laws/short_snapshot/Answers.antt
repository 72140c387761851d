use Rattle.itch_snapshot.proofs.Bounds.{replayed_short, read_short}
use Rattle.itch_snapshot.proofs.laws.short_snapshot.Goals as goal

pub returns-clause-replayed : goal.returns-clause-replayed
returns-clause-replayed c = replayed_short

pub returns-clause-read : goal.returns-clause-read
returns-clause-read c = read_short
