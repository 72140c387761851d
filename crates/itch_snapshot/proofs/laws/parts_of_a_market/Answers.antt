use Rattle.itch_snapshot.proofs.PartialSnapshots.{snap_only}
use Rattle.itch_snapshot.proofs.CoveringSets.{parts_determine}
use Rattle.itch_snapshot.proofs.laws.parts_of_a_market.Goals as goal

pub returns-clause-list : goal.returns-clause-list
returns-clause-list c = snap_only

pub returns-clause-determine : goal.returns-clause-determine
returns-clause-determine c = parts_determine
