use Rattle.itch_snapshot.proofs.CutFiles.{cut_follows, cut_same, cut_stops}
use Rattle.itch_snapshot.proofs.laws.cut_day_file.Goals as goal

pub returns-clause-follows : goal.returns-clause-follows
returns-clause-follows c = cut_follows

pub returns-clause-same : goal.returns-clause-same
returns-clause-same c = cut_same

pub returns-clause-stops : goal.returns-clause-stops
returns-clause-stops c = cut_stops
