use Rattle.itch_history.proofs.Lives.{back, leads, onward, same}
use Rattle.itch_history.proofs.laws.histories.Goals as goal

pub returns-clause-leads : goal.returns-clause-leads
returns-clause-leads c = leads

pub returns-clause-same : goal.returns-clause-same
returns-clause-same c = same

pub returns-clause-back : goal.returns-clause-back
returns-clause-back c = back

pub returns-clause-onward : goal.returns-clause-onward
returns-clause-onward c = onward
