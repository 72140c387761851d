use Rattle.itchsnap_cli.proofs.ShownHistories.{followed, shown}
use Rattle.itchsnap_cli.proofs.laws.shown_histories.Goals as goal

pub returns-clause-number : goal.returns-clause-number
returns-clause-number c = followed

pub returns-clause-about : goal.returns-clause-about
returns-clause-about c = shown
