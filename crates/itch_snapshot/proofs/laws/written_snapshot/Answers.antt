use Rattle.itch_snapshot.proofs.WrittenFiles.{written_file, written_market, written_once, written_again}
use Rattle.itch_snapshot.proofs.laws.written_snapshot.Goals as goal

pub returns-clause-file : goal.returns-clause-file
returns-clause-file c = written_file

pub returns-clause-market : goal.returns-clause-market
returns-clause-market c = written_market

pub returns-clause-once : goal.returns-clause-once
returns-clause-once c = written_once

pub returns-clause-again : goal.returns-clause-again
returns-clause-again c = written_again
