use Rattle.itch_market.proofs.DayFiles.{stopped_within, stopped_few, stopped_messages, stopped_follows}
use Rattle.itch_market.proofs.laws.stopped_files.Goals as goal

pub returns-clause-within : goal.returns-clause-within
returns-clause-within c = stopped_within

pub returns-clause-few : goal.returns-clause-few
returns-clause-few c = stopped_few

pub returns-clause-messages : goal.returns-clause-messages
returns-clause-messages c = stopped_messages

pub returns-clause-follows : goal.returns-clause-follows
returns-clause-follows c = stopped_follows
