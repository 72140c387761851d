use Rattle.itch_snapshot.proofs.OneFile.{file_messages, file_number, file_market, one_fault, file_or_fault}
use Rattle.itch_snapshot.proofs.SomeFile.{file_read}
use Rattle.itch_snapshot.proofs.laws.one_file.Goals as goal

pub returns-clause-messages : goal.returns-clause-messages
returns-clause-messages c = file_messages

pub returns-clause-number : goal.returns-clause-number
returns-clause-number c = file_number

pub returns-clause-market : goal.returns-clause-market
returns-clause-market c = file_market

pub returns-clause-fault : goal.returns-clause-fault
returns-clause-fault c = one_fault

pub returns-clause-never_both : goal.returns-clause-never_both
returns-clause-never_both c = file_or_fault

pub returns-clause-some : goal.returns-clause-some
returns-clause-some c = file_read
