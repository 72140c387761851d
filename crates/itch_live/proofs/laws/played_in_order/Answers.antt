use Rattle.itch_live.proofs.Played.{sent_right}
use Rattle.itch_live.proofs.PlayedFile.{sent_of_file}
use Rattle.itch_live.proofs.laws.played_in_order.Goals as goal

pub returns-clause-order : goal.returns-clause-order
returns-clause-order c = λ config total begun past p h. sent_right config total begun past p h

pub returns-clause-file : goal.returns-clause-file
returns-clause-file c = λ config total begun file past p h fits. sent_of_file config total begun file past p h fits
