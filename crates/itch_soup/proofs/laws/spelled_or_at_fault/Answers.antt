use Rattle.itch_soup.proofs.OnePacket.{spelled-none}
use Rattle.itch_soup.proofs.FaultlessBlocks.{faultless-spelled}
use Rattle.itch_soup.proofs.laws.spelled_or_at_fault.Goals as goal

pub returns-clause-spelled : goal.returns-clause-spelled
returns-clause-spelled c = spelled-none

pub returns-clause-faultless : goal.returns-clause-faultless
returns-clause-faultless c = faultless-spelled
