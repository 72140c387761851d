use Rattle.itch_soup.proofs.OnePacket.{only_read}
use Rattle.itch_soup.proofs.parsing.parse_packet.Goals as goal

pub returns-clause-only : goal.returns-clause-only
returns-clause-only c = only_read _ _ _ c.read.ensures
