use Rattle.itch_soup.proofs.OnePacket.{same_packet}
use Rattle.itch_soup.proofs.laws.one_packet.Goals as goal

pub returns : goal.returns
returns c = same_packet
