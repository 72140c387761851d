use Rattle.std.proofs.Common.{arith, length, ap}
use Rattle.itch_soup.specs.declared.packet.Packet.TheVariants as is
use Rattle.itch_soup.specs.Packets.{packet_spelling}
use Rattle.itch_soup.specs.Servers.{acceptance}
use Rattle.itch_soup.proofs.SentBlocks.{only_one}
use Rattle.itch_soup.proofs.sending.write_acceptance.Goals as goal

pub returns : goal.returns
returns g c =
    only_one g.W.CountedWrite.contents g.W.CountedWrite.failures c.args.writer.now c.write_block.new.writer (packet_spelling (is.LoginAccepted (acceptance c.args.config.now c.args.from))) c.write_block.result
    (omega (arith, c.spelling.ensures.spelled.size, ap length c.spelling.ensures.bytes)) (rw c.spelling.ensures.bytes at c.write_block.ensures)
