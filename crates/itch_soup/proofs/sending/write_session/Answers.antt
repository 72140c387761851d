use Rattle.std.proofs.Common.{ℕ, [], ◌∷◌, map}
use Rattle.std.proofs.lemmas.Result.{err_from_is_err_and}
use Rattle.itch_soup.specs.declared.packet.Packet.TheVariants as is
use Rattle.itch_soup.specs.Packets.{packet_spelling}
use Rattle.itch_soup.specs.Servers.{acceptance}
use Rattle.itch_soup.specs.Sending.{session_packets, messages_from}
use Rattle.itch_soup.proofs.SentBlocks.{sent_then, sent_short}
use Rattle.itch_soup.proofs.sending.write_session.Goals as goal

pub returns-in_err-write_acceptance-clause-packets : goal.returns-in_err-write_acceptance-clause-packets
returns-in_err-write_acceptance-clause-packets g c =
    let p = err_from_is_err_and c.from_residual.result c.from_residual.ensures.1 in
    rw (p.1, p.2)
    (sent_short g.W.CountedWrite.contents g.W.CountedWrite.failures ℕ ℕ c.args.writer.now c.write_acceptance.new.writer
    (map packet_spelling (is.LoginAccepted (acceptance c.args.config.now c.args.from) ∷ [])) (map packet_spelling (session_packets (messages_from c.args.from c.args.market.now c.args.next)))
    c.in_err-write_acceptance.field-0.0 c.in_err-write_acceptance.ensures)

pub returns-clause-packets : goal.returns-clause-packets
returns-clause-packets g c =
    sent_then g.W.CountedWrite.contents g.W.CountedWrite.failures {S = Unit {0}} {T = ℕ} c.args.writer.now c.write_acceptance.new.writer c.write_answer.new.writer
    (map packet_spelling (is.LoginAccepted (acceptance c.args.config.now c.args.from) ∷ [])) (map packet_spelling (session_packets (messages_from c.args.from c.args.market.now c.args.next)))
    tt c.write_answer.result c.in_ok-write_acceptance.ensures c.write_answer.ensures.packets
