use Rattle.std.proofs.Common.{refl, [], ◌∷◌, ℕ, map, Err, subst, sym}
use Rattle.std.proofs.lemmas.Result.{err_from_is_err_and}
use Rattle.itch_codec.specs.declared.message.Message.TheVariants as message
use Rattle.itch_frame.specs.Writing.{WriteBlocks}
use Rattle.itch_soup.specs.Packets.{packet_spelling}
use Rattle.itch_soup.specs.Sending.{data_packet, session_packets, end_part}
use Rattle.itch_soup.proofs.SentBlocks.{none_sent, one_failed}
use Rattle.itch_soup.proofs.SentSessions.{packet_fits}
use Rattle.itch_soup.proofs.sending.write_end.Goals as goal

pub returns-in_err-write_message-clause-packets : goal.returns-in_err-write_message-clause-packets
returns-in_err-write_message-clause-packets g c =
    let p = err_from_is_err_and c.from_residual.result c.from_residual.ensures.1 in
    let contents = g.W.CountedWrite.contents in
    let failures = g.W.CountedWrite.failures in
    let last = message.End c.args.next in
    let failed =
    one_failed contents failures ℕ c.args.writer.now c.args.writer.now c.write_message.new.writer [] (packet_spelling (data_packet last)) (map packet_spelling (session_packets []))
    (map packet_spelling (session_packets (last ∷ []))) c.in_err-write_message.field-0.0 refl (packet_fits last c.in_err-write_message.ensures.fits (λ kept. kept)) (none_sent contents failures c.args.writer.now)
    c.in_err-write_message.ensures.block in
    rw (p.1, p.2)
    (subst (λ b. WriteBlocks contents failures c.args.writer.now (map packet_spelling (session_packets (end_part b c.args.next))) (Err c.in_err-write_message.field-0.0) c.write_message.new.writer)
    (sym c.if-with_end.true) failed)
