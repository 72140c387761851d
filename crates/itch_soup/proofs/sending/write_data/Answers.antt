use Rattle.std.proofs.Common.{◌≡◌, ◌∷◌, [], ◌++◌, arith, length, ap, subst, sym, append-nil}
use Rattle.itch_frame.specs.Writing.{WritePart, WriteBlock}
use Rattle.itch_soup.proofs.SentBlocks.{in_two_parts, packet_block}
use Rattle.itch_soup.proofs.sending.write_data.Goals as goal

pub returns : goal.returns
returns g c =
    let contents = g.W.CountedWrite.contents in
    let failures = g.W.CountedWrite.failures in
    let payload = c.args.payload.now in
    let header = c.write_u16.new.buf ++ 83 ∷ [] in
    let three : length header ≡ 3 = ap (λ front. length (front ++ 83 ∷ [])) c.write_u16.ensures in
    let wrote =
    in_two_parts contents failures c.args.writer.now c.write_part.new.writer c.write_part-2.new.writer header payload (83 ∷ payload) c.write_part-2.result
    (omega (arith, c.in-Ok.ensures)) (packet_block c.write_u16.new.buf c.in-Ok.len 83 payload c.write_u16.ensures (omega (arith, c.in-Ok.ensures)))
    c.in_ok-write_part.ensures
    (subst (λ before. WritePart contents failures c.write_part.new.writer before payload c.write_part-2.result c.write_part-2.new.writer) (sym three)
    c.write_part-2.ensures) in
    subst (λ bytes. WriteBlock contents failures c.args.writer.now (83 ∷ bytes) c.write_part-2.result c.write_part-2.new.writer) (sym (append-nil payload)) wrote
