use Rattle.std.proofs.Common.{ℕ, ◌≤◌, List, length, map, sym, ap, ◌∙◌, subst}
use Rattle.itch_frame.specs.Blocks.{blocks}
use Rattle.itch_soup.specs.Packets.{packet_spelling}
use Rattle.itch_soup.specs.Sending.{session_packets, messages_from}
use Rattle.itch_live.proofs.Filling.{never_full, grown}
use Rattle.itch_live.proofs.encoded.fill.Goals as goal

pub unreachable-requires-in-Err : goal.unreachable-requires-in-Err
unreachable-requires-in-Err g c =
    let packets : ℕ → List (List ℕ) = λ first. map packet_spelling (session_packets (messages_from first c.args.market.now c.args.next)) in
    never_full c.args.buffer c.write_answer.new.writer (packets c.in-Some.first) c.in-Err.field-0 c.requires.empty
    (subst (λ first. length (blocks (packets first)) ≤ c.args.buffer.room) (sym c.in-Some.ensures.number) c.requires.room) c.in-Err.ensures.packets

pub returns : goal.returns
returns g c =
    let packets : ℕ → List (List ℕ) = λ first. map packet_spelling (session_packets (messages_from first c.args.market.now c.args.next)) in
    let filled = grown c.args.buffer.room c.write_answer.new.writer.room c.args.buffer.bytes.items c.write_answer.new.writer.bytes.items (blocks (packets c.in-Some.first)) c.in-Ok.ensures.packets.0 c.requires.empty in
    ap (λ v. v.items) c.into_bytes.ensures ∙ filled.1 ∙ ap (λ first. blocks (packets first)) c.in-Some.ensures.number
