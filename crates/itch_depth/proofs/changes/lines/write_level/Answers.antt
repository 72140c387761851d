use Rattle.std.proofs.Common.{Ok, subst, ◌∙◌}
use Rattle.itch_commands.specs.Forms.{level_line}
use Rattle.itch_commands.specs.Outputs.{WritesText}
use Rattle.itch_commands.proofs.JoinedTexts.{text_then}
use Rattle.itch_depth.proofs.changes.lines.write_level.Goals as goal

pub returns : goal.returns
returns g c =
    let contents = g.W.CountedWrite.contents in
    let failures = g.W.CountedWrite.failures in
    let x = c.args.level.now in
    text_then contents failures c.args.front.now (level_line c.args.side x.price x.shares x.orders) c.args.out.now c.write_text.new.out c.write_text-2.new.out c.write_text-2.result
    (subst (λ text. WritesText contents failures text c.args.out.now (Ok tt) c.write_text.new.out) c.as_bytes.ensures.bytes c.in_ok-write_text.ensures)
    (subst (λ text. WritesText contents failures text c.write_text.new.out c.write_text-2.result c.write_text-2.new.out) (c.as_bytes-2.ensures.bytes ∙ c.level_line.ensures) c.write_text-2.ensures)
