use Rattle.std.proofs.Common.{Ok, ap, subst, ◌∙◌}
use Rattle.itch_commands.specs.Outputs.{WritesText}
use Rattle.itch_commands.proofs.JoinedTexts.{text_then}
use Rattle.itch_depth.specs.Timed.{rest, stamp}
use Rattle.itch_depth.proofs.timed.write_timed.Goals as goal

pub returns : goal.returns
returns g c =
    let contents = g.W.CountedWrite.contents in
    let failures = g.W.CountedWrite.failures in
    text_then contents failures (stamp c.args.form c.args.time) (rest c.args.form c.args.line.now) c.args.out.now c.write_text.new.out c.write_text-2.new.out c.write_text-2.result
    (subst (λ text. WritesText contents failures text c.args.out.now (Ok tt) c.write_text.new.out) (c.as_bytes.ensures.bytes ∙ c.stamp.ensures) c.in_ok-write_text.ensures)
    (subst (λ text. WritesText contents failures text c.write_text.new.out c.write_text-2.result c.write_text-2.new.out)
    (c.rest.ensures.text ∙ ap (rest c.args.form) c.as_bytes-2.ensures.bytes) c.write_text-2.ensures)
