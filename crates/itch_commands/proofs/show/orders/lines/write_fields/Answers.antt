use Rattle.std.proofs.Common.{◌≡◌, List, ℕ, ◌++◌, Ok, Err, subst, ◌∙◌}
use Rattle.std.proofs.lemmas.Result.{err_from_is_err_and}
use Rattle.itch_commands.specs.OrderForms.{message_columns, order_fields, own_columns}
use Rattle.itch_commands.specs.Outputs.{WritesText}
use Rattle.itch_commands.proofs.JoinedTexts.{text_then, text_fails}
use Rattle.itch_commands.proofs.show.orders.lines.write_fields.Goals as goal

pub returns-in_err-write_text : goal.returns-in_err-write_text
returns-in_err-write_text g c =
    let p = err_from_is_err_and c.from_residual.result c.from_residual.ensures.1 in
    let contents = g.W.CountedWrite.contents in
    let failures = g.W.CountedWrite.failures in
    let first : List ℕ = message_columns c.args.number c.args.message.now in
    let others : List ℕ = order_fields c.args.behind.now ++ own_columns c.args.message.now in
    rw (p.1, p.2) (text_fails contents failures first others c.args.out.now c.write_text.new.out c.in_err-write_text.field-0.0
    (subst (λ text. WritesText contents failures text c.args.out.now (Err c.in_err-write_text.field-0.0) c.write_text.new.out) (c.as_bytes.ensures.bytes ∙ c.message_columns-first.ensures)
    c.in_err-write_text.ensures))

pub returns : goal.returns
returns g c =
    let contents = g.W.CountedWrite.contents in
    let failures = g.W.CountedWrite.failures in
    let first : List ℕ = message_columns c.args.number c.args.message.now in
    let fields : List ℕ = order_fields c.args.behind.now in
    let own : List ℕ = own_columns c.args.message.now in
    text_then contents failures first (fields ++ own) c.args.out.now c.write_text.new.out c.write_both.new.out c.write_both.result
    (subst (λ text. WritesText contents failures text c.args.out.now (Ok tt) c.write_text.new.out) (c.as_bytes.ensures.bytes ∙ c.message_columns-first.ensures) c.in_ok-write_text.ensures)
    (subst (λ text. WritesText contents failures (fields ++ text) c.write_text.new.out c.write_both.result c.write_both.new.out) (c.as_bytes-3.ensures.bytes ∙ c.own_columns-own.ensures)
    (subst (λ text. WritesText contents failures (text ++ c.as_bytes-3.result.now) c.write_text.new.out c.write_both.result c.write_both.new.out) (c.as_bytes-2.ensures.bytes ∙ c.order_fields-fields.ensures)
    c.write_both.ensures))
