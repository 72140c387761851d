use Rattle.std.proofs.Common.{ℕ, List, ◌++◌, Ok, Err, subst, ◌∙◌}
use Rattle.std.proofs.lemmas.Result.{err_from_is_err_and}
use Rattle.itch_commands.specs.Infos.{market_text, size_text, times_text}
use Rattle.itch_commands.specs.Outputs.{WritesText}
use Rattle.itch_commands.proofs.JoinedTexts.{text_then, text_fails}
use Rattle.itch_commands.proofs.info.writing.write_head.Goals as goal

pub returns-in_err-write_text-2 : goal.returns-in_err-write_text-2
returns-in_err-write_text-2 g c =
    let p = err_from_is_err_and c.from_residual-in_err-write_text-2.result c.from_residual-in_err-write_text-2.ensures.1 in
    let contents = g.W.CountedWrite.contents in
    let failures = g.W.CountedWrite.failures in
    let sizes : List ℕ = size_text c.args.form c.args.summary.now in
    let times : List ℕ = times_text c.args.form c.args.summary.now in
    let market : List ℕ = market_text c.args.form c.args.summary.now in
    rw (p.1, p.2) (text_then contents failures sizes (times ++ market) c.args.out.now c.write_text.new.out c.write_text-2.new.out (Err c.in_err-write_text-2.field-0.0)
    (subst (λ text. WritesText contents failures text c.args.out.now (Ok tt) c.write_text.new.out) (c.as_bytes.ensures.bytes ∙ c.size_text.ensures) c.in_ok-write_text.ensures)
    (text_fails contents failures times market c.write_text.new.out c.write_text-2.new.out c.in_err-write_text-2.field-0.0
    (subst (λ text. WritesText contents failures text c.write_text.new.out (Err c.in_err-write_text-2.field-0.0) c.write_text-2.new.out) (c.as_bytes-2.ensures.bytes ∙ c.times_text.ensures) c.in_err-write_text-2.ensures)))

pub returns : goal.returns
returns g c =
    let contents = g.W.CountedWrite.contents in
    let failures = g.W.CountedWrite.failures in
    let sizes : List ℕ = size_text c.args.form c.args.summary.now in
    let times : List ℕ = times_text c.args.form c.args.summary.now in
    let market : List ℕ = market_text c.args.form c.args.summary.now in
    text_then contents failures sizes (times ++ market) c.args.out.now c.write_text.new.out c.write_text-3.new.out c.write_text-3.result
    (subst (λ text. WritesText contents failures text c.args.out.now (Ok tt) c.write_text.new.out) (c.as_bytes.ensures.bytes ∙ c.size_text.ensures) c.in_ok-write_text.ensures)
    (text_then contents failures times market c.write_text.new.out c.write_text-2.new.out c.write_text-3.new.out c.write_text-3.result
    (subst (λ text. WritesText contents failures text c.write_text.new.out (Ok tt) c.write_text-2.new.out) (c.as_bytes-2.ensures.bytes ∙ c.times_text.ensures) c.in_ok-write_text-2.ensures)
    (subst (λ text. WritesText contents failures text c.write_text-2.new.out c.write_text-3.result c.write_text-3.new.out) (c.as_bytes-3.ensures.bytes ∙ c.market_text.ensures) c.write_text-3.ensures))
