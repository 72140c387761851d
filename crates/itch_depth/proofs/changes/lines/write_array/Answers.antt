use Rattle.std.proofs.Common.{Ok, Err, ℕ, ◌-◌, List, length, take, drop, flat_map, get_or, subst, sym, ◌∙◌}
use Rattle.std.proofs.lemmas.Result.{err_from_is_err_and}
use Rattle.itch_commands.specs.Outputs.{WritesText}
use Rattle.itch_commands.proofs.JoinedTexts.{text_fails, text_then}
use Rattle.itch_depth.specs.Changes.{json_level, next_level}
use Rattle.itch_depth.specs.declared.changes.best.DepthLevel.{DepthLevel}
use Rattle.itch_depth.proofs.JsonArrays.{json_parts}
use Rattle.itch_depth.proofs.changes.lines.write_array.Goals as goal

-- stands for the price that is not there
abbrev no_level : DepthLevel
no_level = record { price = 0; shares = 0; orders = 0 }

pub returns-in_err-write_text : goal.returns-in_err-write_text
returns-in_err-write_text g c =
    let p = err_from_is_err_and c.from_residual.result c.from_residual.ensures.1 in
    let contents = g.W.CountedWrite.contents in
    let failures = g.W.CountedWrite.failures in
    let levels = c.args.levels.now in
    let first : List ℕ = json_level (get_or levels 0 no_level) in
    let rest : List ℕ = flat_map next_level (take (length levels - 1) (drop 1 levels)) in
    let fault = c.in_err-write_text.field-0.0 in
    rw (p.1, p.2) (subst (λ text. WritesText contents failures text c.args.out.now (Err fault) c.write_text.new.out) (sym (json_parts levels no_level c.in-len1-up.len_at_least))
    (text_fails contents failures first rest c.args.out.now c.write_text.new.out fault
    (subst (λ text. WritesText contents failures text c.args.out.now (Err fault) c.write_text.new.out) (c.as_bytes.ensures.bytes ∙ c.json_level.ensures.text) c.in_err-write_text.ensures)))

pub returns : goal.returns
returns g c =
    let contents = g.W.CountedWrite.contents in
    let failures = g.W.CountedWrite.failures in
    let levels = c.args.levels.now in
    let first : List ℕ = json_level (get_or levels 0 no_level) in
    let rest : List ℕ = flat_map next_level (take (length levels - 1) (drop 1 levels)) in
    subst (λ text. WritesText contents failures text c.args.out.now c.write_rest.result c.write_rest.new.out) (sym (json_parts levels no_level c.in-len1-up.len_at_least))
    (text_then contents failures first rest c.args.out.now c.write_text.new.out c.write_rest.new.out c.write_rest.result
    (subst (λ text. WritesText contents failures text c.args.out.now (Ok tt) c.write_text.new.out) (c.as_bytes.ensures.bytes ∙ c.json_level.ensures.text) c.in_ok-write_text.ensures)
    c.write_rest.ensures)
