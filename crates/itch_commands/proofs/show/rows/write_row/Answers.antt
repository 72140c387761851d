use Rattle.std.proofs.Common.{◌≡◌, List, ℕ, ◌++◌, codes, subst, ◌∙◌}
use Rattle.itch_commands.specs.Outputs.{WritesText}
use Rattle.itch_commands.specs.Rows.{own_fields, row_start}
use Rattle.itch_commands.proofs.RowParts.{row_parts}
use Rattle.itch_commands.proofs.show.rows.write_row.Goals as goal

pub returns : goal.returns
returns g c =
    let writes : List ℕ → Type 0 = λ text. WritesText g.W.CountedWrite.contents g.W.CountedWrite.failures text c.args.out.now c.write_both.result c.write_both.new.out in
    let start : List ℕ = row_start c.args.number c.args.message.now in
    subst writes (row_parts c.args.number c.args.message.now)
    (subst (λ text. writes (start ++ text)) (c.as_bytes-2.ensures.bytes ∙ c.row_end-end.ensures)
    (subst (λ text. writes (text ++ c.as_bytes-2.result.now)) (c.as_bytes.ensures.bytes ∙ c.row_start-start.ensures) c.write_both.ensures))
