use Rattle.std.proofs.Common.{◌+◌, drop, get_or, refl, sym, ap, ◌∙◌}
use Rattle.std.proofs.lemmas.List.{drop_more, drop_all}
use Rattle.itch_offsets.specs.Beginnings.{begin_after}
use Rattle.itch_offsets.proofs.Beginnings.{no_more, one_more}
use Rattle.itch_offsets.proofs.begin.begin_from.Goals as goal

pub loop-row-init : goal.loop-row-init
loop-row-init c = refl

pub loop-row-preserved : goal.loop-row-preserved
loop-row-preserved c =
    let rows = c.args.rows.now in
    let i = c.loop-row.row-index in
    ap (λ b. begin_after c.args.range b (drop (i + 1) rows)) c.better-best.ensures
    ∙ sym (one_more c.args.range c.loop-row.best (get_or rows i _) (drop (i + 1) rows))
    ∙ sym (ap (begin_after c.args.range c.loop-row.best) (drop_more rows i _ c.loop-row-test.true))
    ∙ c.loop-row.invariant

pub returns : goal.returns
returns c =
    sym (no_more c.args.range c.loop-row.best)
    ∙ sym (ap (begin_after c.args.range c.loop-row.best) (drop_all c.loop-row.row-index c.args.rows.now c.loop-row-test.false))
    ∙ c.loop-row.invariant
