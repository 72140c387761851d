use Rattle.std.proofs.Common.{refl, ap, inl, inr, ◌∙◌}
use Rattle.std.proofs.lemmas.Result.{err_from_is_err_and}
use Rattle.itch_commands.specs.Choices.{Chosen}
use Rattle.itch_commands.specs.Lookup.{are_found}
use Rattle.itch_commands.proofs.show.snapshot_file.show_found.Goals as goal

pub returns-in_err-market : goal.returns-in_err-market
returns-in_err-market g c =
    let p = err_from_is_err_and c.from_residual.result c.from_residual.ensures.1 in
    rw (p.1, p.2) (inl (_, refl, c.in_err-market.ensures.reads, refl))

pub returns-in_err-write_lines : goal.returns-in_err-write_lines
returns-in_err-write_lines g c =
    let p = err_from_is_err_and c.from_residual-in_err-write_lines.result c.from_residual-in_err-write_lines.ensures.1 in
    rw (p.1, p.2) (inr ((c.in_ok-market.market, c.in_ok-market.next), c.in_ok-market.ensures.reads, c.in_err-write_lines.ensures.lines))

pub returns : goal.returns
returns g c = inr ((c.in_ok-market.market, c.in_ok-market.next), c.in_ok-market.ensures.reads, (c.has_found_all.ensures ∙ ap (λ chosen. are_found (Chosen.stocks chosen)) c.in_ok-write_lines.ensures.passed, c.in_ok-write_lines.ensures.lines))
