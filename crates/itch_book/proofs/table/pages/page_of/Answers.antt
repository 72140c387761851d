use Rattle.std.proofs.Common.{ℕ, List, Option, None, set, replicate, ap, ◌∙◌}
use Rattle.itch_book.proofs.table.pages.page_of.Goals as goal

pub returns-clause-links : goal.returns-clause-links
returns-clause-links c =
    ap (λ (xs : List (Option ℕ)). set xs c.args.offset c.to.result) (c.all_of-links.ensures ∙ ap (λ (t : Option ℕ). replicate 128 t) c.none.ensures)
    ∙ ap (λ (t : Option ℕ). set (replicate 128 None) c.args.offset t) c.to.ensures
