use Rattle.std.proofs.Common.{inl, refl, sym, ◌∙◌}
use Rattle.std.proofs.lemmas.Bool.{eqb-true}
use Rattle.itchsnap_c.proofs.PassedRows.{nothing_is}
use Rattle.itchsnap_c.proofs.rows.take.Goals as goal

pub returns-then-is_empty : goal.returns-then-is_empty
returns-then-is_empty c = (inl (nothing_is c.args.payload.now (eqb-true _ _ (sym c.is_empty.ensures ∙ c.if-is_empty.true)), refl), refl, refl)
