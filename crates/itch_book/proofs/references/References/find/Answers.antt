use Rattle.std.proofs.Common.{eqb, Some, option_map, sym, ap, ◌∙◌, arith}
use Rattle.std.specs.Map.{lookup}
use Rattle.itch_book.specs.Settled.{its_order}
use Rattle.itch_book.specs.Referred.{Referred}
use Rattle.itch_book.proofs.ReferredLemmas.{within, found, missing}
use Rattle.itch_book.proofs.references.References.find.Goals as goal

pub index-requires : goal.index-requires
index-requires g c =
    let inside = within _ _ c.self.invariant.placed c.args.reference c.in-Some.place (sym c.get.ensures ∙ c.in-Some.is) in
    let long = c.self.inside.orders.ok.0 in omega arith

pub returns-in-Some : goal.returns-in-Some
returns-in-Some g c =
    ap (λ x. option_map its_order (Some x)) c.index.ensures ∙ ap (option_map its_order) (sym (found _ _ c.self.invariant.placed c.args.reference c.in-Some.place c.index.result.now (sym c.get.ensures ∙ c.in-Some.is))
    ∙ ap (λ (t : Referred). lookup (eqb c.args.reference) t.entries) c.self.view_is)

pub returns-in-None : goal.returns-in-None
returns-in-None g c =
    ap (option_map its_order) (sym (missing _ _ c.self.invariant.placed c.args.reference (sym c.get.ensures ∙ c.in-None.is)) ∙ ap (λ (t : Referred). lookup (eqb c.args.reference) t.entries) c.self.view_is)
