use Rattle.std.proofs.Common.{◌≡◌, eqb, Some, sym, ap, ◌∙◌, subst, arith}
use Rattle.std.specs.Map.{lookup}
use Rattle.itch_book.specs.Table.{at}
use Rattle.itch_book.specs.Referred.{Referred, IsAt}
use Rattle.itch_book.proofs.ReferredLemmas.{led_here, within, found}
use Rattle.itch_book.proofs.references.known.Goals as goal

pub index-requires : goal.index-requires
index-requires g c =
    let k = c.args.reference in let i = c.place_of-place.result in
    let led : at c.references.inside.places k ≡ Some i = led_here _ _ c.references.invariant.placed k i (subst (λ (t : Referred). IsAt t.entries k i) (sym c.references.view_is) c.place_of-place.ensures) in
    let inside = within _ _ c.references.invariant.placed k i led in
    let long = c.references.inside.orders.ok.0 in omega arith

pub returns-clause-order : goal.returns-clause-order
returns-clause-order g c =
    let k = c.args.reference in let i = c.place_of-place.result in
    let led : at c.references.inside.places k ≡ Some i = led_here _ _ c.references.invariant.placed k i (subst (λ (t : Referred). IsAt t.entries k i) (sym c.references.view_is) c.place_of-place.ensures) in
    sym (ap (λ (t : Referred). lookup (eqb k) t.entries) c.references.view_is)
    ∙ found _ _ c.references.invariant.placed k i c.index.result.now led
    ∙ ap (λ x. Some x) (sym c.index.ensures)
