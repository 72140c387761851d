use Rattle.std.proofs.Common.{◌≡◌, eqb, IsSome, IsSomeAnd, List, slice_get, sym, ◌∙◌, subst}
use Rattle.std.specs.Map.{lookup}
use Rattle.itch_book.specs.declared.arrived.Arrived.{Arrived}
use Rattle.itch_book.specs.Referred.{Referred, IsAt}
use Rattle.itch_book.proofs.ReferredLemmas.{led, leads_here, stands_here}
use Rattle.itch_book.proofs.references.place_of.Goals as goal

pub returns-then-stands_at : goal.returns-then-stands_at
returns-then-stands_at g c =
    subst (λ (t : Referred). IsAt t.entries c.args.reference c.args.place) c.references.view_is
    (stands_here c.args.reference c.args.place c.references.inside.orders.items
    (subst (λ (xs : List Arrived). IsSomeAnd (slice_get xs c.args.place) (λ x. x.order.reference ≡ c.args.reference)) c.deref.ensures.value (c.stands_at.ensures.0 c.if-stands_at.true)))

pub unwrap-requires : goal.unwrap-requires
unwrap-requires g c =
    let k = c.args.reference in
    subst (λ o. IsSome o) (sym c.get.ensures) (led _ _ c.references.invariant.placed k (subst (λ (t : Referred). IsSome (lookup (eqb k) t.entries)) (sym c.references.view_is) c.requires))

pub returns : goal.returns
returns g c =
    subst (λ (t : Referred). IsAt t.entries c.args.reference c.unwrap.result) c.references.view_is
    (leads_here _ _ c.references.invariant.placed c.args.reference c.unwrap.result (sym c.get.ensures ∙ c.unwrap.ensures))
