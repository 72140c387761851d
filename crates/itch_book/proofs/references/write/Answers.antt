use Rattle.std.proofs.Common.{◌≡◌, eqb, Some, refl, sym, ap, ◌∙◌, subst, arith}
use Rattle.std.specs.Map.{set_value}
use Rattle.itch_book.specs.Table.{at}
use Rattle.itch_book.specs.Referred.{Referred, IsAt}
use Rattle.itch_book.proofs.ReferredLemmas.{led_here, within, set_found, referred_written}
use Rattle.itch_book.proofs.references.write.Goals as goal

pub index_mut-requires : goal.index_mut-requires
index_mut-requires g c =
    let k = c.args.arrived.order.reference in
    let led : at c.references.inside.places k ≡ Some c.args.place = led_here _ _ c.references.invariant.placed k c.args.place (subst (λ (t : Referred). IsAt t.entries k c.args.place) (sym c.references.view_is) c.requires) in
    let inside = within _ _ c.references.invariant.placed k c.args.place led in
    let long = c.references.inside.orders.ok.0 in omega arith

pub invariant_of-references : goal.invariant_of-references
invariant_of-references g c =
    let k = c.args.arrived.order.reference in
    let led : at c.references.inside.places k ≡ Some c.args.place = led_here _ _ c.references.invariant.placed k c.args.place (subst (λ (t : Referred). IsAt t.entries k c.args.place) (sym c.references.view_is) c.requires) in
    referred_written c.references.inside.places c.references.inside.orders.items c.args.arrived c.args.place c.references.invariant led

pub returns : goal.returns
returns g c =
    let k = c.args.arrived.order.reference in
    let led : at c.references.inside.places k ≡ Some c.args.place = led_here _ _ c.references.invariant.placed k c.args.place (subst (λ (t : Referred). IsAt t.entries k c.args.place) (sym c.references.view_is) c.requires) in
    sym (set_found _ _ c.references.invariant.placed k c.args.place c.args.arrived led refl)
    ∙ ap (λ (t : Referred). set_value (eqb k) t.entries c.args.arrived) c.references.view_is
