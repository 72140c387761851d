use Rattle.std.proofs.Common.{◌≡◌, ◌∷◌, eqb, Some, None, cond, IsSome, set, refl, sym, ap, ◌∙◌, subst, arith}
use Rattle.std.specs.Map.{lookup, remove_entry}
use Rattle.std.specs.List.Sorted.{IsPermutation}
use Rattle.itch_book.specs.Table.{at}
use Rattle.itch_book.specs.Referred.{Referred, under_references, IsAt}
use Rattle.itch_book.proofs.ReferredLemmas.{unknown, led_here, led_still, within, referred_same, referred_swapped, swapped}
use Rattle.itch_book.proofs.references.swap.Goals as goal

pub insert-requires-clause-new_key : goal.insert-requires-clause-new_key
insert-requires-clause-new_key g c =
    let k = c.args.replacement.order.reference in
    unknown _ _ c.references.invariant.placed k (ap (λ (t : Referred). lookup (eqb k) t.entries) c.references.view_is ∙ c.requires.new_reference)

pub invariant_of-references : goal.invariant_of-references
invariant_of-references g c =
    referred_same c.references.inside.places c.insert.new.self c.references.inside.orders.items c.references.invariant c.in_err-insert.ensures.err

pub remove-requires : goal.remove-requires
remove-requires g c =
    let k = c.args.old in
    let led : at c.references.inside.places k ≡ Some c.args.place = led_here _ _ c.references.invariant.placed k c.args.place (subst (λ (t : Referred). IsAt t.entries k c.args.place) (sym c.references.view_is) c.requires.place) in
    subst IsSome (sym (led_still (at c.references.inside.places) (at c.insert.new.self) k c.args.replacement.order.reference c.args.place led c.in_ok-insert.ensures.ok)) refl

pub index_mut-requires : goal.index_mut-requires
index_mut-requires g c =
    let k = c.args.old in
    let led : at c.references.inside.places k ≡ Some c.args.place = led_here _ _ c.references.invariant.placed k c.args.place (subst (λ (t : Referred). IsAt t.entries k c.args.place) (sym c.references.view_is) c.requires.place) in
    let inside = within _ _ c.references.invariant.placed k c.args.place led in
    let long = c.references.inside.orders.ok.0 in omega arith

pub invariant_of-references-2 : goal.invariant_of-references-2
invariant_of-references-2 g c =
    let k = c.args.old in let new = c.args.replacement.order.reference in
    let led : at c.references.inside.places k ≡ Some c.args.place = led_here _ _ c.references.invariant.placed k c.args.place (subst (λ (t : Referred). IsAt t.entries k c.args.place) (sym c.references.view_is) c.requires.place) in
    let fresh : at c.references.inside.places new ≡ None = unknown _ _ c.references.invariant.placed new (ap (λ (t : Referred). lookup (eqb new) t.entries) c.references.view_is ∙ c.requires.new_reference) in
    referred_swapped c.references.inside.places c.remove.new.self c.references.inside.orders.items c.args.replacement k c.args.place c.references.invariant led fresh
    (λ q. c.remove.ensures.updates q ∙ ap (λ o. cond (eqb k q) None o) (c.in_ok-insert.ensures.ok q))

pub returns-clause-ok : goal.returns-clause-ok
returns-clause-ok g c =
    let k = c.args.old in let x = c.args.replacement in
    let led : at c.references.inside.places k ≡ Some c.args.place = led_here _ _ c.references.invariant.placed k c.args.place (subst (λ (t : Referred). IsAt t.entries k c.args.place) (sym c.references.view_is) c.requires.place) in
    subst (λ (t : Referred). IsPermutation ((x.order.reference, x) ∷ remove_entry (eqb k) t.entries) (under_references (set c.references.inside.orders.items c.args.place x))) c.references.view_is
    (swapped _ _ c.references.invariant.placed k c.args.place x led)
