use Rattle.std.proofs.Common.{◌≡◌, eqb, List, [], ◌∷◌, ◌++◌, length, None, rules, sym, ap, ◌∙◌, subst, arith}
use Rattle.std.specs.Map.{lookup}
use Rattle.std.specs.List.Sorted.{IsPermutation}
use Rattle.itch_book.specs.Table.{at}
use Rattle.itch_book.specs.declared.arrived.Arrived.{Arrived}
use Rattle.itch_book.specs.Referred.{Referred, under_references, IsReferred}
use Rattle.itch_book.proofs.ReferredLemmas.{unknown, referred_same, referred_put, put_entries}
use Rattle.itch_book.proofs.references.put.Goals as goal

pub insert-requires-clause-new_key : goal.insert-requires-clause-new_key
insert-requires-clause-new_key g c =
    let k = c.args.arrived.order.reference in
    unknown _ _ c.references.invariant.placed k (ap (λ (t : Referred). lookup (eqb k) t.entries) c.references.view_is ∙ c.requires)

pub invariant_of-references-in_err-insert : goal.invariant_of-references-in_err-insert
invariant_of-references-in_err-insert g c =
    subst (λ (t : List Arrived). IsReferred c.insert.new.self t) (sym c.in_ok-reserve.ensures.items)
    (referred_same c.references.inside.places c.insert.new.self c.references.inside.orders.items c.references.invariant c.in_err-insert.ensures.err)

pub invariant_of-references-2 : goal.invariant_of-references-2
invariant_of-references-2 g c =
    let xs = c.references.inside.orders.items in let k = c.args.arrived.order.reference in
    let pushed : c.push_reserved.new.self.items ≡ xs ++ c.args.arrived ∷ [] = search rules in
    let new : at c.references.inside.places k ≡ None = unknown _ _ c.references.invariant.placed k (ap (λ (t : Referred). lookup (eqb k) t.entries) c.references.view_is ∙ c.requires) in
    let last : c.len-place.result ≡ length xs = let long = c.references.inside.orders.ok.0 in let n = c.len-place.ensures in omega arith in
    subst (λ (t : List Arrived). IsReferred c.insert.new.self t) (sym pushed)
    (referred_put c.references.inside.places c.insert.new.self xs c.args.arrived c.len-place.result c.references.invariant new last (omega (arith, c.if-place.false)) c.in_ok-insert.ensures.ok)

pub returns-clause-ok : goal.returns-clause-ok
returns-clause-ok g c =
    let xs = c.references.inside.orders.items in let x = c.args.arrived in
    let pushed : c.push_reserved.new.self.items ≡ xs ++ x ∷ [] = search rules in
    subst (λ (t : List Arrived). IsPermutation ((x.order.reference, x) ∷ c.args.references.now.entries) (under_references t)) (sym pushed)
    (subst (λ (t : Referred). IsPermutation ((x.order.reference, x) ∷ t.entries) (under_references (xs ++ x ∷ []))) c.references.view_is (put_entries xs x))
