use Rattle.std.proofs.Common.{◌≡◌, ◌≢◌, ℕ, ◌<◌, ◌+◌, ◌-◌, eqb, List, length, get_or, Some, IsSome, sym, ap, ◌∙◌, subst, arith}
use Rattle.std.specs.Map.{lookup, remove_entry}
use Rattle.std.specs.List.Sorted.{IsPermutation}
use Rattle.itch_book.specs.declared.arrived.Arrived.{Arrived}
use Rattle.itch_book.specs.Referred.{Referred, under_references}
use Rattle.itch_book.proofs.ReferredLemmas.{led, within, found, removed, last_referred, moved_known, moved_referred}
use Rattle.itch_book.proofs.references.cut.Goals as goal

pub remove-place-requires : goal.remove-place-requires
remove-place-requires g c =
    let k = c.args.reference in
    led _ _ c.references.invariant.placed k (subst (λ (t : Referred). IsSome (lookup (eqb k) t.entries)) (sym c.references.view_is) c.requires)

pub swap_remove-arrived-requires : goal.swap_remove-arrived-requires
swap_remove-arrived-requires g c =
    let inside = within _ _ c.references.invariant.placed c.args.reference c.remove-place.result c.remove-place.ensures.link in
    let long = c.references.inside.orders.ok.0 in omega arith

pub set-requires-clause-known : goal.set-requires-clause-known
set-requires-clause-known g c =
    let long = c.references.inside.orders.ok.0 in let left = c.swap_remove-arrived.new.self.ok.0 in let n = c.swap_remove-arrived.ensures.len in let m = c.len.ensures in
    let shorter : length c.swap_remove-arrived.new.self.items + 1 ≡ length c.references.inside.orders.items = omega arith in
    let others : (j : ℕ) (d : Arrived) → j ≢ c.remove-place.result → j + 1 < length c.references.inside.orders.items → get_or c.swap_remove-arrived.new.self.items j d ≡ get_or c.references.inside.orders.items j d =
    λ j d ne l. c.swap_remove-arrived.ensures.by_index.1 j d ne (omega arith) in
    let inner : c.remove-place.result + 1 < length c.references.inside.orders.items = let t = c.if-place-len.true in omega arith in
    let came : (d : Arrived) → get_or c.swap_remove-arrived.new.self.items c.remove-place.result d ≡ get_or c.references.inside.orders.items (length c.references.inside.orders.items - 1) d =
    λ d. c.swap_remove-arrived.ensures.by_index.0 d (omega arith) ∙ ap (λ k. get_or c.references.inside.orders.items (k - 1) d) long in
    moved_known c.references.inside.places c.remove-place.new.self c.references.inside.orders.items c.swap_remove-arrived.new.self.items c.args.reference c.remove-place.result c.swap_remove-arrived.result
    c.references.invariant c.remove-place.ensures.link c.remove-place.ensures.updates shorter others
    inner came c.index.result.now c.index.ensures

pub invariant_of-references : goal.invariant_of-references
invariant_of-references g c =
    let long = c.references.inside.orders.ok.0 in let left = c.swap_remove-arrived.new.self.ok.0 in let n = c.swap_remove-arrived.ensures.len in let m = c.len.ensures in
    let shorter : length c.swap_remove-arrived.new.self.items + 1 ≡ length c.references.inside.orders.items = omega arith in
    let others : (j : ℕ) (d : Arrived) → j ≢ c.remove-place.result → j + 1 < length c.references.inside.orders.items → get_or c.swap_remove-arrived.new.self.items j d ≡ get_or c.references.inside.orders.items j d =
    λ j d ne l. c.swap_remove-arrived.ensures.by_index.1 j d ne (omega arith) in
    let inner : c.remove-place.result + 1 < length c.references.inside.orders.items = let t = c.if-place-len.true in omega arith in
    let came : (d : Arrived) → get_or c.swap_remove-arrived.new.self.items c.remove-place.result d ≡ get_or c.references.inside.orders.items (length c.references.inside.orders.items - 1) d =
    λ d. c.swap_remove-arrived.ensures.by_index.0 d (omega arith) ∙ ap (λ k. get_or c.references.inside.orders.items (k - 1) d) long in
    moved_referred c.references.inside.places c.remove-place.new.self c.references.inside.orders.items c.swap_remove-arrived.new.self.items c.args.reference c.remove-place.result c.swap_remove-arrived.result
    c.references.invariant c.remove-place.ensures.link c.remove-place.ensures.updates shorter others
    inner came c.index.result.now c.index.ensures c.set.new.self c.set.ensures

pub invariant_of-references-else-place-len : goal.invariant_of-references-else-place-len
invariant_of-references-else-place-len g c =
    let inside = within _ _ c.references.invariant.placed c.args.reference c.remove-place.result c.remove-place.ensures.link in
    let long = c.references.inside.orders.ok.0 in let left = c.swap_remove-arrived.new.self.ok.0 in let n = c.swap_remove-arrived.ensures.len in let m = c.len.ensures in
    let shorter : length c.swap_remove-arrived.new.self.items + 1 ≡ length c.references.inside.orders.items = omega arith in
    let others : (j : ℕ) (d : Arrived) → j ≢ c.remove-place.result → j + 1 < length c.references.inside.orders.items → get_or c.swap_remove-arrived.new.self.items j d ≡ get_or c.references.inside.orders.items j d =
    λ j d ne l. c.swap_remove-arrived.ensures.by_index.1 j d ne (omega arith) in
    let last : c.remove-place.result + 1 ≡ length c.references.inside.orders.items = omega (arith, c.if-place-len.false) in
    last_referred c.references.inside.places c.remove-place.new.self c.references.inside.orders.items c.swap_remove-arrived.new.self.items c.args.reference c.remove-place.result c.swap_remove-arrived.result
    c.references.invariant c.remove-place.ensures.link c.remove-place.ensures.updates shorter others last

pub returns-then-place-len-clause-found : goal.returns-then-place-len-clause-found
returns-then-place-len-clause-found g c =
    let k = c.args.reference in
    sym (ap (λ (t : Referred). lookup (eqb k) t.entries) c.references.view_is) ∙ found _ _ c.references.invariant.placed k c.remove-place.result c.swap_remove-arrived.result c.remove-place.ensures.link
    ∙ ap (λ x. Some x) (sym c.swap_remove-arrived.ensures.value)

pub returns-then-place-len-clause-entries : goal.returns-then-place-len-clause-entries
returns-then-place-len-clause-entries g c =
    let k = c.args.reference in let xs = c.references.inside.orders.items in
    subst (λ (t : Referred). IsPermutation (remove_entry (eqb k) t.entries) (under_references c.swap_remove-arrived.new.self.items)) c.references.view_is
    (subst (λ (t : List Arrived). IsPermutation (remove_entry (eqb k) (under_references xs)) (under_references t)) (sym c.swap_remove-arrived.ensures.items)
    (removed _ _ c.references.invariant.placed k c.remove-place.result c.swap_remove-arrived.result c.remove-place.ensures.link))

pub returns-else-place-len-clause-found : goal.returns-else-place-len-clause-found
returns-else-place-len-clause-found g c =
    let k = c.args.reference in
    sym (ap (λ (t : Referred). lookup (eqb k) t.entries) c.references.view_is) ∙ found _ _ c.references.invariant.placed k c.remove-place.result c.swap_remove-arrived.result c.remove-place.ensures.link
    ∙ ap (λ x. Some x) (sym c.swap_remove-arrived.ensures.value)

pub returns-else-place-len-clause-entries : goal.returns-else-place-len-clause-entries
returns-else-place-len-clause-entries g c =
    let k = c.args.reference in let xs = c.references.inside.orders.items in
    subst (λ (t : Referred). IsPermutation (remove_entry (eqb k) t.entries) (under_references c.swap_remove-arrived.new.self.items)) c.references.view_is
    (subst (λ (t : List Arrived). IsPermutation (remove_entry (eqb k) (under_references xs)) (under_references t)) (sym c.swap_remove-arrived.ensures.items)
    (removed _ _ c.references.invariant.placed k c.remove-place.result c.swap_remove-arrived.result c.remove-place.ensures.link))
