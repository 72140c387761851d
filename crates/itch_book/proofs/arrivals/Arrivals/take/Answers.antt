use Rattle.std.proofs.Common.{◌≡◌, ℕ, ◌<◌, ◌-◌, eqb, List, Some, refl, sym, ap, ◌∙◌, subst, arith}
use Rattle.std.specs.Map.{set_value}
use Rattle.itch_book.specs.declared.order.Order.{Order}
use Rattle.itch_book.specs.Orders.{get, lay, taken}
use Rattle.itch_book.specs.Referred.{IsAt}
use Rattle.itch_book.proofs.ArrivedSteps.{there, own_there, some_there, found_there, enough_there, cut_taken, cut_arrived, written_is, written_arrived, orders_of}
use Rattle.itch_book.proofs.SettledLemmas.{lessened}
use Rattle.itch_book.proofs.arrivals.Arrivals.take.Goals as goal

pub known-place-requires : goal.known-place-requires
known-place-requires g c = there c.args.reference _ _ _ c.self.invariant.arrived (ap orders_of c.self.view_is) (some_there _ _ c.requires)

pub overflow_sub-left : goal.overflow_sub-left
overflow_sub-left g c = enough_there _ c.args.shares _ (found_there c.args.reference _ _ _ c.known-place.result.1 c.self.invariant.arrived (ap orders_of c.self.view_is) c.known-place.ensures.order) c.requires

pub invariant_of-self : goal.invariant_of-self
invariant_of-self g c =
    record { arrived = cut_arrived c.args.reference _ _ _ c.self.invariant.arrived c.cut.ensures.entries; line = tt }

pub returns-then-left-eq0-clause-orders : goal.returns-then-left-eq0-clause-orders
returns-then-left-eq0-clause-orders g c =
    cut_taken c.args.reference c.args.shares _ _ _ c.known-place.result.1 c.self.invariant.arrived c.cut.ensures.entries c.known-place.ensures.order c.if-left-eq0.true
    ∙ ap (λ (os : List Order). lay (taken c.args.reference c.args.shares os)) (ap orders_of c.self.view_is)

pub returns-then-left-eq0-clause-left : goal.returns-then-left-eq0-clause-left
returns-then-left-eq0-clause-left g c =
    let found : get c.args.self.now.orders c.args.reference ≡ Some c.known-place.result.1.order = found_there c.args.reference _ _ _ c.known-place.result.1 c.self.invariant.arrived (ap orders_of c.self.view_is) c.known-place.ensures.order in
    rw found c.if-left-eq0.true

pub write-requires : goal.write-requires
write-requires g c =
    let own = own_there c.args.reference c.self.inside.references.entries c.known-place.result.1 c.self.invariant.arrived.keyed c.known-place.ensures.order in
    subst (λ (k : ℕ). IsAt c.self.inside.references.entries k c.known-place.result.0) (sym own) c.known-place.ensures.place

pub invariant_of-self-2 : goal.invariant_of-self-2
invariant_of-self-2 g c =
    let some : 0 < c.known-place.result.1.order.shares - c.args.shares = omega (arith, c.if-left-eq0.false) in
    let own = own_there c.args.reference c.self.inside.references.entries c.known-place.result.1 c.self.invariant.arrived.keyed c.known-place.ensures.order in
    let now : c.write.new.references.entries ≡ set_value (eqb c.args.reference) c.self.inside.references.entries (lessened c.args.shares c.known-place.result.1) =
    c.write.ensures ∙ ap (λ (k : ℕ). set_value (eqb k) c.self.inside.references.entries (lessened c.args.shares c.known-place.result.1)) own in
    record { arrived = written_arrived c.args.reference c.args.shares _ _ _ c.known-place.result.1 c.self.invariant.arrived c.known-place.ensures.order now some; line = tt }

pub returns-clause-orders : goal.returns-clause-orders
returns-clause-orders g c =
    let some : 0 < c.known-place.result.1.order.shares - c.args.shares = omega (arith, c.if-left-eq0.false) in
    let own = own_there c.args.reference c.self.inside.references.entries c.known-place.result.1 c.self.invariant.arrived.keyed c.known-place.ensures.order in
    let now : c.write.new.references.entries ≡ set_value (eqb c.args.reference) c.self.inside.references.entries (lessened c.args.shares c.known-place.result.1) =
    c.write.ensures ∙ ap (λ (k : ℕ). set_value (eqb k) c.self.inside.references.entries (lessened c.args.shares c.known-place.result.1)) own in
    written_is c.args.reference c.args.shares _ _ _ c.known-place.result.1 c.self.invariant.arrived c.known-place.ensures.order now some
    ∙ ap (λ (os : List Order). lay (taken c.args.reference c.args.shares os)) (ap orders_of c.self.view_is)

pub returns-clause-left : goal.returns-clause-left
returns-clause-left g c =
    let found : get c.args.self.now.orders c.args.reference ≡ Some c.known-place.result.1.order = found_there c.args.reference _ _ _ c.known-place.result.1 c.self.invariant.arrived (ap orders_of c.self.view_is) c.known-place.ensures.order in
    let some : 0 < c.known-place.result.1.order.shares - c.args.shares = omega (arith, c.if-left-eq0.false) in
    rw found (some, refl)
