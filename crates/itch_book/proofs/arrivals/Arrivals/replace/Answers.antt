use Rattle.std.proofs.Common.{◌≡◌, true, List, Some, rules, sym, ap, ◌∙◌}
use Rattle.itch_book.specs.declared.order.Order.{Order}
use Rattle.itch_book.specs.Orders.{get, lay, added, without, replaced_by, fits, IsLive}
use Rattle.itch_book.proofs.ArrivedSteps.{there, found_there, fresh_there, orders_of}
use Rattle.itch_book.proofs.SwapLemmas.{swap_is, swap_arrived}
use Rattle.itch_book.proofs.arrivals.Arrivals.replace.Goals as goal

pub known-at-requires : goal.known-at-requires
known-at-requires g c = there c.args.original _ _ _ c.self.invariant.arrived (ap orders_of c.self.view_is) c.requires.live

pub swap-stored-requires-clause-new_reference : goal.swap-stored-requires-clause-new_reference
swap-stored-requires-clause-new_reference g c = fresh_there c.args.reference _ _ _ c.self.invariant.arrived (ap orders_of c.self.view_is) c.requires.new_reference

pub invariant_of-self-2 : goal.invariant_of-self-2
invariant_of-self-2 g c =
    let order : Order = record c.known-at.result.1.order { reference = c.args.reference; shares = c.args.shares; price = c.args.price } in
    let fit : fits order ≡ true = search rules in
    let live : IsLive order = (c.requires.some_shares, fit) in
    record { arrived = swap_arrived c.args.original order _ _ _ c.self.invariant.arrived (rw c.in_ok-stored.was at c.swap-stored.ensures.ok) live (ap (λ (os : List Order). get os c.args.reference) (ap orders_of c.self.view_is) ∙ c.requires.new_reference); line = tt }

pub returns-clause-ok : goal.returns-clause-ok
returns-clause-ok g c =
    let order : Order = record c.known-at.result.1.order { reference = c.args.reference; shares = c.args.shares; price = c.args.price } in
    let fit : fits order ≡ true = search rules in
    let live : IsLive order = (c.requires.some_shares, fit) in
    let found : get c.args.self.now.orders c.args.original ≡ Some c.known-at.result.1.order = found_there c.args.original _ _ _ c.known-at.result.1 c.self.invariant.arrived (ap orders_of c.self.view_is) c.known-at.ensures.order in
    swap_is c.args.original order _ _ _ c.self.invariant.arrived (rw c.in_ok-stored.was at c.swap-stored.ensures.ok) live
    ∙ ap (λ (os : List Order). lay (added order (without c.args.original os))) (ap orders_of c.self.view_is)
    ∙ ap (λ o. lay (replaced_by o c.args.original c.args.reference c.args.shares c.args.price c.args.self.now.orders)) (sym found)
