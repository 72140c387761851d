use Rattle.std.proofs.Common.{◌≡◌, true, List, rules, ap, ◌∙◌}
use Rattle.itch_book.specs.declared.order.Order.{Order}
use Rattle.itch_book.specs.Orders.{get, lay, added, fits, IsLive}
use Rattle.itch_book.proofs.ArrivedSteps.{fresh_there, put_is, put_arrived, orders_of}
use Rattle.itch_book.proofs.arrivals.Arrivals.add.Goals as goal

pub put-stored-requires : goal.put-stored-requires
put-stored-requires g c = fresh_there c.args.order.reference _ _ _ c.self.invariant.arrived (ap orders_of c.self.view_is) c.requires.new_reference

pub invariant_of-self-2 : goal.invariant_of-self-2
invariant_of-self-2 g c =
    let fit : fits c.args.order ≡ true = search rules in
    let live : IsLive c.args.order = (c.requires.some_shares, fit) in
    record { arrived = put_arrived c.args.order _ _ _ c.self.invariant.arrived (rw c.in_ok-stored.was at c.put-stored.ensures.ok) live (ap (λ (os : List Order). get os c.args.order.reference) (ap orders_of c.self.view_is) ∙ c.requires.new_reference); line = tt }

pub returns-clause-ok : goal.returns-clause-ok
returns-clause-ok g c =
    let fit : fits c.args.order ≡ true = search rules in
    let live : IsLive c.args.order = (c.requires.some_shares, fit) in
    put_is c.args.order _ _ _ c.self.invariant.arrived (rw c.in_ok-stored.was at c.put-stored.ensures.ok) live ∙ ap (λ (os : List Order). lay (added c.args.order os)) (ap orders_of c.self.view_is)
