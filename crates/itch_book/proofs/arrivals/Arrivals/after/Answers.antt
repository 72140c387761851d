use Rattle.std.proofs.Common.{◌≡◌, List, sym, ap, ◌∙◌}
use Rattle.std.specs.Option.{option_copied}
use Rattle.std.specs.Map.{values_of}
use Rattle.itch_book.specs.declared.order.Order.{Order}
use Rattle.itch_book.specs.declared.arrived.Arrived.{Arrived}
use Rattle.itch_book.specs.Orders.{after}
use Rattle.itch_book.proofs.ArrivedSteps.{there, orders_of}
use Rattle.itch_book.proofs.LeastLemmas.{after_is, line_in_order}
use Rattle.itch_book.proofs.NextLemmas.{within, after_in_line}
use Rattle.itch_book.proofs.arrivals.Arrivals.after.Goals as goal

pub next_in_line-requires-clause-order : goal.next_in_line-requires-clause-order
next_in_line-requires-clause-order g c =
    line_in_order (values_of c.self.inside.references.entries) _ _ c.self.invariant.line (sym c.line_if-line.ensures ∙ ap option_copied c.in-Some.is)

pub next_in_line-requires-clause-within : goal.next_in_line-requires-clause-within
next_in_line-requires-clause-within g c = within (λ (x : Arrived). x.order.reference ≡ c.args.reference) c.args.place _ (c.stands_at.ensures.0 c.if-stands_at.true)

pub returns-then-stands_at : goal.returns-then-stands_at
returns-then-stands_at g c =
    after_in_line c.args.reference c.args.place _ _ _ _ _ c.self.invariant.arrived c.self.invariant.line (sym c.line_if-line.ensures ∙ ap option_copied c.in-Some.is)
    (c.stands_at.ensures.0 c.if-stands_at.true) c.next_in_line.ensures
    ∙ ap (λ (os : List Order). after os c.args.reference) (ap orders_of c.self.view_is)

pub known-this-requires : goal.known-this-requires
known-this-requires g c = there c.args.reference _ _ _ c.self.invariant.arrived (ap orders_of c.self.view_is) c.requires

pub returns : goal.returns
returns g c =
    c.sought.ensures
    ∙ after_is c.args.reference _ _ c.known-this.result.1 c.self.invariant.arrived c.known-this.ensures.order
    ∙ ap (λ (os : List Order). after os c.args.reference) (ap orders_of c.self.view_is)
