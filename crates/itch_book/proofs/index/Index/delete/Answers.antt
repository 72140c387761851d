use Rattle.std.proofs.Common.{List, IsSome, sym, ap, ◌∙◌, subst}
use Rattle.itch_book.specs.declared.order.Order.{Order}
use Rattle.itch_book.specs.Orders.{get}
use Rattle.itch_book.proofs.LiveLemmas.{live_node, live_order}
use Rattle.itch_book.proofs.index.Index.delete.Goals as goal

pub take_out-requires : goal.take_out-requires
take_out-requires g c =
    live_node _ _ _ _ c.self.invariant.index c.args.reference (subst (λ (os : List Order). IsSome (get os c.args.reference)) (sym c.self.view_is) c.requires)

pub returns-clause-order : goal.returns-clause-order
returns-clause-order g c =
    ap (λ (os : List Order). get os c.args.reference) (sym c.self.view_is)
    ∙ live_order _ _ _ _ c.self.invariant.index c.args.reference c.take_out.result (subst (λ (os : List Order). IsSome (get os c.args.reference)) (sym c.self.view_is) c.requires) c.take_out.ensures.order
