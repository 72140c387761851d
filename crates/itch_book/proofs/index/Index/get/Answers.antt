use Rattle.std.proofs.Common.{IsSome, refl, sym, ap, ◌∙◌, subst}
use Rattle.std.specs.Option.{option_copied}
use Rattle.itch_book.specs.Orders.{get}
use Rattle.itch_book.proofs.IndexSteps.{get_some, get_none}
use Rattle.itch_book.proofs.index.Index.get.Goals as goal

pub order-requires : goal.order-requires
order-requires g c = subst IsSome (sym (c.self.invariant.index.known c.args.reference c.in_ok-key.key (sym c.in_ok-key.ensures)).there) refl

pub returns-clause-order : goal.returns-clause-order
returns-clause-order g c = sym (ap (λ os. get os c.args.reference) (sym c.self.view_is) ∙ get_some _ _ _ _ c.self.invariant.index c.args.reference c.in_ok-key.key c.order.result.now (sym c.in_ok-key.ensures) c.order.ensures)

pub returns-in_err-key-clause-order : goal.returns-in_err-key-clause-order
returns-in_err-key-clause-order g c = ap option_copied c.from_residual.ensures ∙ sym (ap (λ os. get os c.args.reference) (sym c.self.view_is) ∙ get_none _ _ _ _ c.self.invariant.index c.args.reference (sym c.in_err-key.ensures))
