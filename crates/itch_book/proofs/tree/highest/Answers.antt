use Rattle.std.proofs.Common.{Some, None, sym, subst}
use Rattle.itch_codec.specs.declared.orders.Side.TheVariants.{Buy}
use Rattle.itch_book.specs.Indexed.{queue_at, IsNextOr}
use Rattle.itch_book.proofs.RangeLemmas.{span_all, span_below, last_of_range}
use Rattle.itch_book.proofs.tree.highest.Goals as goal

pub returns-in-None : goal.returns-in-None
returns-in-None g c =
    let it = last_of_range c.args.places.now c.args.locate None _ _ _ _ (c.range.ensures.in_range tt) _ (span_all c.args.locate Buy) c.next_back.ensures.steps in
    subst (λ o. IsNextOr (queue_at c.args.places.now.entries c.args.locate) Buy o c.level_of.result) (sym c.in-None.is)
    (subst (IsNextOr (queue_at c.args.places.now.entries c.args.locate) Buy None) (sym c.level_of.ensures) it)

pub returns-in-Some : goal.returns-in-Some
returns-in-Some g c =
    let it = last_of_range c.args.places.now c.args.locate (Some c.in-Some.last) _ _ _ _ (c.range-in-Some.ensures.in_range tt) _ (span_below c.args.locate c.in-Some.last) c.next_back-in-Some.ensures.steps in
    subst (λ o. IsNextOr (queue_at c.args.places.now.entries c.args.locate) Buy o c.level_of-in-Some.result) (sym c.in-Some.is)
    (subst (IsNextOr (queue_at c.args.places.now.entries c.args.locate) Buy (Some c.in-Some.last)) (sym c.level_of-in-Some.ensures) it)
