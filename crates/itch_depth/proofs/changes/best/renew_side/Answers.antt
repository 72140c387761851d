use Rattle.std.proofs.Common.{◌≡◌, ◌≤◌, ◌⊎◌, ◌||◌, nat_lt, not, inl, inr, None, refl, sym, ap, subst, ◌∙◌, arith}
use Rattle.itch_book.specs.Orders.{next_price}
use Rattle.itch_depth.specs.Changes.{same_levels}
use Rattle.itch_depth.proofs.LookedAt.{LookedAt, all_known, any_other, level_there, none_looked_at, now_known, one_looked_at}
use Rattle.itch_depth.proofs.changes.best.renew_side.Goals.{else-loop-place-test, then-loop-place-test+in_default}
use Rattle.itch_depth.proofs.changes.best.renew_side.Goals as goal

pub loop-place-init : goal.loop-place-init
loop-place-init g c = record {
  at = refl;
  most = omega arith;
  looked = none_looked_at (g.B.OrderBook.orders c.args.book.now) c.args.locate c.args.side c.args.known.now.items;
}

pub loop-place-preserved : goal.loop-place-preserved
loop-place-preserved g c =
    let orders = g.B.OrderBook.orders c.args.book.now in
    let so_far = c.loop-place.invariant in
    let old = c.args.known.now.items in
    let looked = subst (λ n. LookedAt orders c.args.locate c.args.side old n c.loop-place.last c.loop-place.known.items c.loop-place.changed) so_far.at so_far.looked in
    record {
      at = refl;
      most = omega (arith, c.loop-place-test.true);
      looked = one_looked_at orders c.args.locate c.args.side old c.loop-place.place c.loop-place.last c.loop-place.known.items c.loop-place.changed (g.met.B.OrderBook.is_book c.args.book.now) looked
          c.in-Some.price _ c.put_level.new.levels.items c.in_ok-changed.field-0 (sym c.in-Some.ensures)
          (level_there orders c.args.locate c.args.side c.in-Some.price c.level_total-shares.result c.level_total-shares.ensures) c.in_ok-changed.ensures.put c.in_ok-changed.ensures.other;
    }

pub returns-clause-renewed : goal.returns-clause-renewed
returns-clause-renewed g c =
    let orders = g.B.OrderBook.orders c.args.book.now in
    let so_far = c.loop-place.invariant in
    let old = c.args.known.now.items in
    let book = g.met.B.OrderBook.is_book c.args.book.now in
    let over : (c.loop-place.count ≡ c.args.depth) ⊎ ((c.loop-place.count ≤ c.args.depth) × (next_price orders c.args.locate c.args.side c.loop-place.last ≡ None)) =
    elim c.loop-place-test.branch [
      | else-loop-place-test w ↦ inl (omega (arith, so_far.at, so_far.most, w.loop-place-test.false))
      | then-loop-place-test+in_default w ↦ inr (omega (arith, so_far.at, so_far.most), sym w.next_price.ensures ∙ w.in_default.is)
    ] in
    c.truncate.ensures.items
    ∙ now_known orders c.args.locate c.args.side old c.loop-place.count c.loop-place.last c.loop-place.known.items c.loop-place.changed book so_far.looked
    ∙ all_known orders c.args.locate c.args.side old c.loop-place.count c.loop-place.last c.loop-place.known.items c.loop-place.changed book so_far.looked c.args.depth over

pub returns-clause-changed : goal.returns-clause-changed
returns-clause-changed g c =
    let orders = g.B.OrderBook.orders c.args.book.now in
    let so_far = c.loop-place.invariant in
    let old = c.args.known.now.items in
    let book = g.met.B.OrderBook.is_book c.args.book.now in
    ap (λ n. c.loop-place.changed || nat_lt c.loop-place.count n) (c.len.ensures ∙ c.loop-place.known.ok.0)
    ∙ any_other orders c.args.locate c.args.side old c.loop-place.count c.loop-place.last c.loop-place.known.items c.loop-place.changed book so_far.looked
    ∙ ap (λ now. not (same_levels old now))
    (sym (c.truncate.ensures.items ∙ now_known orders c.args.locate c.args.side old c.loop-place.count c.loop-place.last c.loop-place.known.items c.loop-place.changed book so_far.looked))
