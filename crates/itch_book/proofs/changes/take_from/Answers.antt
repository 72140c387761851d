use Rattle.std.proofs.Common.{◌<◌, ◌-◌, IsSome, IsSomeAnd, Option, None, Some, arith, refl, subst, sym, ◌∙◌}
use Rattle.itch_book.specs.declared.order.Order.{Order}
use Rattle.itch_book.specs.Orders.{IsBook}
use Rattle.itch_book.proofs.BookLemmas.{IsBook-taken}
use Rattle.itch_book.proofs.PlaceLemmas.{found_there, gone_there, left_there}
use Rattle.itch_book.proofs.changes.take_from.Goals as goal

live : (o : Option Order) (P : Order → Type 0) → IsSomeAnd o P → IsSome o
live None P h = absurd h
live (Some x) P h = refl

pub overflow_sub-left : goal.overflow_sub-left
overflow_sub-left g c =
    let found = found_there c.args.reference c.args.orders.now.items c.deref.result.now c.index_of-index.result c.index.result.now (live _ _ c.requires.enough) c.deref.ensures.value c.index_of-index.ensures.place c.index.ensures in
    rw found at c.requires.enough

pub returns-then-left-eq0-clause-book : goal.returns-then-left-eq0-clause-book
returns-then-left-eq0-clause-book g c =
    let orders = c.args.orders.now.items in
    let book = c.requires.book in
    let found = found_there c.args.reference orders c.deref.result.now c.index_of-index.result c.index.result.now (live _ _ c.requires.enough) c.deref.ensures.value c.index_of-index.ensures.place c.index.ensures in
    let gone = gone_there c.args.reference c.args.shares orders c.deref.result.now c.index_of-index.result c.index.result.now book found c.deref.ensures.value c.index_of-index.ensures.place c.if-left-eq0.true in
    subst IsBook (sym (c.remove.ensures.items ∙ gone)) (IsBook-taken c.args.reference c.args.shares orders book)

pub returns-then-left-eq0-clause-orders : goal.returns-then-left-eq0-clause-orders
returns-then-left-eq0-clause-orders g c =
    let orders = c.args.orders.now.items in
    let found = found_there c.args.reference orders c.deref.result.now c.index_of-index.result c.index.result.now (live _ _ c.requires.enough) c.deref.ensures.value c.index_of-index.ensures.place c.index.ensures in
    c.remove.ensures.items
    ∙ gone_there c.args.reference c.args.shares orders c.deref.result.now c.index_of-index.result c.index.result.now c.requires.book found c.deref.ensures.value c.index_of-index.ensures.place c.if-left-eq0.true

pub returns-then-left-eq0-clause-left : goal.returns-then-left-eq0-clause-left
returns-then-left-eq0-clause-left g c =
    let found = found_there c.args.reference c.args.orders.now.items c.deref.result.now c.index_of-index.result c.index.result.now (live _ _ c.requires.enough) c.deref.ensures.value c.index_of-index.ensures.place c.index.ensures in
    rw found c.if-left-eq0.true

pub returns-clause-book : goal.returns-clause-book
returns-clause-book g c =
    let orders = c.args.orders.now.items in
    let book = c.requires.book in
    let found = found_there c.args.reference orders c.deref.result.now c.index_of-index.result c.index.result.now (live _ _ c.requires.enough) c.deref.ensures.value c.index_of-index.ensures.place c.index.ensures in
    let some : 0 < c.index.result.now.shares - c.args.shares = omega (arith, c.if-left-eq0.false) in
    let left = left_there c.args.reference c.args.shares orders c.deref.result.now c.index_of-index.result c.index.result.now c.index_mut.result.now book found c.deref.ensures.value c.index_of-index.ensures.place c.index_mut.ensures.value some in
    subst IsBook (sym left) (IsBook-taken c.args.reference c.args.shares orders book)

pub returns-clause-orders : goal.returns-clause-orders
returns-clause-orders g c =
    let orders = c.args.orders.now.items in
    let found = found_there c.args.reference orders c.deref.result.now c.index_of-index.result c.index.result.now (live _ _ c.requires.enough) c.deref.ensures.value c.index_of-index.ensures.place c.index.ensures in
    let some : 0 < c.index.result.now.shares - c.args.shares = omega (arith, c.if-left-eq0.false) in
    left_there c.args.reference c.args.shares orders c.deref.result.now c.index_of-index.result c.index.result.now c.index_mut.result.now c.requires.book found c.deref.ensures.value c.index_of-index.ensures.place c.index_mut.ensures.value some

pub returns-clause-left : goal.returns-clause-left
returns-clause-left g c =
    let found = found_there c.args.reference c.args.orders.now.items c.deref.result.now c.index_of-index.result c.index.result.now (live _ _ c.requires.enough) c.deref.ensures.value c.index_of-index.ensures.place c.index.ensures in
    let some : 0 < c.index.result.now.shares - c.args.shares = omega (arith, c.if-left-eq0.false) in
    rw found (some, refl)
