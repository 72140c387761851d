use Rattle.std.proofs.Common.{rules, length, Some, refl, sym, ap, ◌∙◌}
use Rattle.itch_codec.specs.declared.stocks.Directory.{Directory}
use Rattle.itch_market.specs.Content.{Listing}
use Rattle.std.specs.Option.{option_copied}
use Rattle.itch_snapshot.specs.Cursor.{named}
use Rattle.itch_snapshot.proofs.Cursors.{order_given, order_leaves, locate_given, locate_leaves}
use Rattle.itch_snapshot.proofs.iter.SnapshotIterIterator.next.Goals as goal

pub invariant_of-self-in-Some-order : goal.invariant_of-self-in-Some-order
invariant_of-self-in-Some-order g c =
    order_leaves c.self.inside.market.now _ (g.met.B.OrderBook.is_book c.book-book.result.now) c.book-book.ensures.orders _ _ _ c.in-Some-order.next c.after.result
    c.self.invariant c.in-Some-order.is c.named-self-inside.ensures c.after.ensures

pub returns-in-Some-order-clause-steps : goal.returns-in-Some-order-clause-steps
returns-in-Some-order-clause-steps g c =
    sym c.self.view_is
    ∙ order_given c.self.inside.market.now _ (g.met.B.OrderBook.is_book c.book-book.result.now) c.book-book.ensures.orders _ c.self.inside.states c.next_state.new.states _ _ _ c.in-Some-order.next c.after.result
    c.self.invariant (sym c.take.ensures.value ∙ c.in_default.is) c.in_default-next_state.ensures.0 c.in_default-next_state.ensures.1
    c.in-Some-order.is c.named-self-inside.ensures c.after.ensures
    ∙ rw (c.order_message.ensures, c.take.ensures.after) refl

pub returns-in-Some-order-clause-goes : goal.returns-in-Some-order-clause-goes
returns-in-Some-order-clause-goes g c = let shorter = ap length (returns-in-Some-order-clause-steps g c) in search rules

pub invariant_of-self-2 : goal.invariant_of-self-2
invariant_of-self-2 g c =
    locate_leaves c.self.inside.market.now _ (g.met.B.OrderBook.is_book c.book-book.result.now) c.book-book.ensures.orders _ _ _ _ c.in_ok-locate.locate _ c.first.result
    c.self.invariant c.in_ok-locate.ensures c.named-self-inside-2.ensures c.first.ensures

pub returns-clause-steps : goal.returns-clause-steps
returns-clause-steps g c =
    let s = c.in_ok-security.security.now in
    let entry = ap (λ (l : Listing). l.entry) c.security-2.view_is in
    sym c.self.view_is
    ∙ locate_given c.self.inside.market.now _ (g.met.B.OrderBook.is_book c.book-book.result.now) c.book-book.ensures.orders _ c.self.inside.states (Some c.new.result) _ _ _ _ c.in_ok-locate.locate s c.first.result
    (sym c.take.ensures.value ∙ c.in_default.is) c.in_default-next_state.ensures.0
    c.in_default-order.is c.in_ok-locate.ensures (sym c.security.ensures ∙ ap option_copied c.in_ok-security.was)
    c.new.ensures
    (c.named-self-inside-2.ensures ∙ ap (λ (d : Directory). named d.stock c.first.result) entry) c.first.ensures
    ∙ rw (c.take.ensures.after, c.header_at-header-2.ensures, entry) refl

pub returns-clause-goes : goal.returns-clause-goes
returns-clause-goes g c = let shorter = ap length (returns-clause-steps g c) in search rules
