use Rattle.std.proofs.Common.{not, sym, ap, ◌∙◌}
use Rattle.itch_depth.specs.ChangedPrices.{is_behind}
use Rattle.itch_depth.proofs.BetterPrices.{same_levels_again, same_levels_behind}
use Rattle.itch_depth.proofs.changes.best.renew_changed.Goals as goal

pub returns-then-is_behind-clause-renewed : goal.returns-then-is_behind-clause-renewed
returns-then-is_behind-clause-renewed g c = λ orders book same was.
    let at = c.args.changed in
    was
    ∙ sym (same_levels_behind orders (g.B.OrderBook.orders c.args.book.now) at book (g.met.B.OrderBook.is_book c.args.book.now) same c.args.depth
    (ap (is_behind c.args.depth at.side at.price) (sym (c.as_slice.ensures.value ∙ was)) ∙ sym c.is_behind.ensures ∙ c.if-is_behind.true))

pub returns-then-is_behind-clause-changed : goal.returns-then-is_behind-clause-changed
returns-then-is_behind-clause-changed g c = ap not (sym (same_levels_again c.args.known.now.items))
