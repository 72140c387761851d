use Rattle.std.proofs.Common.{◌≡◌, true, rules, is_ok, insert, subst, sym, ◌∙◌}
use Rattle.std.proofs.lemmas.Bool.{cond_both}
use Rattle.itch_book.specs.Orders.{IsBook, fits}
use Rattle.itch_book.proofs.BookLemmas.{IsBook-added}
use Rattle.itch_book.proofs.PlaceLemmas.{put_there}
use Rattle.itch_book.proofs.changes.put_in.Goals as goal

pub returns-clause-ok : goal.returns-clause-ok
returns-clause-ok g c =
    let h : fits c.args.order ≡ true = search rules in
    c.in_ok-insert.ensures.items
    ∙ put_there c.args.order c.args.orders.now.items c.deref.result.now c.place_of-place.result c.requires.book h c.deref.ensures.value c.place_of-place.ensures.place

pub returns-clause-book : goal.returns-clause-book
returns-clause-book g c =
    let orders = c.args.orders.now.items in
    let order = c.args.order in
    let book = c.requires.book in
    let h : fits order ≡ true = search rules in
    let there = put_there order orders c.deref.result.now c.place_of-place.result book h c.deref.ensures.value c.place_of-place.ensures.place in
    subst IsBook (sym c.insert.ensures.items) (cond_both (is_ok c.insert.result) (insert orders c.place_of-place.result order) orders IsBook
    (λ e. subst IsBook (sym there) (IsBook-added order orders book (c.requires.some_shares, h) c.requires.new_reference))
    (λ e. book))
