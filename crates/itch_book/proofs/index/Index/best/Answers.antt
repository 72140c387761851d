use Rattle.std.proofs.Common.{List, find, None, option_map, sym, ap, ◌∙◌}
use Rattle.itch_book.specs.declared.order.Order.{Order}
use Rattle.itch_book.specs.declared.order.Placed.{Placed}
use Rattle.itch_book.specs.Orders.{is_of}
use Rattle.itch_book.specs.Queued.{keys_at}
use Rattle.itch_book.specs.Indexed.{has_keys}
use Rattle.itch_book.proofs.FrontLemmas.{next_level_some, next_level_none, next_all}
use Rattle.itch_book.proofs.Lists.{some_of}
use Rattle.itch_book.proofs.index.Index.best.Goals as goal

pub returns-clause-front : goal.returns-clause-front
returns-clause-front g c =
    let l = c.args.locate in let s = c.args.side in let q = c.in_ok-_price.queue in
    let next = c.in_ok-_price.ensures in
    let keys = some_of (keys_at c.self.inside.queues q) (c.self.invariant.index.there s l c.in_ok-_price._price q next.here) in
    let has = sym (ap has_keys keys.1) ∙ c.self.invariant.busy s l c.in_ok-_price._price q next.here in
    c.head_of.ensures keys.0 keys.1
    ∙ sym (sym (next_all l s _) ∙ (next_level_some _ _ _ _ c.self.invariant.index l s None (c.in_ok-_price._price, q) keys.0 next keys.1 has).0)
    ∙ ap (λ (os : List Order). find (is_of l s) os) c.self.view_is

pub returns-in_err-_price-clause-front : goal.returns-in_err-_price-clause-front
returns-in_err-_price-clause-front g c =
    let l = c.args.locate in let s = c.args.side in
    ap (option_map (λ (p : Placed). p.order.now)) c.from_residual.ensures ∙ sym (sym (next_all l s _) ∙ next_level_none _ _ _ _ c.self.invariant.index l s None c.in_err-_price.ensures)
    ∙ ap (λ (os : List Order). find (is_of l s) os) c.self.view_is
