use Rattle.std.proofs.Common.{List, option_map, sym, ap, ◌∙◌}
use Rattle.itch_book.specs.declared.order.Order.{Order}
use Rattle.itch_book.specs.Orders.{next_price}
use Rattle.itch_book.specs.Queued.{keys_at}
use Rattle.itch_book.specs.Indexed.{has_keys}
use Rattle.itch_book.proofs.FrontLemmas.{next_level_some, next_level_none}
use Rattle.itch_book.proofs.Lists.{some_of}
use Rattle.itch_book.proofs.index.Index.next_price.Goals as goal

pub returns : goal.returns
returns g c =
    let l = c.args.locate in let s = c.args.side in let q = c.in_ok-price._queue in
    let next = c.in_ok-price.ensures in
    let keys = some_of (keys_at c.self.inside.queues q) (c.self.invariant.index.there s l c.in_ok-price.price q next.here) in
    let has = sym (ap has_keys keys.1) ∙ c.self.invariant.busy s l c.in_ok-price.price q next.here in
    sym (next_level_some _ _ _ _ c.self.invariant.index l s c.args.last (c.in_ok-price.price, q) keys.0 next keys.1 has).1
    ∙ ap (λ (os : List Order). next_price os l s c.args.last) c.self.view_is

pub returns-in_err-price : goal.returns-in_err-price
returns-in_err-price g c =
    let l = c.args.locate in let s = c.args.side in
    c.from_residual.ensures ∙ sym (ap (option_map (λ (x : Order). x.price)) (next_level_none _ _ _ _ c.self.invariant.index l s c.args.last c.in_err-price.ensures))
    ∙ ap (λ (os : List Order). next_price os l s c.args.last) c.self.view_is
