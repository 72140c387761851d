use Rattle.std.proofs.Common.{◌≡◌, ℕ, List, [], ◌∷◌, Option, Some, None, option_map, refl, sym, ap, ◌∙◌}
use Rattle.itch_book.specs.declared.order.Order.{Order}
use Rattle.itch_book.specs.declared.order.Placed.{Placed}
use Rattle.itch_book.specs.Links.{first_or}
use Rattle.itch_book.specs.Orders.{first}
use Rattle.itch_book.specs.Queued.{keys_at, order_at, shown, found}
use Rattle.itch_book.proofs.QueueSteps.{first_in, none_some, inj}
use Rattle.itch_book.proofs.Lists.{some_of}
use Rattle.itch_book.proofs.index.head_of.Goals as goal

first_found : (orders : ℕ → Option Order) (key : ℕ) (x : Order) (ks : List ℕ) → first_or ks None ≡ Some key → orders key ≡ Some x → Some x ≡ first (found orders ks)
first_found orders key x [] h there = none_some refl h
first_found orders key x (k ∷ ks) h there = sym (ap (λ o. first (shown o (found orders ks))) (ap orders (inj h) ∙ there))

none_found : (orders : ℕ → Option Order) (ks : List ℕ) → first_or ks None ≡ None → ◌≡◌ {A = Option Order} None (first (found orders ks))
none_found orders [] h = refl
none_found orders (k ∷ ks) h = none_some h refl

pub order-requires : goal.order-requires
order-requires g c =
    let keys = some_of (keys_at c.args.queues.now c.args.queue) c.requires.there in
    c.requires.live keys.0 c.in_ok-key.key keys.1 (first_in c.in_ok-key.key keys.0 (sym (c.in_ok-key.ensures keys.0 keys.1)))

pub returns : goal.returns
returns g c ks keys = first_found (order_at c.args.queues.now) c.in_ok-key.key c.order.result.now ks (sym (c.in_ok-key.ensures ks keys)) c.order.ensures

pub returns-in_err-key : goal.returns-in_err-key
returns-in_err-key g c ks keys = ap (option_map (λ (p : Placed). p.order.now)) c.from_residual.ensures ∙ none_found (order_at c.args.queues.now) ks (sym (c.in_err-key.ensures ks keys))
