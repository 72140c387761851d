use Rattle.std.proofs.Common.{◌≡◌, ℕ, true, false, eqb, List, [], ◌∷◌, Option, Some, None, is_some, rules, refl, sym, ap, ◌∙◌, subst}
use Rattle.std.proofs.lemmas.Bool.{false≢true}
use Rattle.itch_book.specs.Links.{at_key, first_or}
use Rattle.itch_book.specs.Queued.{Seen, seen, keys_at}
use Rattle.itch_book.specs.Indexed.{indexed, has_keys, IsIndexed, IsBusy}
use Rattle.itch_book.proofs.Lists.{some_of, by_test}
use Rattle.itch_book.proofs.LinkLemmas.{eqb_is}
use Rattle.itch_book.proofs.OpenLemmas.{seen_same, same_orders}
use Rattle.itch_book.proofs.CloseLemmas.{close_view, close_index, close_busy}
use Rattle.itch_book.proofs.index.close_empty.Goals as goal

empty_of : (ks : List ℕ) (o : Option ℕ) → o ≡ first_or ks None → is_some o ≡ false → ks ≡ []
empty_of [] o e none = refl
empty_of (k ∷ ks) o e none = absurd (false≢true (sym none ∙ ap is_some e))

has_of : (ks : List ℕ) (o : Option ℕ) → o ≡ first_or ks None → is_some o ≡ true → has_keys (Some ks) ≡ true
has_of [] o e some = absurd (false≢true (sym (ap is_some e) ∙ some))
has_of (k ∷ ks) o e some = refl

pub close_level-requires : goal.close_level-requires
close_level-requires g c =
    let keys = some_of (keys_at c.args.queues.now c.args.queue) c.requires in
    let none : is_some c.first.result ≡ false = search rules in
    keys.1 ∙ ap Some (empty_of keys.0 c.first.result (c.first.ensures keys.0 keys.1) none)

pub returns-then-is_some-clause-busy : goal.returns-then-is_some-clause-busy
returns-then-is_some-clause-busy g c references is at busy s l p q h =
    let keys = some_of (keys_at c.args.queues.now c.args.queue) c.requires in
    let some : is_some c.first.result ≡ true = search rules in
    by_test (eqb c.args.queue q)
    (λ e. ap (λ (t : ℕ). has_keys (keys_at c.args.queues.now t)) (sym (eqb_is c.args.queue q e)) ∙ ap has_keys keys.1 ∙ has_of keys.0 c.first.result (c.first.ensures keys.0 keys.1) some)
    (λ e. busy s l p q h e)

pub returns-clause-index : goal.returns-clause-index
returns-clause-index g c references is at =
    let bids = c.args.prices.now.bids in let asks = c.args.prices.now.asks in
    let bids' = c.close_level.new.self.bids in let asks' = c.close_level.new.self.asks in
    let w : Seen = seen c.args.queues.now in let q = c.args.queue in
    let keys = some_of (keys_at c.args.queues.now q) c.requires in
    let none : is_some c.first.result ≡ false = search rules in
    let empty : keys_at c.args.queues.now q ≡ Some [] = keys.1 ∙ ap Some (empty_of keys.0 c.first.result (c.first.ensures keys.0 keys.1) none) in
    let v : Seen = record { keys = at_key q None w.keys; orders = w.orders } in
    let same : seen c.close_level.new.queues ≡ v = seen_same v (seen c.close_level.new.queues) c.close_level.ensures.keys (same_orders c.args.queues.now c.close_level.new.queues c.close_level.ensures.orders) in
    subst (IsIndexed references bids' asks') (sym same) (close_index references bids asks bids' asks' w is c.args.side c.args.locate c.args.price q c.close_level.ensures.bids c.close_level.ensures.asks empty at c.close_level.ensures.placed)

pub returns-clause-view : goal.returns-clause-view
returns-clause-view g c references is at =
    let bids = c.args.prices.now.bids in let asks = c.args.prices.now.asks in
    let bids' = c.close_level.new.self.bids in let asks' = c.close_level.new.self.asks in
    let w : Seen = seen c.args.queues.now in let q = c.args.queue in
    let keys = some_of (keys_at c.args.queues.now q) c.requires in
    let none : is_some c.first.result ≡ false = search rules in
    let empty : keys_at c.args.queues.now q ≡ Some [] = keys.1 ∙ ap Some (empty_of keys.0 c.first.result (c.first.ensures keys.0 keys.1) none) in
    let v : Seen = record { keys = at_key q None w.keys; orders = w.orders } in
    let same : seen c.close_level.new.queues ≡ v = seen_same v (seen c.close_level.new.queues) c.close_level.ensures.keys (same_orders c.args.queues.now c.close_level.new.queues c.close_level.ensures.orders) in
    ap (λ (u : Seen). indexed u bids' asks') same ∙ close_view references bids asks bids' asks' w is c.args.side c.args.locate c.args.price q c.close_level.ensures.bids c.close_level.ensures.asks empty at c.close_level.ensures.placed

pub returns-clause-busy : goal.returns-clause-busy
returns-clause-busy g c references is at busy =
    let bids = c.args.prices.now.bids in let asks = c.args.prices.now.asks in
    let bids' = c.close_level.new.self.bids in let asks' = c.close_level.new.self.asks in
    let w : Seen = seen c.args.queues.now in let q = c.args.queue in
    let keys = some_of (keys_at c.args.queues.now q) c.requires in
    let none : is_some c.first.result ≡ false = search rules in
    let empty : keys_at c.args.queues.now q ≡ Some [] = keys.1 ∙ ap Some (empty_of keys.0 c.first.result (c.first.ensures keys.0 keys.1) none) in
    let v : Seen = record { keys = at_key q None w.keys; orders = w.orders } in
    let same : seen c.close_level.new.queues ≡ v = seen_same v (seen c.close_level.new.queues) c.close_level.ensures.keys (same_orders c.args.queues.now c.close_level.new.queues c.close_level.ensures.orders) in
    subst (λ (u : Seen). IsBusy u bids' asks') (sym same) (close_busy references bids asks bids' asks' w is c.args.side c.args.locate c.args.price q c.close_level.ensures.bids c.close_level.ensures.asks empty at c.close_level.ensures.placed busy)
