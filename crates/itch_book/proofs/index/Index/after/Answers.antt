use Rattle.std.proofs.Common.{◌≡◌, ℕ, true, eqb, List, [], ◌∷◌, ◌++◌, find, Option, Some, None, IsSome, IsSomeAnd, refl, sym, ap, ◌∙◌, subst}
use Rattle.itch_codec.specs.declared.orders.Side.TheVariants.{Sell}
use Rattle.std.specs.List.{list_any}
use Rattle.std.proofs.lemmas.Bool.{false≢true}
use Rattle.itch_book.specs.declared.order.Order.{Order}
use Rattle.itch_book.specs.Links.{first_or}
use Rattle.itch_book.specs.Orders.{get, after, following, first, is_level, is_of, is_next}
use Rattle.itch_book.specs.Queued.{Seen, seen, keys_at, order_at, found, shown}
use Rattle.itch_book.specs.Indexed.{Place, indexed, has_keys, IsIndexed}
use Rattle.itch_book.proofs.LinkLemmas.{in_head, in_tail}
use Rattle.itch_book.proofs.UnlinkLemmas.{in_right}
use Rattle.itch_book.proofs.QueueSteps.{none_some, inj}
use Rattle.itch_book.proofs.LiveLemmas.{live_node}
use Rattle.itch_book.proofs.FrontLemmas.{next_level_some, next_level_none}
use Rattle.itch_book.proofs.AfterLemmas.{parts_first, after_tail, next_here, next_price_here, last_ask, last_bid, live_is, line_after}
use Rattle.itch_book.proofs.Lists.{some_of}
use Rattle.itch_book.proofs.index.Index.after.Goals as goal

order_some : (o : Option Order) → IsSome o → (x : Order) × (o ≡ Some x)
order_some None h = absurd (let no_one : ⊥ = cc in no_one)
order_some (Some x) h = (x, refl)

some_node : (o : Option ℕ) (P : ℕ → Type 0) → IsSomeAnd o P → IsSome o
some_node None P h = absurd h
some_node (Some k) P h = refl

at_node : (o : Option ℕ) (P : ℕ → Type 0) (k : ℕ) → o ≡ Some k → IsSomeAnd o P → P k
at_node o P k e h = subst (λ (t : Option ℕ). IsSomeAnd t P) e h

none_first : (ks : List ℕ) → first_or ks None ≡ None → ks ≡ []
none_first [] h = refl
none_first (k ∷ ks) h = none_some h refl

some_first : (ks : List ℕ) (n : ℕ) → first_or ks None ≡ Some n → (js : List ℕ) × (ks ≡ n ∷ js)
some_first [] n h = none_some refl h
some_first (k ∷ js) n h = (js, ap (λ (t : ℕ). t ∷ js) (inj h))

head_found : (orders : ℕ → Option Order) (n : ℕ) (js : List ℕ) (y : Order) → orders n ≡ Some y → first (found orders (n ∷ js)) ≡ Some y
head_found orders n js y h = ap (λ o. first (shown o (found orders js))) h

-- the index and the properties of the order
module _ (references : ℕ → Option ℕ) (bids asks : List (Place × ℕ)) (w : Seen) (is : IsIndexed references bids asks w)
    (r k : ℕ) (node : references r ≡ Some k) (next : Option ℕ)
    (decided : (q : ℕ) (before after_it : List ℕ) → w.keys q ≡ Some (before ++ k ∷ after_it) → next ≡ first_or after_it None) where
  -- the node after it has an order
  next_some : (n : ℕ) → next ≡ Some n → IsSome (w.orders n)
  next_some n h =
      let known = is.known r k node in
      let place = is.listed k known.order known.there in
      let parts = parts_first k place.keys place.member in
      let keys = place.keys_are ∙ ap Some parts.2 in
      let first_is = some_first parts.1 n (sym (decided place.queue parts.0 parts.1 keys) ∙ h) in
      is.full place.queue (parts.0 ++ k ∷ parts.1) n keys
      (in_right n parts.0 (k ∷ parts.1) (in_tail n k parts.1 (subst (λ t. list_any (eqb n) t ≡ true) (sym first_is.1) (in_head n first_is.0))))

  -- it is the next order in the book
  next_after : (x : Order) → w.orders k ≡ Some x → (n : ℕ) (y : Order) → next ≡ Some n → w.orders n ≡ Some y → after (indexed w bids asks) r ≡ Some y
  next_after x here n y h there =
      let place = is.listed k x here in
      let parts = parts_first k place.keys place.member in
      let keys = place.keys_are ∙ ap Some parts.2 in
      let first_is = some_first parts.1 n (sym (decided place.queue parts.0 parts.1 keys) ∙ h) in
      let level = line_after references bids asks w is r k x node here parts.0 parts.1 parts.3 parts.2
      ∙ ap (λ (ks : List ℕ). first (found w.orders ks)) first_is.1 ∙ head_found w.orders n first_is.0 y there in
      let live = live_is references bids asks w is r k x node here in
      after_tail (indexed w bids asks) is.book r x live ∙ next_here (indexed w bids asks) is.book r x live y level

  -- or no order is after it at its price
  none_level : (x : Order) (here : w.orders k ≡ Some x) → next ≡ None → find (is_level x.locate x.side x.price) (following r (indexed w bids asks)) ≡ None
  none_level x here h =
      let place = is.listed k x here in
      let parts = parts_first k place.keys place.member in
      let keys = place.keys_are ∙ ap Some parts.2 in
      let none = none_first parts.1 (sym (decided place.queue parts.0 parts.1 keys) ∙ h) in
      line_after references bids asks w is r k x node here parts.0 parts.1 parts.3 parts.2 ∙ ap (λ (ks : List ℕ). first (found w.orders ks)) none

  price_after : (x : Order) (here : w.orders k ≡ Some x) → next ≡ None → (o : Option Order) → IsSome o → find (is_next x.locate x.side (Some x.price)) (indexed w bids asks) ≡ o → after (indexed w bids asks) r ≡ o
  price_after x here h None some e = absurd (false≢true some)
  price_after x here h (Some y) some e =
      let live = live_is references bids asks w is r k x node here in
      after_tail (indexed w bids asks) is.book r x live ∙ next_price_here (indexed w bids asks) is.book r x live y (none_level x here h) e

-- a queue with nodes has a first order
first_some : (w : Seen) (q : ℕ) (ks : List ℕ) → ((k : ℕ) → list_any (eqb k) ks ≡ true → IsSome (w.orders k)) → has_keys (Some ks) ≡ true → IsSome (first (found w.orders ks))
first_some w q [] full has = absurd (false≢true has)
first_some w q (k ∷ ks) full has = let x = order_some (w.orders k) (full k (in_head k ks)) in subst IsSome (sym (head_found w.orders k ks x.0 x.1)) refl

pub node_from-key-requires-clause-there : goal.node_from-key-requires-clause-there
node_from-key-requires-clause-there g c =
    some_node _ _ (live_node _ _ _ _ c.self.invariant.index c.args.reference (subst (λ (os : List Order). IsSome (get os c.args.reference)) (sym c.self.view_is) c.requires))

pub next-requires : goal.next-requires
next-requires g c =
    at_node _ _ c.node_from-key.result c.node_from-key.ensures (live_node _ _ _ _ c.self.invariant.index c.args.reference (subst (λ (os : List Order). IsSome (get os c.args.reference)) (sym c.self.view_is) c.requires))

pub order-order-requires : goal.order-order-requires
order-order-requires g c =
    at_node _ _ c.node_from-key.result c.node_from-key.ensures (live_node _ _ _ _ c.self.invariant.index c.args.reference (subst (λ (os : List Order). IsSome (get os c.args.reference)) (sym c.self.view_is) c.requires))

pub order-requires : goal.order-requires
order-requires g c = next_some _ _ _ (seen c.self.inside.queues) c.self.invariant.index c.args.reference c.node_from-key.result c.node_from-key.ensures (Some c.in-Some.next) c.in-Some.ensures c.in-Some.next refl

pub returns-in-Some : goal.returns-in-Some
returns-in-Some g c =
    let x = order_some (order_at c.self.inside.queues c.node_from-key.result)
    (at_node _ _ c.node_from-key.result c.node_from-key.ensures (live_node _ _ _ _ c.self.invariant.index c.args.reference (subst (λ (os : List Order). IsSome (get os c.args.reference)) (sym c.self.view_is) c.requires))) in
    sym (next_after _ _ _ (seen c.self.inside.queues) c.self.invariant.index c.args.reference c.node_from-key.result c.node_from-key.ensures (Some c.in-Some.next) c.in-Some.ensures x.0 x.1 c.in-Some.next c.order.result.now refl c.order.ensures)
    ∙ ap (λ (os : List Order). after os c.args.reference) c.self.view_is

pub returns-in-Some-level : goal.returns-in-Some-level
returns-in-Some-level g c =
    let w : Seen = seen c.self.inside.queues in
    let x = c.order-order.result.now in let q = c.in-Some-level.queue in let next = c.in-Some-level.ensures in
    let none : c.next.result ≡ None = c.in_default.is in
    let keys = some_of (keys_at c.self.inside.queues q) (c.self.invariant.index.there x.side x.locate c.in-Some-level.field-0-0 q next.here) in
    let has = sym (ap has_keys keys.1) ∙ c.self.invariant.busy x.side x.locate c.in-Some-level.field-0-0 q next.here in
    let there = next_level_some _ _ _ _ c.self.invariant.index x.locate x.side (Some x.price) (c.in-Some-level.field-0-0, q) keys.0 next keys.1 has in
    let some = first_some w q keys.0 (λ k i. c.self.invariant.index.full q keys.0 k keys.1 i) has in
    c.head_of.ensures keys.0 keys.1
    ∙ sym (price_after _ _ _ w c.self.invariant.index c.args.reference c.node_from-key.result c.node_from-key.ensures c.next.result c.next.ensures x c.order-order.ensures none (first (found w.orders keys.0)) some there.0)
    ∙ ap (λ (os : List Order). after os c.args.reference) c.self.view_is

pub returns-in-Buy : goal.returns-in-Buy
returns-in-Buy g c =
    let w : Seen = seen c.self.inside.queues in
    let x = c.order-order.result.now in
    let none : c.next.result ≡ None = c.in_default.is in
    let level = none_level _ _ _ w c.self.invariant.index c.args.reference c.node_from-key.result c.node_from-key.ensures c.next.result c.next.ensures x c.order-order.ensures none in
    let last = next_level_none _ _ _ _ c.self.invariant.index x.locate x.side (Some x.price) c.in_default-level.ensures in
    let live = live_is _ _ _ w c.self.invariant.index c.args.reference c.node_from-key.result x c.node_from-key.ensures c.order-order.ensures in
    c.best.ensures.front
    ∙ ap (λ (os : List Order). find (is_of x.locate Sell) os) (sym c.self.view_is)
    ∙ sym (after_tail _ c.self.invariant.index.book c.args.reference x live ∙ last_bid _ c.self.invariant.index.book c.args.reference x live c.in-Buy.is level last)
    ∙ ap (λ (os : List Order). after os c.args.reference) c.self.view_is

pub returns-in-Sell : goal.returns-in-Sell
returns-in-Sell g c =
    let w : Seen = seen c.self.inside.queues in
    let x = c.order-order.result.now in
    let none : c.next.result ≡ None = c.in_default.is in
    let level = none_level _ _ _ w c.self.invariant.index c.args.reference c.node_from-key.result c.node_from-key.ensures c.next.result c.next.ensures x c.order-order.ensures none in
    let last = next_level_none _ _ _ _ c.self.invariant.index x.locate x.side (Some x.price) c.in_default-level.ensures in
    let live = live_is _ _ _ w c.self.invariant.index c.args.reference c.node_from-key.result x c.node_from-key.ensures c.order-order.ensures in
    sym (after_tail _ c.self.invariant.index.book c.args.reference x live ∙ last_ask _ c.self.invariant.index.book c.args.reference x live c.in-Sell.is level last)
    ∙ ap (λ (os : List Order). after os c.args.reference) c.self.view_is
