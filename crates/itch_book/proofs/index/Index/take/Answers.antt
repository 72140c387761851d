use Rattle.std.proofs.Common.{◌≡◌, ℕ, ◌-◌, ◌≤◌, ◌<◌, List, remove, Option, Some, None, IsSome, IsSomeAnd, option_map, refl, sym, ap, ◌∙◌, subst, arith}
use Rattle.std.specs.List.{position_or_len}
use Rattle.itch_book.specs.Table.{at}
use Rattle.itch_book.specs.declared.order.Order.{Order}
use Rattle.itch_book.specs.Orders.{get, lay, taken, without, has_reference, IsBook}
use Rattle.itch_book.specs.Links.{at_key}
use Rattle.itch_book.specs.Queued.{Seen, seen, left_with}
use Rattle.itch_book.specs.Indexed.{indexed, IsIndexed, IsBusy}
use Rattle.itch_book.proofs.OpenLemmas.{seen_same}
use Rattle.itch_book.proofs.IndexSteps.{get_some}
use Rattle.itch_book.proofs.LiveLemmas.{live_node}
use Rattle.itch_book.proofs.PlaceLemmas.{is_cut, gone_there}
use Rattle.itch_book.proofs.ChangeLemmas.{change_view, change_index}
use Rattle.itch_book.proofs.index.Index.take.Goals as goal

live : (o : Option Order) (P : Order → Type 0) → IsSomeAnd o P → IsSome o
live None P h = absurd h
live (Some x) P h = refl

some_node : (o : Option ℕ) (P : ℕ → Type 0) → IsSomeAnd o P → IsSome o
some_node None P h = absurd h
some_node (Some k) P h = refl

at_node : (o : Option ℕ) (P : ℕ → Type 0) (k : ℕ) → o ≡ Some k → IsSomeAnd o P → P k
at_node o P k e h = subst (λ (t : Option ℕ). IsSomeAnd t P) e h

gone : (r n : ℕ) (xs : List Order) (x : Order) → IsBook xs → get xs r ≡ Some x → x.shares - n ≡ 0 → lay (without r xs) ≡ lay (taken r n xs)
gone r n xs x b found none =
    let p = position_or_len (has_reference r) xs in
    sym (is_cut r xs xs (remove xs p) p b refl refl refl) ∙ gone_there r n xs xs p x b found refl refl none

pub known_node-key-requires : goal.known_node-key-requires
known_node-key-requires g c =
    some_node _ _ (live_node _ _ _ _ c.self.invariant.index c.args.reference (subst (λ (os : List Order). IsSome (get os c.args.reference)) (sym c.self.view_is) (live _ _ c.requires)))

pub order-requires : goal.order-requires
order-requires g c =
    at_node _ _ c.known_node-key.result c.known_node-key.ensures (live_node _ _ _ _ c.self.invariant.index c.args.reference (subst (λ (os : List Order). IsSome (get os c.args.reference)) (sym c.self.view_is) (live _ _ c.requires)))

pub overflow_sub-left : goal.overflow_sub-left
overflow_sub-left g c =
    let found : get c.args.self.now c.args.reference ≡ Some c.order.result.now = ap (λ (os : List Order). get os c.args.reference) (sym c.self.view_is) ∙ get_some _ _ _ _ c.self.invariant.index c.args.reference c.known_node-key.result c.order.result.now c.known_node-key.ensures c.order.ensures in
    subst (λ (o : Option Order). IsSomeAnd o (λ x. c.args.shares ≤ x.shares)) found c.requires

pub take_out-requires : goal.take_out-requires
take_out-requires g c =
    live_node _ _ _ _ c.self.invariant.index c.args.reference (subst (λ (os : List Order). IsSome (get os c.args.reference)) (sym c.self.view_is) (live _ _ c.requires))

pub returns-then-left-eq0-clause-orders : goal.returns-then-left-eq0-clause-orders
returns-then-left-eq0-clause-orders g c =
    let found = get_some _ _ _ _ c.self.invariant.index c.args.reference c.known_node-key.result c.order.result.now c.known_node-key.ensures c.order.ensures in
    c.take_out.ensures.view c.self.invariant
    ∙ gone c.args.reference c.args.shares _ c.order.result.now c.self.invariant.index.book found c.if-left-eq0.true
    ∙ ap (λ (os : List Order). lay (taken c.args.reference c.args.shares os)) c.self.view_is

pub returns-then-left-eq0-clause-left : goal.returns-then-left-eq0-clause-left
returns-then-left-eq0-clause-left g c =
    let found : get c.args.self.now c.args.reference ≡ Some c.order.result.now = ap (λ (os : List Order). get os c.args.reference) (sym c.self.view_is) ∙ get_some _ _ _ _ c.self.invariant.index c.args.reference c.known_node-key.result c.order.result.now c.known_node-key.ensures c.order.ensures in
    rw found c.if-left-eq0.true

pub returns-clause-left : goal.returns-clause-left
returns-clause-left g c =
    let found : get c.args.self.now c.args.reference ≡ Some c.order.result.now = ap (λ (os : List Order). get os c.args.reference) (sym c.self.view_is) ∙ get_some _ _ _ _ c.self.invariant.index c.args.reference c.known_node-key.result c.order.result.now c.known_node-key.ensures c.order.ensures in
    let some : 0 < c.order.result.now.shares - c.args.shares = omega (arith, c.if-left-eq0.false) in
    rw found (some, refl)

pub invariant_of-self-2 : goal.invariant_of-self-2
invariant_of-self-2 g c =
    let refs = at c.self.inside.references in let bids = c.self.inside.prices.bids in let asks = c.self.inside.prices.asks in
    let w : Seen = seen c.self.inside.queues in
    let k = c.known_node-key.result in let x = c.order.result.now in let m = x.shares - c.args.shares in
    let some : 0 < m = omega (arith, c.if-left-eq0.false) in
    let v : Seen = record { keys = w.keys; orders = at_key k (Some (left_with m x)) w.orders } in
    let same : seen c.set_shares.new.self ≡ v = seen_same v (seen c.set_shares.new.self) c.set_shares.ensures.keys
    (λ j. c.set_shares.ensures.orders j ∙ ap (λ (o : Option Order). at_key k (option_map (left_with m) o) w.orders j) c.order.ensures) in
    record {
      index = subst (IsIndexed refs bids asks) (sym same) (change_index refs bids asks w c.self.invariant.index c.args.reference k c.args.shares m x c.known_node-key.ensures c.order.ensures refl some);
      busy = subst (λ (u : Seen). IsBusy u bids asks) (sym same) c.self.invariant.busy;
    }

pub returns-clause-orders : goal.returns-clause-orders
returns-clause-orders g c =
    let refs = at c.self.inside.references in let bids = c.self.inside.prices.bids in let asks = c.self.inside.prices.asks in
    let w : Seen = seen c.self.inside.queues in
    let k = c.known_node-key.result in let x = c.order.result.now in let m = x.shares - c.args.shares in
    let some : 0 < m = omega (arith, c.if-left-eq0.false) in
    let v : Seen = record { keys = w.keys; orders = at_key k (Some (left_with m x)) w.orders } in
    let same : seen c.set_shares.new.self ≡ v = seen_same v (seen c.set_shares.new.self) c.set_shares.ensures.keys
    (λ j. c.set_shares.ensures.orders j ∙ ap (λ (o : Option Order). at_key k (option_map (left_with m) o) w.orders j) c.order.ensures) in
    ap (λ (u : Seen). indexed u bids asks) same
    ∙ change_view refs bids asks w c.self.invariant.index c.args.reference k c.args.shares m x c.known_node-key.ensures c.order.ensures refl some
    ∙ ap (λ (os : List Order). lay (taken c.args.reference c.args.shares os)) c.self.view_is
