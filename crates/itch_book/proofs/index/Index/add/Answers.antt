use Rattle.std.proofs.Common.{◌≡◌, ℕ, List, eqb, Option, Some, None, sym, ap, ◌∙◌, subst}
use Rattle.itch_book.specs.Table.{at}
use Rattle.itch_book.specs.declared.order.Order.{Order}
use Rattle.itch_book.specs.Orders.{get, lay, added}
use Rattle.itch_book.specs.Links.{at_key}
use Rattle.itch_book.specs.Queued.{Queued, Seen, seen}
use Rattle.itch_book.specs.Indexed.{Place, indexed, IsIndexed, IsBusy, IsWhole}
use Rattle.itch_book.proofs.Lists.{by_test}
use Rattle.itch_book.proofs.LinkLemmas.{eqb_is}
use Rattle.itch_book.proofs.SoundSteps.{at_apart, at_same}
use Rattle.itch_book.proofs.OpenLemmas.{seen_slots, any_err, renamed}
use Rattle.itch_book.proofs.PutLemmas.{unnamed}
use Rattle.itch_book.proofs.index.Index.add.Goals as goal

-- an index between calls, with these orders
record IsStill (refs : ℕ → Option ℕ) (bids asks : List (Place × ℕ)) (v : Seen) (orders : List Order) : Type 0 where
  pub index : IsIndexed refs bids asks v
  pub busy : IsBusy v bids asks
  pub view : indexed v bids asks ≡ orders

-- reserving room for queues changes nothing that contracts describe
roomy : (refs : ℕ → Option ℕ) (bids asks : List (Place × ℕ)) (old new : Queued) (orders : List Order) → IsWhole refs bids asks (seen old) → indexed (seen old) bids asks ≡ orders
    → new.queues ≡ old.queues → new.orders ≡ old.orders → IsStill refs bids asks (seen new) orders
roomy refs bids asks old new orders whole view queues kept =
    subst (λ (u : Seen). IsStill refs bids asks u orders) (sym (seen_slots old new queues kept)) (record { index = whole.index; busy = whole.busy; view = view })

-- an order of a new reference
fresh_in : (refs : ℕ → Option ℕ) (bids asks : List (Place × ℕ)) (v : Seen) (orders : List Order) (r : ℕ) → IsStill refs bids asks v orders → get orders r ≡ None → refs r ≡ None
fresh_in refs bids asks v orders r is new = unnamed refs bids asks v is.index r (ap (λ (os : List Order). get os r) is.view ∙ new)

-- a reference that is inserted and removed again
taken_back : (f g h : ℕ → Option ℕ) (k n : ℕ) → f k ≡ None → ((r : ℕ) → g r ≡ at_key k (Some n) f r) → ((r : ℕ) → h r ≡ at_key k None g r) → (r : ℕ) → h r ≡ f r
taken_back f g h k n new put taken r =
    by_test (eqb k r)
    (λ e. taken r ∙ at_same k None g r e ∙ sym (ap f (sym (eqb_is k r e)) ∙ new))
    (λ e. taken r ∙ at_apart k None g r e ∙ put r ∙ at_apart k (Some n) f r e)

pub invariant_of-self : goal.invariant_of-self
invariant_of-self g c =
    let one = roomy (at c.self.inside.references) c.self.inside.prices.bids c.self.inside.prices.asks c.self.inside.queues c.reserve.new.self c.args.self.now c.self.invariant c.self.view_is c.reserve.ensures.queues c.reserve.ensures.orders in
    record { index = one.index; busy = one.busy }

pub returns-in_err-reserve-clause-err : goal.returns-in_err-reserve-clause-err
returns-in_err-reserve-clause-err g c =
    let one = roomy (at c.self.inside.references) c.self.inside.prices.bids c.self.inside.prices.asks c.self.inside.queues c.reserve.new.self c.args.self.now c.self.invariant c.self.view_is c.reserve.ensures.queues c.reserve.ensures.orders in
    any_err c.from_residual.result one.view

pub refer-requires : goal.refer-requires
refer-requires g c =
    let one = roomy (at c.self.inside.references) c.self.inside.prices.bids c.self.inside.prices.asks c.self.inside.queues c.reserve.new.self c.args.self.now c.self.invariant c.self.view_is c.reserve.ensures.queues c.reserve.ensures.orders in
    fresh_in (at c.self.inside.references) c.self.inside.prices.bids c.self.inside.prices.asks (seen c.reserve.new.self) c.args.self.now c.args.order.reference one c.requires.new_reference

pub invariant_of-self-in_err-refer : goal.invariant_of-self-in_err-refer
invariant_of-self-in_err-refer g c =
    let one = roomy (at c.self.inside.references) c.self.inside.prices.bids c.self.inside.prices.asks c.self.inside.queues c.reserve.new.self c.args.self.now c.self.invariant c.self.view_is c.reserve.ensures.queues c.reserve.ensures.orders in
    record {
      index = renamed (at c.self.inside.references) (at c.refer.new.references) c.self.inside.prices.bids c.self.inside.prices.asks (seen c.reserve.new.self) c.in_err-refer.ensures.err one.index;
      busy = one.busy;
    }

pub returns-in_err-refer-clause-err : goal.returns-in_err-refer-clause-err
returns-in_err-refer-clause-err g c =
    let one = roomy (at c.self.inside.references) c.self.inside.prices.bids c.self.inside.prices.asks c.self.inside.queues c.reserve.new.self c.args.self.now c.self.invariant c.self.view_is c.reserve.ensures.queues c.reserve.ensures.orders in
    any_err c.from_residual-in_err-refer.result one.view

pub put_last-requires-clause-there : goal.put_last-requires-clause-there
put_last-requires-clause-there g c =
    let one = roomy (at c.self.inside.references) c.self.inside.prices.bids c.self.inside.prices.asks c.self.inside.queues c.reserve.new.self c.args.self.now c.self.invariant c.self.view_is c.reserve.ensures.queues c.reserve.ensures.orders in
    (c.in-Ok.ensures.index (at c.self.inside.references) one.index).there c.args.order.side c.args.order.locate c.args.order.price c.in-Ok.queue c.in-Ok.ensures.queue

pub invariant_of-self-in-Ok : goal.invariant_of-self-in-Ok
invariant_of-self-in-Ok g c =
    let refs : ℕ → Option ℕ = at c.self.inside.references in
    let r = c.args.order.reference in
    let bids = c.level_for-level.new.prices.bids in let asks = c.level_for-level.new.prices.asks in
    let one = roomy refs c.self.inside.prices.bids c.self.inside.prices.asks c.self.inside.queues c.reserve.new.self c.args.self.now c.self.invariant c.self.view_is c.reserve.ensures.queues c.reserve.ensures.orders in
    let index = c.in-Ok.ensures.index refs one.index in
    let view = c.in-Ok.ensures.view refs one.index ∙ one.view in
    let fresh : get (indexed (seen c.level_for-level.new.queues) bids asks) r ≡ None = ap (λ (os : List Order). get os r) view ∙ c.requires.new_reference in
    record {
      index = c.put_last.ensures.index refs (at c.refer.new.references) bids asks index c.in-Ok.ensures.queue fresh
          (λ j. c.in_ok-refer.ensures.ok j ∙ ap (λ (n : ℕ). at_key r (Some n) refs j) (c.next_key-key.ensures ∙ sym c.in-Ok.ensures.next));
      busy = c.put_last.ensures.busy bids asks (c.in-Ok.ensures.busy refs one.index one.busy);
    }

pub returns-in-Ok-clause-ok : goal.returns-in-Ok-clause-ok
returns-in-Ok-clause-ok g c =
    let refs : ℕ → Option ℕ = at c.self.inside.references in
    let r = c.args.order.reference in
    let bids = c.level_for-level.new.prices.bids in let asks = c.level_for-level.new.prices.asks in
    let one = roomy refs c.self.inside.prices.bids c.self.inside.prices.asks c.self.inside.queues c.reserve.new.self c.args.self.now c.self.invariant c.self.view_is c.reserve.ensures.queues c.reserve.ensures.orders in
    let index = c.in-Ok.ensures.index refs one.index in
    let view = c.in-Ok.ensures.view refs one.index ∙ one.view in
    let fresh : get (indexed (seen c.level_for-level.new.queues) bids asks) r ≡ None = ap (λ (os : List Order). get os r) view ∙ c.requires.new_reference in
    c.put_last.ensures.view refs bids asks index c.in-Ok.ensures.queue fresh ∙ ap (λ (os : List Order). lay (added c.args.order os)) view

pub invariant_of-self-in-Err : goal.invariant_of-self-in-Err
invariant_of-self-in-Err g c =
    let refs : ℕ → Option ℕ = at c.self.inside.references in
    let bids = c.level_for-level.new.prices.bids in let asks = c.level_for-level.new.prices.asks in
    let one = roomy refs c.self.inside.prices.bids c.self.inside.prices.asks c.self.inside.queues c.reserve.new.self c.args.self.now c.self.invariant c.self.view_is c.reserve.ensures.queues c.reserve.ensures.orders in
    let new = fresh_in refs c.self.inside.prices.bids c.self.inside.prices.asks (seen c.reserve.new.self) c.args.self.now c.args.order.reference one c.requires.new_reference in
    record {
      index = renamed refs (at c.remove.new.self) bids asks (seen c.level_for-level.new.queues)
          (taken_back refs (at c.refer.new.references) (at c.remove.new.self) c.args.order.reference c.next_key-key.result new c.in_ok-refer.ensures.ok c.remove.ensures.updates)
          (c.in-Err.ensures.index refs one.index);
      busy = c.in-Err.ensures.kept one.busy;
    }

pub returns-in-Err-clause-err : goal.returns-in-Err-clause-err
returns-in-Err-clause-err g c =
    let refs : ℕ → Option ℕ = at c.self.inside.references in
    let one = roomy refs c.self.inside.prices.bids c.self.inside.prices.asks c.self.inside.queues c.reserve.new.self c.args.self.now c.self.invariant c.self.view_is c.reserve.ensures.queues c.reserve.ensures.orders in
    c.in-Err.ensures.view refs one.index ∙ one.view
