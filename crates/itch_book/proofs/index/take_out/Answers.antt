use Rattle.std.proofs.Common.{◌≡◌, ℕ, Option, Some, None, option_map, sym, ap, ◌∙◌, subst}
use Rattle.itch_book.specs.Table.{at}
use Rattle.itch_book.specs.Links.{at_key}
use Rattle.itch_book.specs.Queued.{Seen, seen, order_at, without_key}
use Rattle.itch_book.specs.Indexed.{queue_of_side, indexed, IsIndexed, IsBusyBut}
use Rattle.itch_book.proofs.OpenLemmas.{seen_same}
use Rattle.itch_book.proofs.CutLemmas.{cut_view, cut_index, cut_busy}
use Rattle.itch_book.proofs.index.take_out.Goals as goal

pub returns-clause-whole : goal.returns-clause-whole
returns-clause-whole g c whole =
    let refs : ℕ → Option ℕ = at c.args.references.now in let refs' : ℕ → Option ℕ = at c.remove-key.new.self in
    let bids = c.args.prices.now.bids in let asks = c.args.prices.now.asks in
    let w : Seen = seen c.args.queues.now in let is = whole.index in
    let r = c.args.reference in let k = c.remove-key.result in let x = c.unlink-order.result in let q = c.queue_of-queue.result in
    let node : refs r ≡ Some k = c.remove-key.ensures.link in
    let here : order_at c.args.queues.now k ≡ Some x = c.unlink-order.ensures.order in
    let names : (j : ℕ) → refs' j ≡ at_key r None refs j = λ j. c.remove-key.ensures.updates j in
    let v : Seen = record { keys = λ p. option_map (without_key k) (w.keys p); orders = at_key k None w.orders } in
    let same : seen c.unlink-order.new.self ≡ v = seen_same v (seen c.unlink-order.new.self) c.unlink-order.ensures.keys c.unlink-order.ensures.orders in
    let place = is.listed k x here in
    let there : queue_of_side x.side bids asks x.locate x.price ≡ Some q = place.at_price ∙ ap Some (sym (c.queue_of-queue.ensures.only place.queue place.keys place.keys_are place.member)) in
    let two : IsIndexed refs' bids asks (seen c.unlink-order.new.self) = subst (IsIndexed refs' bids asks) (sym same) (cut_index refs refs' bids asks w is r k x node here names) in
    record {
      index = c.close_empty.ensures.index refs' two there;
      busy = c.close_empty.ensures.busy refs' two there (subst (λ (u : Seen). IsBusyBut u bids asks q) (sym same) (cut_busy refs refs' bids asks w is r k x node here names q there whole.busy));
    }

pub returns-clause-view : goal.returns-clause-view
returns-clause-view g c whole =
    let refs : ℕ → Option ℕ = at c.args.references.now in let refs' : ℕ → Option ℕ = at c.remove-key.new.self in
    let bids = c.args.prices.now.bids in let asks = c.args.prices.now.asks in
    let w : Seen = seen c.args.queues.now in let is = whole.index in
    let r = c.args.reference in let k = c.remove-key.result in let x = c.unlink-order.result in let q = c.queue_of-queue.result in
    let node : refs r ≡ Some k = c.remove-key.ensures.link in
    let here : order_at c.args.queues.now k ≡ Some x = c.unlink-order.ensures.order in
    let names : (j : ℕ) → refs' j ≡ at_key r None refs j = λ j. c.remove-key.ensures.updates j in
    let v : Seen = record { keys = λ p. option_map (without_key k) (w.keys p); orders = at_key k None w.orders } in
    let same : seen c.unlink-order.new.self ≡ v = seen_same v (seen c.unlink-order.new.self) c.unlink-order.ensures.keys c.unlink-order.ensures.orders in
    let place = is.listed k x here in
    let there : queue_of_side x.side bids asks x.locate x.price ≡ Some q = place.at_price ∙ ap Some (sym (c.queue_of-queue.ensures.only place.queue place.keys place.keys_are place.member)) in
    let two : IsIndexed refs' bids asks (seen c.unlink-order.new.self) = subst (IsIndexed refs' bids asks) (sym same) (cut_index refs refs' bids asks w is r k x node here names) in
    c.close_empty.ensures.view refs' two there ∙ ap (λ (u : Seen). indexed u bids asks) same ∙ cut_view refs refs' bids asks w is r k x node here names
