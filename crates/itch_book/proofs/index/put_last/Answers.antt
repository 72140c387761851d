use Rattle.std.proofs.Common.{◌≡◌, ℕ, ◌^◌, ◌<◌, ◌++◌, ◌∷◌, true, List, [], Option, Some, option_map, rules, refl, sym, ap, ◌∙◌, subst}
use Rattle.itch_book.specs.Links.{at_key}
use Rattle.itch_book.specs.Orders.{fits, IsLive}
use Rattle.itch_book.specs.Queued.{Seen, seen, keys_at}
use Rattle.itch_book.specs.Indexed.{indexed, IsIndexed}
use Rattle.itch_book.proofs.OpenLemmas.{seen_same}
use Rattle.itch_book.proofs.PutLemmas.{put_view, put_index, put_keys_busy}
use Rattle.itch_book.proofs.Lists.{some_of}
use Rattle.itch_book.proofs.index.put_last.Goals as goal

pub returns-clause-index : goal.returns-clause-index
returns-clause-index g c references references' bids asks is at fresh names =
    let w : Seen = seen c.args.queues.now in let x = c.args.order in let k = c.push_last.result in let q = c.args.queue in
    let found_keys = some_of (keys_at c.args.queues.now q) c.requires.there in
    let ks = found_keys.0 in
    let put : Seen = record { keys = at_key q (Some (ks ++ k ∷ [])) w.keys; orders = at_key k (Some x) w.orders } in
    let same : seen c.push_last.new.self ≡ put = seen_same put (seen c.push_last.new.self)
    (λ p. c.push_last.ensures.keys p ∙ ap (λ (o : Option (List ℕ)). at_key q (option_map (λ (js : List ℕ). js ++ k ∷ []) o) w.keys p) found_keys.1)
    c.push_last.ensures.orders in
    let fit : fits x ≡ true = search rules in
    let live : IsLive x = (c.requires.some_shares, fit) in
    let price : x.price < 2 ^ 32 = search rules in
    let named : (r : ℕ) → references' r ≡ at_key x.reference (Some k) references r = λ r. names r ∙ ap (λ (n : ℕ). at_key x.reference (Some n) references r) (sym c.push_last.ensures.key) in
    subst (IsIndexed references' bids asks) (sym same) (put_index references references' bids asks w is x k q ks at found_keys.1 c.push_last.ensures.vacant live price fresh named)

pub returns-clause-view : goal.returns-clause-view
returns-clause-view g c references bids asks is at fresh =
    let w : Seen = seen c.args.queues.now in let x = c.args.order in let k = c.push_last.result in let q = c.args.queue in
    let found_keys = some_of (keys_at c.args.queues.now q) c.requires.there in
    let ks = found_keys.0 in
    let put : Seen = record { keys = at_key q (Some (ks ++ k ∷ [])) w.keys; orders = at_key k (Some x) w.orders } in
    let same : seen c.push_last.new.self ≡ put = seen_same put (seen c.push_last.new.self)
    (λ p. c.push_last.ensures.keys p ∙ ap (λ (o : Option (List ℕ)). at_key q (option_map (λ (js : List ℕ). js ++ k ∷ []) o) w.keys p) found_keys.1)
    c.push_last.ensures.orders in
    let fit : fits x ≡ true = search rules in
    let live : IsLive x = (c.requires.some_shares, fit) in
    let price : x.price < 2 ^ 32 = search rules in
    ap (λ (u : Seen). indexed u bids asks) same ∙ put_view references (at_key x.reference (Some k) references) bids asks w is x k q ks at found_keys.1 c.push_last.ensures.vacant live price fresh (λ r. refl)

pub returns-clause-busy : goal.returns-clause-busy
returns-clause-busy g c bids asks busy =
    let w : Seen = seen c.args.queues.now in let q = c.args.queue in
    let found_keys = some_of (keys_at c.args.queues.now q) c.requires.there in
    put_keys_busy bids asks w (seen c.push_last.new.self) c.push_last.result q found_keys.0
    (λ p. c.push_last.ensures.keys p ∙ ap (λ (o : Option (List ℕ)). at_key q (option_map (λ (js : List ℕ). js ++ c.push_last.result ∷ []) o) w.keys p) found_keys.1) busy
