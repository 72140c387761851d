-- Appending an order to the queue of its price.
use Rattle.std.proofs.Common.{◌≡◌, ℕ, ◌^◌, ◌<◌, true, false, eqb, List, [], ◌∷◌, ◌++◌, filter, Option, Some, None, IsSome, refl, sym, ap, ◌∙◌, subst, arith, append-nil}
use Rattle.std.specs.List.{AllByRecursion, list_any}
use Rattle.std.proofs.lemmas.Bool.{false≢true}
use Rattle.std.proofs.lemmas.Bool.Decides.{nat_tests}
use Rattle.std.proofs.lemmas.List.Elements.{filter-append}
use Rattle.itch_codec.specs.declared.orders.Side.{Side}
use Rattle.itch_book.specs.declared.order.Order.{Order}
use Rattle.itch_book.specs.Orders.{is_level, same_side, lay, level, added, get, IsLive, IsBook}
use Rattle.itch_book.specs.Links.{at_key}
use Rattle.itch_book.specs.Queued.{Seen, found, shown}
use Rattle.itch_book.specs.Indexed.{Place, orders_in, line, joined, indexed, queue_of_side, has_keys, IsBusy, IsBusyBut, IsPlace, IsIndexed}
use Rattle.itch_book.proofs.Lists.{by_test, All-append_rec}
use Rattle.itch_book.proofs.OrderLemmas.{lay_same_levels, same_side_is}
use Rattle.itch_book.proofs.BookLemmas.{IsBook-added}
use Rattle.itch_book.proofs.LinkLemmas.{In, NotIn, eqb_itself, eqb_is, in_head, in_cases, not_in_head, not_in_tail}
use Rattle.itch_book.proofs.UnlinkLemmas.{in_left, in_right, in_parts}
use Rattle.itch_book.proofs.QueueSteps.{none_some, same_some}
use Rattle.itch_book.proofs.SoundSteps.{at_apart, at_same}
use Rattle.itch_book.proofs.IndexLemmas.{line_at, level_both}
use Rattle.itch_book.proofs.IndexSteps.{level_is, level_own, get_some}

found-append : (orders : ℕ → Option Order) (xs ys : List ℕ) → found orders (xs ++ ys) ≡ found orders xs ++ found orders ys
found-append orders [] ys = refl
found-append orders (k ∷ ks) ys = by_order (orders k) (found-append orders ks ys)
  where
    by_order : (o : Option Order) → found orders (ks ++ ys) ≡ found orders ks ++ found orders ys → shown o (found orders (ks ++ ys)) ≡ shown o (found orders ks) ++ found orders ys
    by_order None h = h
    by_order (Some x) h = ap (λ t. x ∷ t) h

-- a change at a key that is not in the list
pub found_apart : (k : ℕ) (slot : Option Order) (orders : ℕ → Option Order) (ks : List ℕ) → NotIn k ks → found (at_key k slot orders) ks ≡ found orders ks
found_apart k slot orders [] n = refl
found_apart k slot orders (j ∷ js) n =
    let o = at_apart k slot orders j (not_in_head k j js n) in
    ap (λ t. shown t (found (at_key k slot orders) js)) o ∙ ap (shown (orders j)) (found_apart k slot orders js (not_in_tail k j js n))

-- an order of this level has its side and place
pub level_says : (l : ℕ) (s : Side) (p : ℕ) (x : Order) → is_level l s p x ≡ true → IsPlace s l p x.side x.locate x.price
level_says l s p x h =
    let a : l ≡ x.locate = grind (arith, nat_tests) in
    let b : p ≡ x.price = grind (arith, nat_tests) in
    let side : same_side x.side s ≡ true = grind (arith, nat_tests) in
    (sym (same_side_is x.side s side), a, b)

at_place : (s : Side) (l p : ℕ) (x : Order) → IsPlace s l p x.side x.locate x.price → is_level l s p x ≡ true
at_place s l p x is =
    subst (λ t. is_level t s p x ≡ true) (sym is.1) (subst (λ t. is_level x.locate t p x ≡ true) (sym is.0) (subst (λ t. is_level x.locate x.side t x ≡ true) (sym is.2) (level_own x)))

module _ (references references' : ℕ → Option ℕ) (bids asks : List (Place × ℕ)) (w : Seen) (is : IsIndexed references bids asks w)
    (x : Order) (k q : ℕ) (ks : List ℕ) (at : queue_of_side x.side bids asks x.locate x.price ≡ Some q) (keys : w.keys q ≡ Some ks) (vacant : w.orders k ≡ None)
    (live : IsLive x) (price : x.price < 2 ^ 32) (fresh : get (indexed w bids asks) x.reference ≡ None) (names : (r : ℕ) → references' r ≡ at_key x.reference (Some k) references r) where
  -- the index afterwards
  abbrev pub put : Seen
  put = record { keys = at_key q (Some (ks ++ k ∷ [])) w.keys; orders = at_key k (Some x) w.orders }

  out : (q0 : ℕ) (js : List ℕ) → w.keys q0 ≡ Some js → NotIn k js
  out q0 js h = by_test (list_any (eqb k) js) (λ i. absurd (false≢true (subst IsSome vacant (is.full q0 js k h i)))) (λ n. n)

  new_order : put.orders k ≡ Some x
  new_order = at_same k (Some x) w.orders k (eqb_itself k)

  line_same : (q0 : ℕ) → eqb q q0 ≡ false → line put q0 ≡ line w q0
  line_same q0 e = ap (orders_in put.orders) (at_apart q (Some (ks ++ k ∷ [])) w.keys q0 e) ∙ by_keys (w.keys q0) refl
    where
      by_keys : (o : Option (List ℕ)) → w.keys q0 ≡ o → orders_in put.orders o ≡ orders_in w.orders o
      by_keys None h = refl
      by_keys (Some js) h = found_apart k (Some x) w.orders js (out q0 js h)

  line_here : line put q ≡ line w q ++ x ∷ []
  line_here =
      ap (orders_in put.orders) (at_same q (Some (ks ++ k ∷ [])) w.keys q (eqb_itself q))
      ∙ found-append put.orders ks (k ∷ []) ∙ ap (λ t. t ++ found put.orders (k ∷ [])) (found_apart k (Some x) w.orders ks (out q ks keys))
      ∙ ap (λ t. found w.orders ks ++ shown t []) new_order ∙ ap (λ t. t ++ x ∷ []) (sym (ap (orders_in w.orders) keys))

  put_levels : (s : Side) (l p q0 : ℕ) → queue_of_side s bids asks l p ≡ Some q0 → AllByRecursion (λ y. is_level l s p y ≡ true) (line put q0)
  put_levels s l p q0 h =
      by_test (eqb q q0)
      (λ e. let same : q ≡ q0 = eqb_is q q0 e in
      let here : queue_of_side s bids asks l p ≡ Some q = h ∙ ap Some (sym same) in
      let own = at_place s l p x (is.apart s x.side l p x.locate x.price q here at) in
      subst (λ t. AllByRecursion (λ y. is_level l s p y ≡ true) (line put t)) same
      (subst (AllByRecursion (λ y. is_level l s p y ≡ true)) (sym line_here)
      (All-append_rec (λ y. is_level l s p y ≡ true) (line w q) (x ∷ []) (is.levels s l p q here) (own, tt))))
      (λ e. subst (AllByRecursion (λ y. is_level l s p y ≡ true)) (sym (line_same q0 e)) (is.levels s l p q0 h))

  -- level by level
  level_put : (l : ℕ) (s : Side) (p : ℕ) → level (joined put bids ++ joined put asks) l s p ≡ level (added x (indexed w bids asks)) l s p
  level_put l s p =
      level_both put l s p bids asks is.bids_apart is.asks_apart put_levels
      ∙ by_queue (queue_of_side s bids asks l p) refl
      ∙ ap (λ t. t ++ filter (is_level l s p) (x ∷ [])) (sym (level_is references bids asks w is l s p))
      ∙ sym (filter-append (is_level l s p) (indexed w bids asks) (x ∷ []))
    where
      elsewhere : (t : List Order) → is_level l s p x ≡ false → t ≡ t ++ filter (is_level l s p) (x ∷ [])
      elsewhere t n = sym (simp n (append-nil t))

      own_queue : is_level l s p x ≡ true → queue_of_side s bids asks l p ≡ Some q
      own_queue h =
          let says = level_says l s p x h in
          subst (λ t. queue_of_side t bids asks l p ≡ Some q) (sym says.0) (subst (λ t. queue_of_side x.side bids asks t p ≡ Some q) (sym says.1) (subst (λ t. queue_of_side x.side bids asks x.locate t ≡ Some q) (sym says.2) at))

      by_queue : (o : Option ℕ) → queue_of_side s bids asks l p ≡ o → line_at put o ≡ line_at w o ++ filter (is_level l s p) (x ∷ [])
      by_queue None h = by_test (is_level l s p x) (λ e. none_some h (own_queue e)) (λ n. elsewhere [] n)
      by_queue (Some q0) h =
          by_test (eqb q q0)
          (λ e. let same : q ≡ q0 = eqb_is q q0 e in
          let own = at_place s l p x (is.apart s x.side l p x.locate x.price q (h ∙ ap Some (sym same)) at) in
          subst (λ t. line put t ≡ line w t ++ filter (is_level l s p) (x ∷ [])) same (line_here ∙ sym (simp own refl)))
          (λ e. let n : is_level l s p x ≡ false = by_test (is_level l s p x) (λ o. absurd (false≢true (sym e ∙ subst (λ t. eqb q t ≡ true) (same_some (own_queue o) h) (eqb_itself q)))) (λ n. n) in
          line_same q0 e ∙ elsewhere (line w q0) n)

  pub put_view : indexed put bids asks ≡ lay (added x (indexed w bids asks))
  put_view = lay_same_levels (joined put bids ++ joined put asks) (added x (indexed w bids asks)) level_put

  pub put_index : IsIndexed references' bids asks put
  put_index = record {
    book = book;
    live = λ j y h. by_test (eqb k j)
        (λ e. subst IsLive (same_some (at_same k (Some x) w.orders j e) h) live)
        (λ e. is.live j y (sym (at_apart k (Some x) w.orders j e) ∙ h));
    priced = λ j y h. by_test (eqb k j)
        (λ e. subst (λ (z : Order). z.price < 2 ^ 32) (same_some (at_same k (Some x) w.orders j e) h) price)
        (λ e. is.priced j y (sym (at_apart k (Some x) w.orders j e) ∙ h));
    bids_apart = is.bids_apart;
    asks_apart = is.asks_apart;
    levels = put_levels;
    there = λ s l p q0 h. by_test (eqb q q0)
        (λ e. subst IsSome (sym (at_same q (Some (ks ++ k ∷ [])) w.keys q0 e)) refl)
        (λ e. subst IsSome (sym (at_apart q (Some (ks ++ k ∷ [])) w.keys q0 e)) (is.there s l p q0 h));
    placed = λ q0 h. is.placed q0 (by_test (eqb q q0)
        (λ e. subst IsSome (ap w.keys (eqb_is q q0 e)) (subst IsSome (sym keys) refl))
        (λ e. subst IsSome (at_apart q (Some (ks ++ k ∷ [])) w.keys q0 e) h));
    apart = is.apart;
    named = λ j y h. by_test (eqb k j)
        (λ e. let one : x ≡ y = same_some (at_same k (Some x) w.orders j e) h in
        names y.reference ∙ at_same x.reference (Some k) references y.reference (subst (λ (z : Order). eqb x.reference z.reference ≡ true) one (eqb_itself x.reference)) ∙ ap Some (eqb_is k j e))
        (λ e. let there : w.orders j ≡ Some y = sym (at_apart k (Some x) w.orders j e) ∙ h in
        let node = is.named j y there in
        names y.reference ∙ by_test (eqb x.reference y.reference)
        (λ f. none_some fresh (ap (get (indexed w bids asks)) (eqb_is x.reference y.reference f) ∙ get_some references bids asks w is y.reference j y node there))
        (λ f. at_apart x.reference (Some k) references y.reference f ∙ node));
    known = λ r j h. by_test (eqb x.reference r)
        (λ e. let same : k ≡ j = same_some (names r ∙ at_same x.reference (Some k) references r e) h in
        record { order = x; there = ap put.orders (sym same) ∙ new_order; reference = eqb_is x.reference r e })
        (λ e. let was = is.known r j (sym (names r ∙ at_apart x.reference (Some k) references r e) ∙ h) in
        record { order = was.order; there = kept j was.order was.there; reference = was.reference });
    listed = λ j y h. by_test (eqb k j)
        (λ e. let one : x ≡ y = same_some (at_same k (Some x) w.orders j e) h in
        record {
          queue = q;
          keys = ks ++ k ∷ [];
          at_price = subst (λ (z : Order). queue_of_side z.side bids asks z.locate z.price ≡ Some q) one at;
          keys_are = at_same q (Some (ks ++ k ∷ [])) w.keys q (eqb_itself q);
          member = in_right j ks (k ∷ []) (subst (λ t. In t (k ∷ [])) (eqb_is k j e) (in_head k []));
        })
        (λ e. let was = is.listed j y (sym (at_apart k (Some x) w.orders j e) ∙ h) in
        by_test (eqb q was.queue)
        (λ f. let same : was.keys ≡ ks = same_some was.keys_are (ap w.keys (sym (eqb_is q was.queue f)) ∙ keys) in
        record {
          queue = was.queue;
          keys = ks ++ k ∷ [];
          at_price = was.at_price;
          keys_are = at_same q (Some (ks ++ k ∷ [])) w.keys was.queue f;
          member = in_left j ks (k ∷ []) (subst (In j) same was.member);
        })
        (λ f. record { queue = was.queue; keys = was.keys; at_price = was.at_price; keys_are = at_apart q (Some (ks ++ k ∷ [])) w.keys was.queue f ∙ was.keys_are; member = was.member }));
    full = λ q0 js j h i. by_test (eqb q q0)
        (λ e. let same : ks ++ k ∷ [] ≡ js = same_some (at_same q (Some (ks ++ k ∷ [])) w.keys q0 e) h in
        in_parts j ks (k ∷ []) (subst (In j) (sym same) i) (λ m. some_kept j (is.full q ks j keys m))
        (λ m. in_cases j k [] m (λ f. subst IsSome (sym (ap put.orders f ∙ new_order)) refl) (λ n. absurd (false≢true n))))
        (λ e. some_kept j (is.full q0 js j (sym (at_apart q (Some (ks ++ k ∷ [])) w.keys q0 e) ∙ h) i));
  }
    where
      book : IsBook (indexed put bids asks)
      book = subst IsBook (sym put_view) (IsBook-added x (indexed w bids asks) is.book live fresh)

      kept : (j : ℕ) (y : Order) → w.orders j ≡ Some y → put.orders j ≡ Some y
      kept j y h = by_test (eqb k j) (λ e. none_some vacant (ap w.orders (eqb_is k j e) ∙ h)) (λ e. at_apart k (Some x) w.orders j e ∙ h)

      some_kept : (j : ℕ) → IsSome (w.orders j) → IsSome (put.orders j)
      some_kept j h = by_test (eqb k j) (λ e. subst IsSome (sym (at_same k (Some x) w.orders j e)) refl) (λ e. subst IsSome (sym (at_apart k (Some x) w.orders j e)) h)

-- each queue has nodes afterwards
pub put_keys_busy : (bids asks : List (Place × ℕ)) (w w' : Seen) (k q : ℕ) (ks : List ℕ) → ((p : ℕ) → w'.keys p ≡ at_key q (Some (ks ++ k ∷ [])) w.keys p) → IsBusyBut w bids asks q → IsBusy w' bids asks
put_keys_busy bids asks w w' k q ks keys busy s l p q0 h = ap has_keys (keys q0) ∙ by_test (eqb q q0)
    (λ e. ap has_keys (at_same q (Some (ks ++ k ∷ [])) w.keys q0 e) ∙ some_key ks)
    (λ e. ap has_keys (at_apart q (Some (ks ++ k ∷ [])) w.keys q0 e) ∙ busy s l p q0 h e)
  where
    some_key : (js : List ℕ) → has_keys (Some (js ++ k ∷ [])) ≡ true
    some_key [] = refl
    some_key (j ∷ js) = refl

-- a reference without an order leads to no node
pub unnamed : (references : ℕ → Option ℕ) (bids asks : List (Place × ℕ)) (w : Seen) → IsIndexed references bids asks w → (r : ℕ) → get (indexed w bids asks) r ≡ None → references r ≡ None
unnamed references bids asks w is r fresh = by_node (references r) refl
  where
    by_node : (o : Option ℕ) → references r ≡ o → o ≡ None
    by_node None e = refl
    by_node (Some k) e = let known = is.known r k e in none_some fresh (get_some references bids asks w is r k known.order e known.there)
