-- Taking shares from an order that keeps some.
use Rattle.std.proofs.Common.{◌≡◌, ℕ, ◌-◌, ◌^◌, ◌<◌, true, false, eqb, List, [], ◌∷◌, ◌++◌, map, filter, Option, Some, None, IsSome, option_map, refl, sym, ap, ◌∙◌, subst, arith}
use Rattle.std.specs.List.{AllByRecursion}
use Rattle.std.proofs.lemmas.Bool.{false≢true, cond_both}
use Rattle.std.proofs.lemmas.Bool.Decides.{nat_tests}
use Rattle.itch_codec.specs.declared.orders.Side.{Side}
use Rattle.itch_book.specs.declared.order.Order.{Order}
use Rattle.itch_book.specs.Orders.{is_level, level, lay, less, taken, has_shares, has_reference, IsLive, IsBook}
use Rattle.itch_book.specs.Links.{at_key}
use Rattle.itch_book.specs.Queued.{Seen, found, shown, left_with}
use Rattle.itch_book.specs.Indexed.{Place, orders_in, line, joined, indexed, queue_of_side, IsIndexed}
use Rattle.itch_book.proofs.Lists.{by_test, All-map_rec, All-weaker_rec, filter_swap, filter_all, filter-map}
use Rattle.itch_book.proofs.Distinct.{own_reference, has_own}
use Rattle.itch_book.proofs.OrderLemmas.{lay_same_levels}
use Rattle.itch_book.proofs.BookLemmas.{IsBook-taken}
use Rattle.itch_book.proofs.LinkLemmas.{eqb_itself, eqb_is}
use Rattle.itch_book.proofs.QueueSteps.{same_some}
use Rattle.itch_book.proofs.SoundSteps.{at_apart, at_same}
use Rattle.itch_book.proofs.IndexLemmas.{line_at, level_both}
use Rattle.itch_book.proofs.IndexSteps.{level_is, All-found}

module _ (references : ℕ → Option ℕ) (bids asks : List (Place × ℕ)) (w : Seen) (is : IsIndexed references bids asks w)
    (r k n m : ℕ) (x : Order) (node : references r ≡ Some k) (here : w.orders k ≡ Some x) (rest : x.shares - n ≡ m) (some : 0 < m) where
  -- the index afterwards
  abbrev pub changed : Seen
  changed = record { keys = w.keys; orders = at_key k (Some (left_with m x)) w.orders }

  own : x.reference ≡ r
  own = let known = is.known r k node in ap (λ (o : Order). o.reference) (same_some here known.there) ∙ known.reference

  has : has_reference r x ≡ true
  has = subst (λ t. has_reference t x ≡ true) own (has_own x)

  only : (j : ℕ) (y : Order) → w.orders j ≡ Some y → has_reference r y ≡ true → j ≡ k
  only j y h e = same_some (is.named j y h) (ap references (own_reference r y e) ∙ node)

  less_own : less r n x ≡ left_with m x
  less_own = simp has (ap (λ t. left_with t x) rest)

  less_other : (y : Order) → has_reference r y ≡ false → less r n y ≡ y
  less_other y e = simp e refl

  -- the changed order, or another one, unchanged
  by_node : {P : Type 0} (j : ℕ) (y : Order) → changed.orders j ≡ Some y → (eqb k j ≡ true → left_with m x ≡ y → P) → (eqb k j ≡ false → w.orders j ≡ Some y → P) → P
  by_node j y h new old = by_test (eqb k j)
      (λ e. new e (same_some (at_same k (Some (left_with m x)) w.orders j e) h))
      (λ e. old e (sym (at_apart k (Some (left_with m x)) w.orders j e) ∙ h))

  changed_live : (j : ℕ) (y : Order) → changed.orders j ≡ Some y → IsLive y
  changed_live j y h = by_node j y h (λ e same. subst IsLive same (some, (is.live k x here).1)) (λ e was. is.live j y was)

  slot_changed : (j : ℕ) → changed.orders j ≡ option_map (less r n) (w.orders j)
  slot_changed j = by_test (eqb k j)
      (λ e. at_same k (Some (left_with m x)) w.orders j e ∙ sym (ap (option_map (less r n)) (ap w.orders (sym (eqb_is k j e)) ∙ here) ∙ ap Some less_own))
      (λ e. at_apart k (Some (left_with m x)) w.orders j e ∙ by_order e (w.orders j) refl)
    where
      by_order : eqb k j ≡ false → (o : Option Order) → w.orders j ≡ o → o ≡ option_map (less r n) o
      by_order e None h = refl
      by_order e (Some y) h = by_test (has_reference r y)
          (λ f. absurd (false≢true (sym e ∙ subst (λ t. eqb k t ≡ true) (sym (only j y h f)) (eqb_itself k))))
          (λ f. sym (ap Some (less_other y f)))

  found_changed : (ks : List ℕ) → found changed.orders ks ≡ map (less r n) (found w.orders ks)
  found_changed [] = refl
  found_changed (j ∷ js) = ap (λ o. shown o (found changed.orders js)) (slot_changed j) ∙ by_order (w.orders j) (found_changed js)
    where
      by_order : (o : Option Order) → found changed.orders js ≡ map (less r n) (found w.orders js) → shown (option_map (less r n) o) (found changed.orders js) ≡ map (less r n) (shown o (found w.orders js))
      by_order None h = h
      by_order (Some y) h = ap (λ t. less r n y ∷ t) h

  line_changed : (q : ℕ) → line changed q ≡ map (less r n) (line w q)
  line_changed q = by_keys (w.keys q)
    where
      by_keys : (o : Option (List ℕ)) → orders_in changed.orders o ≡ map (less r n) (orders_in w.orders o)
      by_keys None = refl
      by_keys (Some ks) = found_changed ks

  line_at_changed : (o : Option ℕ) → line_at changed o ≡ map (less r n) (line_at w o)
  line_at_changed None = refl
  line_at_changed (Some q) = line_changed q

  less_level : (l : ℕ) (s : Side) (p : ℕ) (y : Order) → is_level l s p (less r n y) ≡ is_level l s p y
  less_level l s p y = cond_both (has_reference r y) (record y { shares = y.shares - n }) y (λ z. is_level l s p z ≡ is_level l s p y) (λ e. refl) (λ e. refl)

  changed_levels : (s : Side) (l p q : ℕ) → queue_of_side s bids asks l p ≡ Some q → AllByRecursion (λ y. is_level l s p y ≡ true) (line changed q)
  changed_levels s l p q h = subst (AllByRecursion (λ y. is_level l s p y ≡ true)) (sym (line_changed q))
      (All-map_rec (λ y. is_level l s p y ≡ true) (less r n) (line w q)
      (All-weaker_rec (λ y. is_level l s p y ≡ true) (λ y. is_level l s p (less r n y) ≡ true) (λ y e. less_level l s p y ∙ e) (line w q) (is.levels s l p q h)))

  -- all orders have shares left
  live_line : (o : Option ℕ) → AllByRecursion (λ y. has_shares y ≡ true) (line_at changed o)
  live_line None = tt
  live_line (Some q) = by_keys (w.keys q)
    where
      shares_of : (y : Order) → IsLive y → has_shares y ≡ true
      shares_of y live = let s = live.0 in grind (arith, nat_tests)

      by_keys : (o : Option (List ℕ)) → AllByRecursion (λ y. has_shares y ≡ true) (orders_in changed.orders o)
      by_keys None = tt
      by_keys (Some ks) = All-found (λ y. has_shares y ≡ true) changed.orders (λ j y h. shares_of y (changed_live j y h)) ks

  level_changed : (l : ℕ) (s : Side) (p : ℕ) → level (joined changed bids ++ joined changed asks) l s p ≡ level (taken r n (indexed w bids asks)) l s p
  level_changed l s p =
      level_both changed l s p bids asks is.bids_apart is.asks_apart changed_levels
      ∙ sym (filter_all has_shares (line_at changed (queue_of_side s bids asks l p)) (live_line (queue_of_side s bids asks l p)))
      ∙ ap (filter has_shares) (line_at_changed (queue_of_side s bids asks l p) ∙ ap (map (less r n)) (sym (level_is references bids asks w is l s p))
      ∙ sym (filter-map (is_level l s p) (is_level l s p) (less r n) (less_level l s p) (indexed w bids asks)))
      ∙ filter_swap has_shares (is_level l s p) (map (less r n) (indexed w bids asks))

  pub change_view : indexed changed bids asks ≡ lay (taken r n (indexed w bids asks))
  change_view = lay_same_levels (joined changed bids ++ joined changed asks) (taken r n (indexed w bids asks)) level_changed

  pub change_index : IsIndexed references bids asks changed
  change_index = record {
    book = subst IsBook (sym change_view) (IsBook-taken r n (indexed w bids asks) is.book);
    live = changed_live;
    priced = λ j y h. by_node j y h (λ e same. subst (λ (z : Order). z.price < 2 ^ 32) same (is.priced k x here)) (λ e was. is.priced j y was);
    bids_apart = is.bids_apart;
    asks_apart = is.asks_apart;
    levels = changed_levels;
    there = is.there;
    placed = is.placed;
    apart = is.apart;
    named = λ j y h. by_node j y h
        (λ e same. subst (λ (z : Order). references z.reference ≡ Some j) same (is.named k x here ∙ ap Some (eqb_is k j e)))
        (λ e was. is.named j y was);
    known = λ t j h. let was = is.known t j h in
        by_test (eqb k j)
        (λ e. record {
          order = left_with m x;
          there = at_same k (Some (left_with m x)) w.orders j e;
          reference = ap (λ (o : Order). o.reference) (same_some here (ap w.orders (eqb_is k j e) ∙ was.there)) ∙ was.reference;
        })
        (λ e. record { order = was.order; there = at_apart k (Some (left_with m x)) w.orders j e ∙ was.there; reference = was.reference });
    listed = λ j y h. by_node j y h
        (λ e same. let was = is.listed j x (ap w.orders (sym (eqb_is k j e)) ∙ here) in
        record {
          queue = was.queue;
          keys = was.keys;
          at_price = subst (λ (z : Order). queue_of_side z.side bids asks z.locate z.price ≡ Some was.queue) same was.at_price;
          keys_are = was.keys_are;
          member = was.member;
        })
        (λ e before. let was = is.listed j y before in
        record { queue = was.queue; keys = was.keys; at_price = was.at_price; keys_are = was.keys_are; member = was.member });
    full = λ q js j h i. by_test (eqb k j)
        (λ e. subst IsSome (sym (at_same k (Some (left_with m x)) w.orders j e)) refl)
        (λ e. subst IsSome (sym (at_apart k (Some (left_with m x)) w.orders j e)) (is.full q js j h i));
  }
