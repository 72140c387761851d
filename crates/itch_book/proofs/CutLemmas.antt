-- Removing an order from its queue.
use Rattle.std.proofs.Common.{◌≡◌, ℕ, true, false, eqb, not, List, [], ◌∷◌, ◌++◌, Option, Some, None, IsSome, option_map, refl, sym, ap, ◌∙◌, subst}
use Rattle.std.specs.List.{AllByRecursion, list_any}
use Rattle.std.proofs.lemmas.Bool.{false≢true}
use Rattle.itch_codec.specs.declared.orders.Side.{Side}
use Rattle.itch_book.specs.declared.order.Order.{Order}
use Rattle.itch_book.specs.Orders.{is_level, level, lay, without, has_reference, IsBook}
use Rattle.itch_book.specs.Links.{at_key}
use Rattle.itch_book.specs.Queued.{Seen, found, shown, without_key}
use Rattle.itch_book.specs.Indexed.{Place, orders_in, line, joined, indexed, queue_of_side, has_keys, IsIndexed, IsBusy, IsBusyBut}
use Rattle.itch_book.proofs.Lists.{by_test, All-filter_rec, filter_swap}
use Rattle.itch_book.proofs.Distinct.{own_reference, has_own}
use Rattle.itch_book.proofs.OrderLemmas.{lay_same_levels}
use Rattle.itch_book.proofs.BookLemmas.{IsBook-without}
use Rattle.itch_book.proofs.LinkLemmas.{In, NotIn, eqb_itself, eqb_is, in_head, in_tail, in_cases}
use Rattle.itch_book.proofs.QueueSteps.{none_some, same_some, inj}
use Rattle.itch_book.proofs.SoundSteps.{at_apart, at_same, without_none}
use Rattle.itch_book.proofs.IndexLemmas.{line_at, level_both}
use Rattle.itch_book.proofs.IndexSteps.{level_is}
use Rattle.itch_book.proofs.PutLemmas.{level_says}

in_kept : (k j : ℕ) (ks : List ℕ) → eqb k j ≡ false → In j ks → In j (without_key k ks)
in_kept k j [] n i = i
in_kept k j (h ∷ hs) n i =
    in_cases j h hs i
    (λ e. let apart : eqb k h ≡ false = subst (λ t. eqb k t ≡ false) e n in
    simp apart (subst (λ t. In t (h ∷ without_key k hs)) (sym e) (in_head h (without_key k hs))))
    (λ m. let rest = in_kept k j hs n m in by_test (eqb k h) (λ e. simp e rest) (λ e. simp e (in_tail j h (without_key k hs) rest)))

in_was : (k j : ℕ) (ks : List ℕ) → In j (without_key k ks) → In j ks × (eqb k j ≡ false)
in_was k j [] i = absurd (false≢true i)
in_was k j (h ∷ hs) i =
    by_test (eqb k h)
    (λ e. let it : In j (without_key k hs) = simp e at i in let rest = in_was k j hs it in (in_tail j h hs rest.0, rest.1))
    (λ e. let it : In j (h ∷ without_key k hs) = simp e at i in
    in_cases j h (without_key k hs) it
    (λ f. (subst (λ t. In t (h ∷ hs)) (sym f) (in_head h hs), subst (λ t. eqb k t ≡ false) (sym f) e))
    (λ m. let rest = in_was k j hs m in (in_tail j h hs rest.0, rest.1)))

-- a property of the orders of all these nodes is a property of each
pub found_member : (P : Order → Type 0) (orders : ℕ → Option Order) (k : ℕ) (x : Order) (ks : List ℕ) → AllByRecursion P (found orders ks) → In k ks → orders k ≡ Some x → P x
found_member P orders k x [] all i here = absurd (false≢true i)
found_member P orders k x (j ∷ js) all i here =
    in_cases k j js i
    (λ e. let o : orders j ≡ Some x = ap orders (sym e) ∙ here in (subst (λ t. AllByRecursion P (shown t (found orders js))) o all).0)
    (λ m. found_member P orders k x js (rest (orders j) all) m here)
  where
    rest : (o : Option Order) → AllByRecursion P (shown o (found orders js)) → AllByRecursion P (found orders js)
    rest None h = h
    rest (Some y) h = h.1

module _ (references references' : ℕ → Option ℕ) (bids asks : List (Place × ℕ)) (w : Seen) (is : IsIndexed references bids asks w)
    (r k : ℕ) (x : Order) (node : references r ≡ Some k) (here : w.orders k ≡ Some x)
    (names : (j : ℕ) → references' j ≡ at_key r None references j) where
  -- the index afterwards
  abbrev pub cut : Seen
  cut = record { keys = λ q. option_map (without_key k) (w.keys q); orders = at_key k None w.orders }

  own : x.reference ≡ r
  own = let known = is.known r k node in ap (λ (o : Order). o.reference) (same_some here known.there) ∙ known.reference

  has : has_reference r x ≡ true
  has = subst (λ t. has_reference t x ≡ true) own (has_own x)

  -- no other node has the reference
  only : (j : ℕ) (y : Order) → w.orders j ≡ Some y → has_reference r y ≡ true → j ≡ k
  only j y h e = same_some (is.named j y h) (ap references (own_reference r y e) ∙ node)

  found_cut : (ks : List ℕ) → found cut.orders (without_key k ks) ≡ without r (found w.orders ks)
  found_cut [] = refl
  found_cut (j ∷ js) =
      by_test (eqb k j)
      (λ e. let there : w.orders j ≡ Some x = ap w.orders (sym (eqb_is k j e)) ∙ here in
      simp e (found_cut js ∙ sym (ap (λ o. without r (shown o (found w.orders js))) there ∙ simp has refl)))
      (λ e. simp e (by_order e (w.orders j) refl (found_cut js)))
    where
      by_order : eqb k j ≡ false → (o : Option Order) → w.orders j ≡ o → found cut.orders (without_key k js) ≡ without r (found w.orders js)
          → shown o (found cut.orders (without_key k js)) ≡ without r (shown o (found w.orders js))
      by_order e None h rest = rest
      by_order e (Some y) h rest =
          by_test (has_reference r y)
          (λ f. absurd (false≢true (sym e ∙ subst (λ t. eqb k t ≡ true) (sym (only j y h f)) (eqb_itself k))))
          (λ f. simp f (ap (λ t. y ∷ t) rest))

  line_cut : (q : ℕ) → line cut q ≡ without r (line w q)
  line_cut q = by_keys (w.keys q)
    where
      by_keys : (o : Option (List ℕ)) → orders_in cut.orders (option_map (without_key k) o) ≡ without r (orders_in w.orders o)
      by_keys None = refl
      by_keys (Some ks) = found_cut ks

  line_at_cut : (o : Option ℕ) → line_at cut o ≡ without r (line_at w o)
  line_at_cut None = refl
  line_at_cut (Some q) = line_cut q

  cut_levels : (s : Side) (l p q : ℕ) → queue_of_side s bids asks l p ≡ Some q → AllByRecursion (λ y. is_level l s p y ≡ true) (line cut q)
  cut_levels s l p q h = subst (AllByRecursion (λ y. is_level l s p y ≡ true)) (sym (line_cut q)) (All-filter_rec (λ y. is_level l s p y ≡ true) (λ y. not (has_reference r y)) (line w q) (is.levels s l p q h))

  level_cut : (l : ℕ) (s : Side) (p : ℕ) → level (joined cut bids ++ joined cut asks) l s p ≡ level (without r (indexed w bids asks)) l s p
  level_cut l s p =
      level_both cut l s p bids asks is.bids_apart is.asks_apart cut_levels
      ∙ line_at_cut (queue_of_side s bids asks l p)
      ∙ ap (without r) (sym (level_is references bids asks w is l s p))
      ∙ filter_swap (λ y. not (has_reference r y)) (is_level l s p) (indexed w bids asks)

  pub cut_view : indexed cut bids asks ≡ lay (without r (indexed w bids asks))
  cut_view = lay_same_levels (joined cut bids ++ joined cut asks) (without r (indexed w bids asks)) level_cut

  kept : (j : ℕ) (y : Order) → cut.orders j ≡ Some y → (w.orders j ≡ Some y) × (eqb k j ≡ false)
  kept j y h = by_test (eqb k j) (λ e. none_some (at_same k None w.orders j e) h) (λ e. (sym (at_apart k None w.orders j e) ∙ h, e))

  pub cut_index : IsIndexed references' bids asks cut
  cut_index = record {
    book = subst IsBook (sym cut_view) (IsBook-without r (indexed w bids asks) is.book);
    live = λ j y h. is.live j y (kept j y h).0;
    priced = λ j y h. is.priced j y (kept j y h).0;
    bids_apart = is.bids_apart;
    asks_apart = is.asks_apart;
    levels = cut_levels;
    there = λ s l p q h. some_mapped (w.keys q) (is.there s l p q h);
    placed = λ q h. is.placed q (some_was (w.keys q) h);
    apart = is.apart;
    named = λ j y h. let was = kept j y h in
        let name = is.named j y was.0 in
        names y.reference ∙ by_test (eqb r y.reference)
        (λ e. absurd (false≢true (sym was.1 ∙ subst (λ t. eqb k t ≡ true) (same_some node (ap references (eqb_is r y.reference e) ∙ name)) (eqb_itself k))))
        (λ e. at_apart r None references y.reference e ∙ name);
    known = λ t j h. by_test (eqb r t)
        (λ e. none_some (names t ∙ at_same r None references t e) h)
        (λ e. let was = is.known t j (sym (names t ∙ at_apart r None references t e) ∙ h) in
        record {
          order = was.order;
          there = by_test (eqb k j)
              (λ f. let same : x ≡ was.order = same_some here (ap w.orders (eqb_is k j f) ∙ was.there) in
              absurd (false≢true (sym e ∙ subst (λ u. eqb r u ≡ true) (sym own ∙ ap (λ (o : Order). o.reference) same ∙ was.reference) (eqb_itself r))))
              (λ f. at_apart k None w.orders j f ∙ was.there);
          reference = was.reference;
        });
    listed = λ j y h. let before = kept j y h in
        let was = is.listed j y before.0 in
        record {
          queue = was.queue;
          keys = without_key k was.keys;
          at_price = was.at_price;
          keys_are = ap (option_map (without_key k)) was.keys_are;
          member = in_kept k j was.keys before.1 was.member;
        };
    full = λ q js j h i. by_keys q js j (w.keys q) refl h i;
  }
    where
      some_mapped : (o : Option (List ℕ)) → IsSome o → IsSome (option_map (without_key k) o)
      some_mapped None h = h
      some_mapped (Some ks) h = refl

      some_was : (o : Option (List ℕ)) → IsSome (option_map (without_key k) o) → IsSome o
      some_was None h = h
      some_was (Some ks) h = refl

      by_keys : (q : ℕ) (js : List ℕ) (j : ℕ) (o : Option (List ℕ)) → w.keys q ≡ o → option_map (without_key k) o ≡ Some js → In j js → IsSome (cut.orders j)
      by_keys q js j None e h i = none_some refl h
      by_keys q js j (Some ks) e h i =
          let was = in_was k j ks (subst (In j) (sym (inj h)) i) in
          subst IsSome (sym (at_apart k None w.orders j was.1)) (is.full q ks j e was.0)

  -- the other queues keep their nodes
  pub cut_busy : (q : ℕ) → queue_of_side x.side bids asks x.locate x.price ≡ Some q → IsBusy w bids asks → IsBusyBut cut bids asks q
  cut_busy q at busy s l p q0 h n = by_keys (w.keys q0) refl (busy s l p q0 h)
    where
      out : (js : List ℕ) → w.keys q0 ≡ Some js → NotIn k js
      out js e = by_test (list_any (eqb k) js)
          (λ i. let all = subst (AllByRecursion (λ y. is_level l s p y ≡ true)) (ap (orders_in w.orders) e) (is.levels s l p q0 h) in
          let says = level_says l s p x (found_member (λ y. is_level l s p y ≡ true) w.orders k x js all i here) in
          let own_queue : queue_of_side s bids asks l p ≡ Some q =
          subst (λ t. queue_of_side t bids asks l p ≡ Some q) (sym says.0) (subst (λ t. queue_of_side x.side bids asks t p ≡ Some q) (sym says.1) (subst (λ t. queue_of_side x.side bids asks x.locate t ≡ Some q) (sym says.2) at)) in
          absurd (false≢true (sym n ∙ subst (λ t. eqb q t ≡ true) (same_some own_queue h) (eqb_itself q))))
          (λ m. m)

      by_keys : (o : Option (List ℕ)) → w.keys q0 ≡ o → has_keys o ≡ true → has_keys (option_map (without_key k) (w.keys q0)) ≡ true
      by_keys None e has_some = absurd (false≢true has_some)
      by_keys (Some js) e has_some = ap (λ (o : Option (List ℕ)). has_keys (option_map (without_key k) o)) e ∙ ap (λ (t : List ℕ). has_keys (Some t)) (without_none k js (out js e)) ∙ has_some
