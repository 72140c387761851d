-- Removing an empty queue from its price.
use Rattle.std.proofs.Common.{◌≡◌, ℕ, true, false, cond, eqb, List, [], ◌++◌, Option, Some, None, IsSome, refl, sym, ap, ◌∙◌, subst}
use Rattle.std.specs.List.{AllByRecursion, list_any}
use Rattle.std.proofs.lemmas.Bool.{false≢true}
use Rattle.itch_codec.specs.declared.orders.Side.{Side}
use Rattle.itch_book.specs.Orders.{is_level, level, IsBook}
use Rattle.itch_book.specs.Links.{at_key}
use Rattle.itch_book.specs.Queued.{Seen}
use Rattle.itch_book.specs.Indexed.{Place, AreApart, orders_in, line, joined, indexed, queue_of_side, is_there, has_keys, IsPlace, IsIndexed, IsBusy, IsBusyBut}
use Rattle.itch_book.proofs.Lists.{by_test}
use Rattle.itch_book.proofs.OrderLemmas.{lay_same_levels}
use Rattle.itch_book.proofs.LinkLemmas.{eqb_itself, eqb_is}
use Rattle.itch_book.proofs.QueueSteps.{none_some, same_some}
use Rattle.itch_book.proofs.SoundSteps.{at_apart, at_same}
use Rattle.itch_book.proofs.IndexLemmas.{line_at, level_both}
use Rattle.itch_book.proofs.OpenLemmas.{there_is, is_there_self}

there_at : (s0 : Side) (l0 p0 : ℕ) (s : Side) (l p : ℕ) → IsPlace s0 l0 p0 s l p → is_there s0 l0 p0 s l p ≡ true
there_at s0 l0 p0 s l p is =
    subst (λ t. is_there s0 l0 p0 t l p ≡ true) is.0 (subst (λ m. is_there s0 l0 p0 s0 m p ≡ true) is.1 (subst (λ n. is_there s0 l0 p0 s0 l0 n ≡ true) is.2 (is_there_self s0 l0 p0)))

module _ (references : ℕ → Option ℕ) (bids asks bids' asks' : List (Place × ℕ)) (w : Seen) (is : IsIndexed references bids asks w) (s0 : Side) (l0 p0 q : ℕ)
    (bids_apart : AreApart bids') (asks_apart : AreApart asks')
    (empty : w.keys q ≡ Some []) (at : queue_of_side s0 bids asks l0 p0 ≡ Some q)
    (placed : (s : Side) (l p : ℕ) → queue_of_side s bids' asks' l p ≡ cond (is_there s0 l0 p0 s l p) None (queue_of_side s bids asks l p)) where
  -- the index afterwards
  abbrev pub closed : Seen
  closed = record { keys = at_key q None w.keys; orders = w.orders }

  placed_here : (s : Side) (l p : ℕ) → is_there s0 l0 p0 s l p ≡ true → queue_of_side s bids' asks' l p ≡ None
  placed_here s l p h = placed s l p ∙ simp h refl

  placed_else : (s : Side) (l p : ℕ) → is_there s0 l0 p0 s l p ≡ false → queue_of_side s bids' asks' l p ≡ queue_of_side s bids asks l p
  placed_else s l p h = placed s l p ∙ simp h refl

  at_there : (s : Side) (l p : ℕ) → is_there s0 l0 p0 s l p ≡ true → queue_of_side s bids asks l p ≡ Some q
  at_there s l p h =
      let t = there_is s0 l0 p0 s l p h in
      subst (λ u. queue_of_side u bids asks l p ≡ Some q) t.0 (subst (λ m. queue_of_side s0 bids asks m p ≡ Some q) t.1 (subst (λ n. queue_of_side s0 bids asks l0 n ≡ Some q) t.2 at))

  -- the queue of another price is another queue
  other_queue : (s : Side) (l p q0 : ℕ) → is_there s0 l0 p0 s l p ≡ false → queue_of_side s bids asks l p ≡ Some q0 → eqb q q0 ≡ false
  other_queue s l p q0 n h = by_test (eqb q q0)
      (λ e. absurd (false≢true (sym n ∙ there_at s0 l0 p0 s l p (is.apart s0 s l0 p0 l p q at (h ∙ ap Some (sym (eqb_is q q0 e)))))))
      (λ e. e)

  by_place : {P : Type 0} (s : Side) (l p q0 : ℕ) → queue_of_side s bids' asks' l p ≡ Some q0 → (queue_of_side s bids asks l p ≡ Some q0 → eqb q q0 ≡ false → P) → P
  by_place s l p q0 h old =
      by_test (is_there s0 l0 p0 s l p)
      (λ e. none_some (placed_here s l p e) h)
      (λ e. let was : queue_of_side s bids asks l p ≡ Some q0 = sym (placed_else s l p e) ∙ h in old was (other_queue s l p q0 e was))

  -- another queue still belongs to its price
  still_at : (s : Side) (l p q0 : ℕ) → eqb q q0 ≡ false → queue_of_side s bids asks l p ≡ Some q0 → queue_of_side s bids' asks' l p ≡ Some q0
  still_at s l p q0 n h = by_test (is_there s0 l0 p0 s l p)
      (λ e. absurd (false≢true (sym n ∙ subst (λ t. eqb q t ≡ true) (same_some (at_there s l p e) h) (eqb_itself q))))
      (λ e. placed_else s l p e ∙ h)

  line_kept : (q0 : ℕ) → eqb q q0 ≡ false → line closed q0 ≡ line w q0
  line_kept q0 e = ap (orders_in w.orders) (at_apart q None w.keys q0 e)

  line_gone : line w q ≡ []
  line_gone = ap (orders_in w.orders) empty

  close_levels : (s : Side) (l p q0 : ℕ) → queue_of_side s bids' asks' l p ≡ Some q0 → AllByRecursion (λ y. is_level l s p y ≡ true) (line closed q0)
  close_levels s l p q0 h = by_place s l p q0 h (λ was e. subst (AllByRecursion (λ y. is_level l s p y ≡ true)) (sym (line_kept q0 e)) (is.levels s l p q0 was))

  level_close : (l : ℕ) (s : Side) (p : ℕ) → level (joined closed bids' ++ joined closed asks') l s p ≡ level (joined w bids ++ joined w asks) l s p
  level_close l s p =
      level_both closed l s p bids' asks' bids_apart asks_apart close_levels
      ∙ by_test (is_there s0 l0 p0 s l p)
      (λ e. ap (line_at closed) (placed_here s l p e) ∙ sym (ap (line_at w) (at_there s l p e) ∙ line_gone))
      (λ e. ap (line_at closed) (placed_else s l p e) ∙ by_queue e (queue_of_side s bids asks l p) refl)
      ∙ sym (level_both w l s p bids asks is.bids_apart is.asks_apart is.levels)
    where
      by_queue : is_there s0 l0 p0 s l p ≡ false → (o : Option ℕ) → queue_of_side s bids asks l p ≡ o → line_at closed o ≡ line_at w o
      by_queue e None h = refl
      by_queue e (Some q0) h = line_kept q0 (other_queue s l p q0 e h)

  pub close_view : indexed closed bids' asks' ≡ indexed w bids asks
  close_view = lay_same_levels (joined closed bids' ++ joined closed asks') (joined w bids ++ joined w asks) level_close

  pub close_index : IsIndexed references bids' asks' closed
  close_index = record {
    book = subst IsBook (sym close_view) is.book;
    live = is.live;
    priced = is.priced;
    bids_apart = bids_apart;
    asks_apart = asks_apart;
    levels = close_levels;
    there = λ s l p q0 h. by_place s l p q0 h (λ was e. subst IsSome (sym (at_apart q None w.keys q0 e)) (is.there s l p q0 was));
    placed = λ q0 h. by_test (eqb q q0)
        (λ e. absurd (false≢true (subst IsSome (at_same q None w.keys q0 e) h)))
        (λ e. let was = is.placed q0 (subst IsSome (at_apart q None w.keys q0 e) h) in
        record { side = was.side; locate = was.locate; price = was.price; at_price = still_at was.side was.locate was.price q0 e was.at_price });
    apart = λ s t l p m n q0 h k. by_place s l p q0 h (λ was e. by_place t m n q0 k (λ was2 e2. is.apart s t l p m n q0 was was2));
    named = is.named;
    known = λ r j h. let was = is.known r j h in record { order = was.order; there = was.there; reference = was.reference };
    listed = λ j y h. let was = is.listed j y h in
        let other : eqb q was.queue ≡ false = by_test (eqb q was.queue)
        (λ e. let none : was.keys ≡ [] = same_some was.keys_are (ap w.keys (sym (eqb_is q was.queue e)) ∙ empty) in
        absurd (false≢true (subst (λ t. list_any (eqb j) t ≡ true) none was.member)))
        (λ e. e) in
        record {
          queue = was.queue;
          keys = was.keys;
          at_price = still_at y.side y.locate y.price was.queue other was.at_price;
          keys_are = at_apart q None w.keys was.queue other ∙ was.keys_are;
          member = was.member;
        };
    full = λ q0 js j h i. by_test (eqb q q0)
        (λ e. none_some (at_same q None w.keys q0 e) h)
        (λ e. is.full q0 js j (sym (at_apart q None w.keys q0 e) ∙ h) i);
  }

  pub close_busy : IsBusyBut w bids asks q → IsBusy closed bids' asks'
  close_busy busy s l p q0 h = by_place s l p q0 h (λ was e. ap has_keys (at_apart q None w.keys q0 e) ∙ busy s l p q0 was e)
