-- Opening an empty queue at a price without a queue.
use Rattle.std.proofs.Common.{◌≡◌, ℕ, true, false, cond, eqb, List, [], ◌++◌, Option, Some, None, IsSome, refl, sym, ap, ◌∙◌, subst}
use Rattle.std.specs.List.{AllByRecursion, list_any}
use Rattle.std.specs.BTreeMap.{is_at}
use Rattle.std.proofs.lemmas.Bool.{false≢true}
use Rattle.itch_codec.specs.declared.orders.Side.{Side}
use Rattle.itch_book.specs.declared.order.Order.{Order}
use Rattle.itch_book.specs.Orders.{is_level, same_side, level, IsBook}
use Rattle.itch_book.specs.Links.{at_key}
use Rattle.std.specs.Prelude.{Result, Ok, Err, OnErr}
use Rattle.std.proofs.Common.{get_or}
use Rattle.itch_book.specs.Queued.{Queued, Seen, seen}
use Rattle.itch_book.specs.Indexed.{Place, place_cmp, AreApart, orders_in, line, joined, indexed, queue_of_side, is_there, has_keys, IsPlace, IsIndexed, IsBusy, IsBusyBut}
use Rattle.itch_book.proofs.Lists.{by_test}
use Rattle.itch_book.proofs.OrderLemmas.{lay_same_levels, same_side_self, same_side_is}
use Rattle.itch_book.proofs.LinkLemmas.{eqb_itself, eqb_is}
use Rattle.itch_book.proofs.QueueSteps.{none_some, same_some}
use Rattle.itch_book.proofs.SoundSteps.{at_apart, at_same}
use Rattle.itch_book.proofs.IndexLemmas.{line_at, level_both, place_self, place_is}

pub there_is : (s0 : Side) (l0 p0 : ℕ) (s : Side) (l p : ℕ) → is_there s0 l0 p0 s l p ≡ true → IsPlace s0 l0 p0 s l p
there_is s0 l0 p0 s l p h =
    by_test (same_side s0 s)
    (λ e. let it : is_at (place_cmp (l0, p0)) (l, p) ≡ true = simp e at h in
    let is = place_is (l0, p0) (l, p) it in
    (same_side_is s0 s e, ap (λ (a : Place). a.0) is, ap (λ (a : Place). a.1) is))
    (λ e. let no : false ≡ true = simp e at h in absurd (false≢true no))

pub is_there_self : (s : Side) (l p : ℕ) → is_there s l p s l p ≡ true
is_there_self s l p = let a = same_side_self s in let b = place_self (l, p) in simp (a, b) refl

module _ (references : ℕ → Option ℕ) (bids asks bids' asks' : List (Place × ℕ)) (w : Seen) (is : IsIndexed references bids asks w) (s0 : Side) (l0 p0 q : ℕ)
    (bids_apart : AreApart bids') (asks_apart : AreApart asks')
    (vacant : w.keys q ≡ None) (absent : queue_of_side s0 bids asks l0 p0 ≡ None)
    (placed : (s : Side) (l p : ℕ) → queue_of_side s bids' asks' l p ≡ cond (is_there s0 l0 p0 s l p) (Some q) (queue_of_side s bids asks l p)) where
  -- the index afterwards
  abbrev pub opened : Seen
  opened = record { keys = at_key q (Some []) w.keys; orders = w.orders }

  none_there : (s : Side) (l p : ℕ) → is_there s0 l0 p0 s l p ≡ true → queue_of_side s bids asks l p ≡ None
  none_there s l p h =
      let t = there_is s0 l0 p0 s l p h in
      subst (λ u. queue_of_side u bids asks l p ≡ None) t.0 (subst (λ m. queue_of_side s0 bids asks m p ≡ None) t.1 (subst (λ n. queue_of_side s0 bids asks l0 n ≡ None) t.2 absent))

  placed_here : (s : Side) (l p : ℕ) → is_there s0 l0 p0 s l p ≡ true → queue_of_side s bids' asks' l p ≡ Some q
  placed_here s l p h = placed s l p ∙ simp h refl

  placed_else : (s : Side) (l p : ℕ) → is_there s0 l0 p0 s l p ≡ false → queue_of_side s bids' asks' l p ≡ queue_of_side s bids asks l p
  placed_else s l p h = placed s l p ∙ simp h refl

  -- a price with a queue still has it
  still_at : (s : Side) (l p q0 : ℕ) → queue_of_side s bids asks l p ≡ Some q0 → queue_of_side s bids' asks' l p ≡ Some q0
  still_at s l p q0 h = by_test (is_there s0 l0 p0 s l p) (λ e. none_some (none_there s l p e) h) (λ e. placed_else s l p e ∙ h)

  -- the new key differs from all existing keys
  other_key : (q0 : ℕ) → IsSome (w.keys q0) → eqb q q0 ≡ false
  other_key q0 h = by_test (eqb q q0) (λ e. absurd (false≢true (subst IsSome (ap w.keys (sym (eqb_is q q0 e)) ∙ vacant) h))) (λ n. n)

  line_kept : (q0 : ℕ) → IsSome (w.keys q0) → line opened q0 ≡ line w q0
  line_kept q0 h = ap (orders_in w.orders) (at_apart q (Some []) w.keys q0 (other_key q0 h))

  line_new : line opened q ≡ []
  line_new = ap (orders_in w.orders) (at_same q (Some []) w.keys q (eqb_itself q))

  by_place : {P : Type 0} (s : Side) (l p q0 : ℕ) → queue_of_side s bids' asks' l p ≡ Some q0 → (q ≡ q0 → is_there s0 l0 p0 s l p ≡ true → P) → (queue_of_side s bids asks l p ≡ Some q0 → is_there s0 l0 p0 s l p ≡ false → P) → P
  by_place s l p q0 h new old =
      by_test (is_there s0 l0 p0 s l p)
      (λ e. new (same_some (placed_here s l p e) h) e)
      (λ e. old (sym (placed_else s l p e) ∙ h) e)

  open_levels : (s : Side) (l p q0 : ℕ) → queue_of_side s bids' asks' l p ≡ Some q0 → AllByRecursion (λ y. is_level l s p y ≡ true) (line opened q0)
  open_levels s l p q0 h =
      by_place s l p q0 h
      (λ same e. subst (λ t. AllByRecursion (λ y. is_level l s p y ≡ true) (line opened t)) same (subst (AllByRecursion (λ y. is_level l s p y ≡ true)) (sym line_new) tt))
      (λ was e. subst (AllByRecursion (λ y. is_level l s p y ≡ true)) (sym (line_kept q0 (is.there s l p q0 was))) (is.levels s l p q0 was))

  level_open : (l : ℕ) (s : Side) (p : ℕ) → level (joined opened bids' ++ joined opened asks') l s p ≡ level (joined w bids ++ joined w asks) l s p
  level_open l s p =
      level_both opened l s p bids' asks' bids_apart asks_apart open_levels
      ∙ by_test (is_there s0 l0 p0 s l p)
      (λ e. ap (line_at opened) (placed_here s l p e) ∙ line_new ∙ sym (ap (line_at w) (none_there s l p e)))
      (λ e. ap (line_at opened) (placed_else s l p e) ∙ by_queue (queue_of_side s bids asks l p) refl)
      ∙ sym (level_both w l s p bids asks is.bids_apart is.asks_apart is.levels)
    where
      by_queue : (o : Option ℕ) → queue_of_side s bids asks l p ≡ o → line_at opened o ≡ line_at w o
      by_queue None h = refl
      by_queue (Some q0) h = line_kept q0 (is.there s l p q0 h)

  pub open_view : indexed opened bids' asks' ≡ indexed w bids asks
  open_view = lay_same_levels (joined opened bids' ++ joined opened asks') (joined w bids ++ joined w asks) level_open

  pub open_index : IsIndexed references bids' asks' opened
  open_index = record {
    book = subst IsBook (sym open_view) is.book;
    live = is.live;
    priced = is.priced;
    bids_apart = bids_apart;
    asks_apart = asks_apart;
    levels = open_levels;
    there = λ s l p q0 h. by_place s l p q0 h
        (λ same e. subst IsSome (sym (at_same q (Some []) w.keys q0 (subst (λ t. eqb q t ≡ true) same (eqb_itself q)))) refl)
        (λ was e. let old = is.there s l p q0 was in subst IsSome (sym (at_apart q (Some []) w.keys q0 (other_key q0 old))) old);
    placed = λ q0 h. by_test (eqb q q0)
        (λ e. record { side = s0; locate = l0; price = p0; at_price = placed_here s0 l0 p0 (is_there_self s0 l0 p0) ∙ ap Some (eqb_is q q0 e) })
        (λ e. let was = is.placed q0 (subst IsSome (at_apart q (Some []) w.keys q0 e) h) in
        record { side = was.side; locate = was.locate; price = was.price; at_price = still_at was.side was.locate was.price q0 was.at_price });
    apart = λ s t l p m n q0 h k. by_place s l p q0 h
        (λ same e. by_place t m n q0 k
        (λ same2 e2. let a = there_is s0 l0 p0 s l p e in let b = there_is s0 l0 p0 t m n e2 in (sym a.0 ∙ b.0, sym a.1 ∙ b.1, sym a.2 ∙ b.2))
        (λ was e2. clash_at q0 same (is.there t m n q0 was)))
        (λ was e. by_place t m n q0 k
        (λ same e2. clash_at q0 same (is.there s l p q0 was))
        (λ was2 e2. is.apart s t l p m n q0 was was2));
    named = is.named;
    known = λ r j h. let was = is.known r j h in record { order = was.order; there = was.there; reference = was.reference };
    listed = λ j y h. let was = is.listed j y h in
        let some : IsSome (w.keys was.queue) = subst IsSome (sym was.keys_are) refl in
        record {
          queue = was.queue;
          keys = was.keys;
          at_price = still_at y.side y.locate y.price was.queue was.at_price;
          keys_are = at_apart q (Some []) w.keys was.queue (other_key was.queue some) ∙ was.keys_are;
          member = was.member;
        };
    full = λ q0 js j h i. by_test (eqb q q0)
        (λ e. let none : [] ≡ js = same_some (at_same q (Some []) w.keys q0 e) h in absurd (false≢true (subst (λ t. list_any (eqb j) t ≡ true) (sym none) i)))
        (λ e. is.full q0 js j (sym (at_apart q (Some []) w.keys q0 e) ∙ h) i);
  }
    where
      clash_at : {P : Type 0} (q0 : ℕ) → q ≡ q0 → IsSome (w.keys q0) → P
      clash_at q0 same some = absurd (false≢true (sym (other_key q0 some) ∙ subst (λ t. eqb q t ≡ true) same (eqb_itself q)))

  -- every other queue has nodes as before
  pub open_busy : IsBusy w bids asks → IsBusyBut opened bids' asks' q
  open_busy busy s l p q0 h n = by_place s l p q0 h
      (λ same e. absurd (false≢true (sym n ∙ subst (λ t. eqb q t ≡ true) same (eqb_itself q))))
      (λ was e. ap has_keys (at_apart q (Some []) w.keys q0 n) ∙ busy s l p q0 was)

-- after a queue was opened and closed again
pub seen_same : (v v' : Seen) → ((q : ℕ) → v'.keys q ≡ v.keys q) → ((k : ℕ) → v'.orders k ≡ v.orders k) → v' ≡ v
seen_same v v' keys orders = λ i. record { keys = λ q. keys q i; orders = λ k. orders k i }

-- references that refer to the same nodes
pub renamed : (references references' : ℕ → Option ℕ) (bids asks : List (Place × ℕ)) (w : Seen) → ((r : ℕ) → references' r ≡ references r)
    → IsIndexed references bids asks w → IsIndexed references' bids asks w
renamed references references' bids asks w same is = subst (λ (f : ℕ → Option ℕ). IsIndexed f bids asks w) (λ i r. sym (same r) i) is

pub seen_slots : (v v' : Queued) → v'.queues ≡ v.queues → v'.orders ≡ v.orders → seen v' ≡ seen v
seen_slots v v' queues orders = λ i. record { keys = λ q. get_or (queues i) q None; orders = λ k. get_or (orders i) k None }

pub any_err : {T E P : Type 0} (r : Result T E) → P → OnErr r P
any_err (Ok x) p = tt
any_err (Err e) p = p

-- queues with the same orders
pub same_orders : (v v' : Queued) → v'.orders ≡ v.orders → (k : ℕ) → get_or v'.orders k None ≡ get_or v.orders k None
same_orders v v' same k = ap (λ (os : List (Option Order)). get_or os k None) same
