-- The results of queries of an index.
use Rattle.std.proofs.Common.{◌≡◌, ℕ, ◌&&◌, Bool, true, false, not, List, [], ◌∷◌, ◌++◌, filter, find, get_or, Option, Some, None, IsSome, refl, sym, ap, ◌∙◌, subst, arith}
use Rattle.std.specs.List.{AllByRecursion}
use Rattle.itch_book.proofs.BookLemmas.{IsBook-lay}
use Rattle.std.proofs.lemmas.Bool.{false≢true}
use Rattle.std.proofs.lemmas.Bool.Decides.{nat_tests}
use Rattle.itch_codec.specs.declared.orders.Side.{Side}
use Rattle.itch_codec.specs.declared.orders.Side.TheVariants.{Buy, Sell}
use Rattle.itch_book.specs.declared.order.Order.{Order}
use Rattle.itch_book.specs.Orders.{is_level, same_side, level, level_total, fits, AllFit, has_reference, get, stands_before, IsDistinct}
use Rattle.itch_book.specs.Queued.{Seen, found, shown, totals_of}
use Rattle.itch_book.specs.Indexed.{Place, orders_in, line, joined, indexed, queue_of_side, IsIndexed, IsBusy}
use Rattle.itch_book.proofs.Lists.{by_test, All-append_rec, found_passes, absent_in_filter}
use Rattle.itch_book.proofs.Distinct.{has_own, own_reference, head_distinct, tail_distinct}
use Rattle.itch_book.proofs.OrderLemmas.{stands_order, lay_fit, same_side_self, same_side_is, ties_level}
use Rattle.itch_book.proofs.Levels.{ties, in_order-tied}
use Rattle.itch_book.proofs.LinkLemmas.{In, eqb_itself, in_cases}
use Rattle.itch_book.proofs.QueueSteps.{none_some, same_some, inj}
use Rattle.itch_book.proofs.IndexLemmas.{line_at, level_both}

-- a property of every node's order is a property of all orders
pub All-found : (P : Order → Type 0) (orders : ℕ → Option Order) → ((k : ℕ) (x : Order) → orders k ≡ Some x → P x) → (ks : List ℕ) → AllByRecursion P (found orders ks)
All-found P orders h [] = tt
All-found P orders h (k ∷ ks) = by_order (orders k) refl (All-found P orders h ks)
  where
    by_order : (o : Option Order) → orders k ≡ o → AllByRecursion P (found orders ks) → AllByRecursion P (shown o (found orders ks))
    by_order None e rest = rest
    by_order (Some x) e rest = (h k x e, rest)

pub All-joined : (P : Order → Type 0) (v : Seen) → ((k : ℕ) (x : Order) → v.orders k ≡ Some x → P x) → (es : List (Place × ℕ)) → AllByRecursion P (joined v es)
All-joined P v h [] = tt
All-joined P v h (e ∷ es) = All-append_rec P (line v e.1) (joined v es) (by_keys (v.keys e.1)) (All-joined P v h es)
  where
    by_keys : (o : Option (List ℕ)) → AllByRecursion P (orders_in (v.orders) o)
    by_keys None = tt
    by_keys (Some ks) = All-found P (v.orders) h ks

-- orders at the same price tie
level_ties : (l : ℕ) (s : Side) (p : ℕ) (x y : Order) → is_level l s p x ≡ true → is_level l s p y ≡ true → stands_before y x ≡ false
level_ties l s p x y h k =
    let a : l ≡ x.locate = grind (arith, nat_tests) in
    let b : p ≡ x.price = grind (arith, nat_tests) in
    let side : same_side x.side s ≡ true = grind (arith, nat_tests) in
    let c : s ≡ x.side = sym (same_side_is x.side s side) in
    let m : is_level x.locate x.side x.price y ≡ true = subst (λ t. is_level x.locate x.side t y ≡ true) b (subst (λ t. is_level x.locate t p y ≡ true) c (subst (λ t. is_level t s p y ≡ true) a k)) in
    let t : ties stands_before x y ≡ true = ties_level x y ∙ m in
    by_test (stands_before y x) (λ e. absurd (false≢true (sym (not_both (stands_before x y) (stands_before y x) e) ∙ t))) (λ e. e)
  where
    not_both : (u w : Bool) → w ≡ true → (not u && not w) ≡ false
    not_both u w e = by_test u (λ d. simp d refl) (λ d. simp (d, e) refl)

pub level_own : (x : Order) → is_level x.locate x.side x.price x ≡ true
level_own x = let s = same_side_self x.side in let a = eqb_itself x.locate in let b = eqb_itself x.price in simp (s, a, b) refl

module _ (references : ℕ → Option ℕ) (bids asks : List (Place × ℕ)) (v : Seen) (is : IsIndexed references bids asks v) where
  pub all_fit : AllFit (joined v bids ++ joined v asks)
  all_fit = All-append_rec (λ x. fits x ≡ true) (joined v bids) (joined v asks) (All-joined (λ x. fits x ≡ true) v (λ k x h. (is.live k x h).1) bids) (All-joined (λ x. fits x ≡ true) v (λ k x h. (is.live k x h).1) asks)

  -- the orders at a price are the orders of its queue
  pub level_is : (l : ℕ) (s : Side) (p : ℕ) → level (indexed v bids asks) l s p ≡ line_at v (queue_of_side s bids asks l p)
  level_is l s p =
      ap (filter (is_level l s p)) (lay_fit (joined v bids ++ joined v asks) all_fit)
      ∙ in_order-tied stands_before stands_order (is_level l s p) (λ x y h k. level_ties l s p x y h k) (joined v bids ++ joined v asks)
      ∙ level_both v l s p bids asks is.bids_apart is.asks_apart is.levels

  pub level_none : (l : ℕ) (s : Side) (p : ℕ) → queue_of_side s bids asks l p ≡ None → level_total (indexed v bids asks) l s p ≡ (0, 0)
  level_none l s p none = ap totals_of (level_is l s p ∙ ap (line_at v) none)

  pub level_some : (l : ℕ) (s : Side) (p q : ℕ) (ks : List ℕ) → queue_of_side s bids asks l p ≡ Some q → v.keys q ≡ Some ks → level_total (indexed v bids asks) l s p ≡ totals_of (found (v.orders) ks)
  level_some l s p q ks some keys = ap totals_of (level_is l s p ∙ ap (line_at v) some ∙ ap (orders_in (v.orders)) keys)

-- a match in a part of distinct orders is the match in all
pub find_whole : (r : ℕ) (p : Order → Bool) (xs : List Order) (x : Order) → IsDistinct xs → find (has_reference r) (filter p xs) ≡ Some x → get xs r ≡ Some x
find_whole r p [] x d h = h
find_whole r p (y ∷ ys) x d h =
    by_test (has_reference r y)
    (λ e. simp e (by_test (p y)
    (λ f. let it : Some y ≡ Some x = simp (f, e) at h in it)
    (λ f. let it : find (has_reference r) (filter p ys) ≡ Some x = simp f at h in
    let none = absent_in_filter (has_reference r) p ys (subst (λ q. get ys q ≡ None) (own_reference r y e) (head_distinct y ys d)) in
    none_some none it)))
    (λ e. simp e (by_test (p y)
    (λ f. let it : find (has_reference r) (filter p ys) ≡ Some x = simp (f, e) at h in find_whole r p ys x (tail_distinct y ys d) it)
    (λ f. let it : find (has_reference r) (filter p ys) ≡ Some x = simp f at h in find_whole r p ys x (tail_distinct y ys d) it)))

-- a match is found in the part that contains it
pub find_part : (r : ℕ) (p : Order → Bool) (xs : List Order) (x : Order) → find (has_reference r) xs ≡ Some x → p x ≡ true → find (has_reference r) (filter p xs) ≡ Some x
find_part r p [] x h k = h
find_part r p (y ∷ ys) x h k =
    by_test (has_reference r y)
    (λ e. let it : Some y ≡ Some x = simp e at h in
    let f : p y ≡ true = subst (λ z. p z ≡ true) (sym (inj it)) k in simp (f, e) it)
    (λ e. let it : find (has_reference r) ys ≡ Some x = simp e at h in
    let rest = find_part r p ys x it k in
    by_test (p y) (λ f. simp (f, e) rest) (λ f. simp f rest))

-- an order of some nodes is the order of one node
pub found_node : (orders : ℕ → Option Order) (r : ℕ) (ks : List ℕ) (x : Order) → find (has_reference r) (found orders ks) ≡ Some x → (k : ℕ) × (orders k ≡ Some x)
found_node orders r [] x h = absurd (let no_one : ⊥ = cc in no_one)
found_node orders r (k ∷ ks) x h = by_order (orders k) refl h (λ i. found_node orders r ks x i)
  where
    by_order : (o : Option Order) → orders k ≡ o → find (has_reference r) (shown o (found orders ks)) ≡ Some x → (find (has_reference r) (found orders ks) ≡ Some x → (j : ℕ) × (orders j ≡ Some x)) → (j : ℕ) × (orders j ≡ Some x)
    by_order None e i rest = rest i
    by_order (Some y) e i rest =
        by_test (has_reference r y)
        (λ f. let it : Some y ≡ Some x = simp f at i in (k, e ∙ it))
        (λ f. let it : find (has_reference r) (found orders ks) ≡ Some x = simp f at i in rest it)

-- the order of a node is found among the orders of its queue
pub find_found : (orders : ℕ → Option Order) (r k : ℕ) (x : Order) (ks : List ℕ) → In k ks → orders k ≡ Some x → has_reference r x ≡ true → ((j : ℕ) (y : Order) → orders j ≡ Some y → has_reference r y ≡ true → j ≡ k)
    → find (has_reference r) (found orders ks) ≡ Some x
find_found orders r k x [] i here has one = absurd (false≢true i)
find_found orders r k x (j ∷ js) i here has one =
    in_cases k j js i
    (λ e. let o : orders j ≡ Some x = ap orders (sym e) ∙ here in ap (λ t. find (has_reference r) (shown t (found orders js))) o ∙ simp has refl)
    (λ t. by_order (orders j) refl (find_found orders r k x js t here has one))
  where
    by_order : (o : Option Order) → orders j ≡ o → find (has_reference r) (found orders js) ≡ Some x → find (has_reference r) (shown o (found orders js)) ≡ Some x
    by_order None e rest = rest
    by_order (Some y) e rest =
        by_test (has_reference r y)
        (λ f. let same : j ≡ k = one j y e f in
        let it : y ≡ x = same_some e (ap orders same ∙ here) in simp f (ap Some it))
        (λ f. simp f rest)

module _ (references : ℕ → Option ℕ) (bids asks : List (Place × ℕ)) (v : Seen) (is : IsIndexed references bids asks v) where
  pub get_some : (r k : ℕ) (x : Order) → references r ≡ Some k → v.orders k ≡ Some x → get (indexed v bids asks) r ≡ Some x
  get_some r k x node here =
      let known = is.known r k node in
      let reference : x.reference ≡ r = ap (λ (o : Order). o.reference) (same_some here known.there) ∙ known.reference in
      let has : has_reference r x ≡ true = subst (λ t. has_reference t x ≡ true) reference (has_own x) in
      let place = is.listed k x here in
      let level_here : level (indexed v bids asks) x.locate x.side x.price ≡ found (v.orders) place.keys =
      level_is references bids asks v is x.locate x.side x.price ∙ ap (line_at v) place.at_price ∙ ap (orders_in (v.orders)) place.keys_are in
      let it = find_found (v.orders) r k x place.keys place.member here has
      (λ j y there h. same_some (is.named j y there) (ap references (own_reference r y h) ∙ node)) in
      find_whole r (is_level x.locate x.side x.price) (indexed v bids asks) x is.book.distinct (ap (find (has_reference r)) level_here ∙ it)

  pub get_none : (r : ℕ) → references r ≡ None → get (indexed v bids asks) r ≡ None
  get_none r none = by_order (get (indexed v bids asks) r) refl
    where
      here : (x : Order) → (q : Option ℕ) → find (has_reference r) (line_at v q) ≡ Some x → (k : ℕ) × (v.orders k ≡ Some x)
      here x None h = absurd (let no_one : ⊥ = cc in no_one)
      here x (Some q) h = by_keys (v.keys q) h
        where
          by_keys : (o : Option (List ℕ)) → find (has_reference r) (orders_in (v.orders) o) ≡ Some x → (k : ℕ) × (v.orders k ≡ Some x)
          by_keys None h = absurd (let no_one : ⊥ = cc in no_one)
          by_keys (Some ks) h = found_node (v.orders) r ks x h

      by_order : (o : Option Order) → get (indexed v bids asks) r ≡ o → o ≡ None
      by_order None e = refl
      by_order (Some x) e =
          let own : is_level x.locate x.side x.price x ≡ true = level_own x in
          let part = find_part r (is_level x.locate x.side x.price) (indexed v bids asks) x e own in
          let node = here x (queue_of_side x.side bids asks x.locate x.price) (sym (ap (find (has_reference r)) (level_is references bids asks v is x.locate x.side x.price)) ∙ part) in
          let has = found_passes (has_reference r) (indexed v bids asks) x e in
          none_some none (ap references (sym (own_reference r x has)) ∙ is.named node.0 x node.1)

-- the index without orders
pub empty_index : (references : ℕ → Option ℕ) (v : Seen) → ((r : ℕ) → references r ≡ None) → ((k : ℕ) → v.orders k ≡ None) → ((q : ℕ) → v.keys q ≡ None) → IsIndexed references [] [] v
empty_index references v new vacant none = record {
  book = IsBook-lay [] (λ r. omega arith) tt;
  live = λ k x h. none_some (vacant k) h;
  priced = λ k x h. none_some (vacant k) h;
  bids_apart = tt;
  asks_apart = tt;
  levels = λ s l p q h. no_queue s l p q h;
  there = λ s l p q h. no_queue s l p q h;
  placed = λ q h. absurd (false≢true (subst IsSome (none q) h));
  apart = λ s t l p m n q h k. no_queue s l p q h;
  named = λ k x h. none_some (vacant k) h;
  known = λ r k h. none_some (new r) h;
  listed = λ k x h. none_some (vacant k) h;
  full = λ q keys k h i. none_some (none q) h;
}
  where
    no_queue : {P : Type 0} (s : Side) (l p q : ℕ) → queue_of_side s [] [] l p ≡ Some q → P
    no_queue Buy l p q h = absurd (let no_one : ⊥ = cc in no_one)
    no_queue Sell l p q h = absurd (let no_one : ⊥ = cc in no_one)

pub empty_busy : (v : Seen) → IsBusy v [] []
empty_busy v Buy l p q h = absurd (let no_one : ⊥ = cc in no_one)
empty_busy v Sell l p q h = absurd (let no_one : ⊥ = cc in no_one)

pub no_slots : {X : Type 0} (slots : List (Option X)) → slots ≡ [] → (k : ℕ) → get_or slots k None ≡ None
no_slots slots none k = ap (λ os. get_or os k None) none
