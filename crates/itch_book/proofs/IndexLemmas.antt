-- The orders at a price are the orders of its queue.
use Rattle.std.proofs.Common.{◌≡◌, ℕ, true, false, List, [], ◌∷◌, ◌++◌, filter, Option, Some, None, refl, sym, ap, ◌∙◌, subst, arith, append-nil}
use Rattle.std.specs.declared.cmp.Ordering.{Ordering}
use Rattle.std.specs.Ordering.{nat_cmp, ordering_then, is_eq}
use Rattle.std.specs.declared.cmp.Ordering.TheVariants.{Less, Equal, Greater}
use Rattle.std.specs.List.{AllByRecursion}
use Rattle.std.specs.BTreeMap.{is_at}
use Rattle.std.proofs.lemmas.Bool.{false≢true}
use Rattle.std.proofs.lemmas.Bool.Decides.{nat_tests}
use Rattle.std.proofs.lemmas.Map.Lookups.{exact_unsigned, exact_pairs}
use Rattle.std.proofs.lemmas.List.Elements.{filter-append}
use Rattle.itch_codec.specs.declared.orders.Side.{Side}
use Rattle.itch_codec.specs.declared.orders.Side.TheVariants.{Buy, Sell}
use Rattle.itch_book.specs.declared.order.Order.{Order}
use Rattle.itch_book.specs.Orders.{is_level, same_side, level}
use Rattle.itch_book.specs.Queued.{Seen}
use Rattle.itch_book.specs.Indexed.{Place, place_cmp, queue_at, AreApart, line, joined, queue_of_side}
use Rattle.itch_book.proofs.Lists.{by_test, filter_none, filter_all, All-weaker_rec}
use Rattle.itch_book.proofs.OrderLemmas.{same_side_is}

-- the orders of a queue, if there is one
abbrev pub line_at : Seen → Option ℕ → List Order
line_at v None = []
line_at v (Some q) = line v q

-- the orders of a queue are all at one price
abbrev pub IsAt : Seen → Side → Place × ℕ → Type 0
IsAt v side e = AllByRecursion (λ x. is_level e.0.0 side e.0.1 x ≡ true) (line v e.1)

-- a query for a place finds only that place
pub place_is : (a b : Place) → is_at (place_cmp a) b ≡ true → a ≡ b
place_is a b h = exact_pairs nat_cmp nat_cmp exact_unsigned exact_unsigned a b (equal (place_cmp a b) h)
  where
    equal : (o : Ordering) → is_eq o ≡ true → o ≡ Equal
    equal Less h = absurd (false≢true h)
    equal Equal h = refl
    equal Greater h = absurd (false≢true h)

-- the place of an order at a level
pub level_place : (l : ℕ) (s : Side) (p m : ℕ) (q : ℕ) (x : Order) → is_level l s p x ≡ true → is_level m s q x ≡ true → ◌≡◌ {A = ℕ × ℕ} (l, p) (m, q)
level_place l s p m q x h k = let a : l ≡ m = grind (arith, nat_tests) in let b : p ≡ q = grind (arith, nat_tests) in λ i. (a i, b i)

pub place_self : (a : Place) → is_at (place_cmp a) a ≡ true
place_self a = eq_self (ordering_then (nat_cmp a.0 a.0) (nat_cmp a.1 a.1)) (both a.0 a.1)
  where
    itself : (m : ℕ) → nat_cmp m m ≡ Equal
    itself m = grind (arith, nat_tests)

    both : (m n : ℕ) → ordering_then (nat_cmp m m) (nat_cmp n n) ≡ Equal
    both m n = let a = itself m in let b = itself n in simp (a, b) refl

    eq_self : (o : Ordering) → o ≡ Equal → is_eq o ≡ true
    eq_self o h = ap is_eq h

-- the other side has no orders at a price
pub other_side : (l : ℕ) (s t : Side) (p m q : ℕ) (x : Order) → same_side s t ≡ false → is_level l s p x ≡ true → is_level m t q x ≡ true → ⊥
other_side l s t p m q x apart h k = by_sides s t apart x.side (side_of l s p x h) (side_of m t q x k)
  where
    side_of : (l : ℕ) (s : Side) (p : ℕ) (x : Order) → is_level l s p x ≡ true → same_side x.side s ≡ true
    side_of l s p x h = grind (arith, nat_tests)

    by_sides : (s t : Side) → same_side s t ≡ false → (u : Side) → same_side u s ≡ true → same_side u t ≡ true → ⊥
    by_sides s t apart u a b =
        let e = same_side_is u s a in let f = same_side_is u t b in
        false≢true (sym apart ∙ subst (λ v. same_side v t ≡ true) e b)

module _ (v : Seen) where
  -- the queue contains no orders of another level
  none_here : (l : ℕ) (s : Side) (p : ℕ) (e : Place × ℕ) → is_at (place_cmp (l, p)) e.0 ≡ false → IsAt v s e → filter (is_level l s p) (line v e.1) ≡ []
  none_here l s p e apart at = filter_none (is_level l s p) (line v e.1) (All-weaker_rec (λ x. is_level e.0.0 s e.0.1 x ≡ true) (λ x. is_level l s p x ≡ false)
      (λ x h. by_test (is_level l s p x)
      (λ k. absurd (false≢true (sym apart ∙ subst (λ (a : Place). is_at (place_cmp (l, p)) a ≡ true) (level_place l s p e.0.0 e.0.1 x k h) (place_self (l, p)))))
      (λ n. n)) (line v e.1) at)

  none_left : (l : ℕ) (s : Side) (p : ℕ) (es : List (Place × ℕ)) → queue_at es l p ≡ None → AllByRecursion (IsAt v s) es → filter (is_level l s p) (joined v es) ≡ []
  none_left l s p [] none at = refl
  none_left l s p (e ∷ es) none at = by_test (is_at (place_cmp (l, p)) e.0)
      (λ h. let no : Some e.1 ≡ None = simp h at none in absurd (let no_one : ⊥ = cc in no_one))
      (λ h. let later : queue_at es l p ≡ None = simp h at none in
      filter-append (is_level l s p) (line v e.1) (joined v es)
      ∙ ap (λ t. t ++ filter (is_level l s p) (joined v es)) (none_here l s p e h at.0)
      ∙ none_left l s p es later at.1)

  -- the orders at a price of a side are the orders of the queue there
  pub level_joined : (l : ℕ) (s : Side) (p : ℕ) (es : List (Place × ℕ)) → AreApart es → AllByRecursion (IsAt v s) es → filter (is_level l s p) (joined v es) ≡ line_at v (queue_at es l p)
  level_joined l s p [] apart at = refl
  level_joined l s p (e ∷ es) apart at =
      filter-append (is_level l s p) (line v e.1) (joined v es) ∙
      by_test (is_at (place_cmp (l, p)) e.0)
      (λ h. let is : e.0 ≡ (l, p) = sym (place_is (l, p) e.0 h) in
      let all : AllByRecursion (λ x. is_level l s p x ≡ true) (line v e.1) = subst (λ (a : Place). AllByRecursion (λ x. is_level a.0 s a.1 x ≡ true) (line v e.1)) is at.0 in
      let rest = none_left l s p es (subst (λ (a : Place). queue_at es a.0 a.1 ≡ None) is apart.0) at.1 in
      simp h (ap (λ t. filter (is_level l s p) (line v e.1) ++ t) rest ∙ append-nil (filter (is_level l s p) (line v e.1)) ∙ filter_all (is_level l s p) (line v e.1) all))
      (λ h. simp h (ap (λ t. t ++ filter (is_level l s p) (joined v es)) (none_here l s p e h at.0) ∙ level_joined l s p es apart.1 at.1))

  -- and no order is on the other side
  pub level_other : (l : ℕ) (s t : Side) (p : ℕ) (es : List (Place × ℕ)) → same_side s t ≡ false → AllByRecursion (IsAt v t) es → filter (is_level l s p) (joined v es) ≡ []
  level_other l s t p [] apart at = refl
  level_other l s t p (e ∷ es) apart at =
      filter-append (is_level l s p) (line v e.1) (joined v es)
      ∙ ap (λ r. r ++ filter (is_level l s p) (joined v es)) (filter_none (is_level l s p) (line v e.1) (All-weaker_rec (λ x. is_level e.0.0 t e.0.1 x ≡ true) (λ x. is_level l s p x ≡ false)
      (λ x h. by_test (is_level l s p x) (λ k. absurd (other_side l s t p e.0.0 e.0.1 x apart k h)) (λ n. n)) (line v e.1) at.0))
      ∙ level_other l s t p es apart at.1

  -- a property of each place that is found is a property of each entry
  by_entries : (P : Place × ℕ → Type 0) (es : List (Place × ℕ)) → AreApart es → ((l p q : ℕ) → queue_at es l p ≡ Some q → P ((l, p), q)) → AllByRecursion P es
  by_entries P [] apart h = tt
  by_entries P (e ∷ es) apart h = (
    h e.0.0 e.0.1 e.1 (let own = place_self e.0 in simp own refl),
    by_entries P es apart.1 (λ l p q it. h l p q (later l p q it)),
  )
    where
      later : (l p q : ℕ) → queue_at es l p ≡ Some q → queue_at (e ∷ es) l p ≡ Some q
      later l p q it =
          by_test (is_at (place_cmp (l, p)) e.0)
          (λ f. let is : (l, p) ≡ e.0 = place_is (l, p) e.0 f in
          let none : queue_at es l p ≡ None = subst (λ (a : Place). queue_at es a.0 a.1 ≡ None) (sym is) apart.0 in
          let no : Some q ≡ None = sym it ∙ none in absurd (let no_one : ⊥ = cc in no_one))
          (λ f. simp f it)

  -- the same over both sides
  pub level_both : (l : ℕ) (s : Side) (p : ℕ) (bids asks : List (Place × ℕ)) → AreApart bids → AreApart asks
      → ((t : Side) (m n q : ℕ) → queue_of_side t bids asks m n ≡ Some q → AllByRecursion (λ x. is_level m t n x ≡ true) (line v q))
      → level (joined v bids ++ joined v asks) l s p ≡ line_at v (queue_of_side s bids asks l p)
  level_both l Buy p bids asks b a at =
      filter-append (is_level l Buy p) (joined v bids) (joined v asks) ∙ ap (λ t. filter (is_level l Buy p) (joined v bids) ++ t) (level_other l Buy Sell p asks refl (by_entries (IsAt v Sell) asks a (at Sell)))
      ∙ append-nil (filter (is_level l Buy p) (joined v bids)) ∙ level_joined l Buy p bids b (by_entries (IsAt v Buy) bids b (at Buy))
  level_both l Sell p bids asks b a at =
      filter-append (is_level l Sell p) (joined v bids) (joined v asks) ∙ ap (λ t. t ++ filter (is_level l Sell p) (joined v asks)) (level_other l Sell Buy p bids refl (by_entries (IsAt v Buy) bids b (at Buy)))
      ∙ level_joined l Sell p asks a (by_entries (IsAt v Sell) asks a (at Sell))
