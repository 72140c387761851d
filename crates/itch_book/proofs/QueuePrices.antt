-- The prices of a queue, and the prices that a book returns.
use Rattle.std.proofs.Common.{◌≡◌, ℕ, ◌<◌, ◌==◌, Bool, true, false, not, ◌&&◌, List, [], ◌∷◌, ◌++◌, length, Option, Some, None, option_map, refl, sym, ap, ◌∙◌, subst, append_assoc, arith}
use Rattle.std.specs.List.{filter, find, AllByRecursion}
use Rattle.std.proofs.lemmas.Bool.Decides.{nat_tests}
use Rattle.itch_codec.specs.declared.orders.Side.{Side}
use Rattle.itch_codec.specs.declared.orders.Side.TheVariants.{Buy, Sell}
use Rattle.itch_book.specs.declared.order.Order.{Order}
use Rattle.itch_book.specs.StableLists.{IsInOrder}
use Rattle.itch_book.specs.Orders.{is_better, is_of, is_worse, is_at_price, next_price, level, queue, IsBook, IsQueue}
use Rattle.itch_book.specs.Prices.{prices}
use Rattle.itch_book.proofs.Lists.{by_test, All-weaker_rec, All-filter_rec, All-both_rec, All-right_rec, passes_filter, filter_all, filter_within}
use Rattle.itch_book.proofs.BookLemmas.{queue-book}
use Rattle.itch_book.proofs.QueueLemmas.{IsQueue-queue, not_itself}

-- the first of these prices, if there is one
abbrev pub first_price : List ℕ → Option ℕ
first_price [] = None
first_price (p ∷ ps) = Some p

-- a price other than this one
abbrev other_than : ℕ → ℕ → Bool
other_than price p = not (p == price)

passes_other : (P : ℕ → Bool) (price : ℕ) → P price ≡ false → (p : ℕ) → P p ≡ true → other_than price p ≡ true
passes_other P price fails p passes = by_test (p == price) (λ same. absurd (let here : p ≡ price = grind (arith, nat_tests) in let no : P p ≡ false = ap P here ∙ fails in cc)) (λ differ. ap not differ)

-- the first order whose price meets a condition has the first price that meets it
pub found_price : (P : ℕ → Bool) (xs : List Order) → option_map (λ x. x.price) (find (λ x. P x.price) xs) ≡ first_price (filter P (prices xs))
found_price P [] = refl
found_price P (x ∷ xs) =
    by_test (P x.price)
    (λ passes. simp passes refl)
    (λ fails.
    let skip : option_map (λ y. y.price) (find (λ y. P y.price) (x ∷ xs)) ≡ option_map (λ y. y.price) (find (λ y. P y.price) xs) = simp fails refl in
    let drops : filter P (prices (x ∷ xs)) ≡ filter P (filter (other_than x.price) (prices xs)) = simp fails refl in
    skip ∙ found_price P xs ∙ ap first_price (sym (drops ∙ filter_within P (other_than x.price) (passes_other P x.price fails) (prices xs))))

-- two conditions at once
pub filter_both : {X : Type 0} (p q : X → Bool) (xs : List X) → filter (λ x. p x && q x) xs ≡ filter q (filter p xs)
filter_both p q [] = refl
filter_both p q (x ∷ xs) =
    by_test (p x)
    (λ passes. by_test (q x)
    (λ also. let both : (p x && q x) ≡ true = simp passes also in simp passes (simp also (ap (λ ys. x ∷ ys) (filter_both p q xs))))
    (λ never. simp passes (simp never (filter_both p q xs))))
    (λ fails. simp fails (filter_both p q xs))

find_both : (p q : Order → Bool) (xs : List Order) → find (λ x. p x && q x) xs ≡ find q (filter p xs)
find_both p q [] = refl
find_both p q (x ∷ xs) =
    by_test (p x)
    (λ passes. by_test (q x) (λ also. simp passes (simp also refl)) (λ never. simp passes (simp never (find_both p q xs))))
    (λ fails. simp fails (find_both p q xs))

-- the next price of a book is the first price of the queue that is worse than the last
pub next_is : (orders : List Order) (l : ℕ) (s : Side) (last : Option ℕ) → IsBook orders → next_price orders l s last ≡ first_price (filter (is_worse s last) (prices (queue orders l s)))
next_is orders l s last book =
    ap (option_map (λ x. x.price)) (find_both (is_of l s) (λ x. is_worse s last x.price) orders ∙ ap (find (λ x. is_worse s last x.price)) (sym (queue-book orders l s book)))
    ∙ found_price (is_worse s last) (queue orders l s)

-- the orders at a price are those of the queue at that price
pub level_is : (orders : List Order) (l : ℕ) (s : Side) (price : ℕ) → level orders l s price ≡ filter (is_at_price price) (queue orders l s)
level_is orders l s price = filter_both (is_of l s) (is_at_price price) orders ∙ sym (IsQueue.as_they_came (IsQueue-queue orders l s) price)

-- each price is better than those after it
abbrev Worsen : Side → List ℕ → Type 0
Worsen s [] = Unit {0}
Worsen s (p ∷ ps) = AllByRecursion (λ q. is_better s p q ≡ true) ps × Worsen s ps

one_better : (s : Side) (p q : ℕ) → other_than p q ≡ true → is_better s q p ≡ false → is_better s p q ≡ true
one_better Buy p q differ not_better = grind (arith, nat_tests)
one_better Sell p q differ not_better = grind (arith, nat_tests)

not_both : (s : Side) (p q : ℕ) → is_better s p q ≡ true → is_better s q p ≡ false
not_both Buy p q better = grind (arith, nat_tests)
not_both Sell p q better = grind (arith, nat_tests)

Worsen-filter : (s : Side) (test : ℕ → Bool) (ps : List ℕ) → Worsen s ps → Worsen s (filter test ps)
Worsen-filter s test [] h = tt
Worsen-filter s test (p ∷ ps) h =
    by_test (test p)
    (λ passes. simp passes (All-filter_rec (λ q. is_better s p q ≡ true) test ps h.0, Worsen-filter s test ps h.1))
    (λ fails. simp fails (Worsen-filter s test ps h.1))

All-prices : (P : ℕ → Type 0) (xs : List Order) → AllByRecursion (λ x. P x.price) xs → AllByRecursion P (prices xs)
All-prices P [] h = tt
All-prices P (x ∷ xs) h = (h.0, All-filter_rec P (other_than x.price) (prices xs) (All-prices P xs h.1))

-- the prices of orders sorted by price get worse
prices_worsen : (s : Side) (xs : List Order) → IsInOrder (λ x y. is_better s x.price y.price) xs → Worsen s (prices xs)
prices_worsen s [] h = tt
prices_worsen s (x ∷ xs) h = (
  All-weaker_rec (λ q. (is_better s q x.price ≡ false) × (other_than x.price q ≡ true)) (λ q. is_better s x.price q ≡ true) (λ q both. one_better s x.price q both.1 both.0)
      (filter (other_than x.price) (prices xs))
      (All-both_rec (λ q. is_better s q x.price ≡ false) (λ q. other_than x.price q ≡ true) (filter (other_than x.price) (prices xs))
      (All-filter_rec (λ q. is_better s q x.price ≡ false) (other_than x.price) (prices xs) (All-prices (λ q. is_better s q x.price ≡ false) xs h.0))
      (passes_filter (other_than x.price) (prices xs))),
  Worsen-filter s (other_than x.price) (prices xs) (prices_worsen s xs h.1),
)

-- the prices after a price are exactly the worse ones
worse_after : (s : Side) (before rest : List ℕ) (p : ℕ) → Worsen s (before ++ p ∷ rest) → filter (is_worse s (Some p)) (before ++ p ∷ rest) ≡ rest
worse_after s [] rest p h = let own = not_itself s p in simp own (filter_all (is_worse s (Some p)) rest h.0)
worse_after s (q ∷ before) rest p h =
    let after_q : AllByRecursion (λ r. is_better s q r ≡ true) (p ∷ rest) = All-right_rec (λ r. is_better s q r ≡ true) before (p ∷ rest) h.0 in
    let skipped : is_better s p q ≡ false = not_both s q p after_q.0 in
    simp skipped (worse_after s before rest p h.1)

-- the prices of a queue after these were processed, the last of them last; the remaining ones are worse than it
pub record DonePrices (orders : List Order) (l : ℕ) (s : Side) (last : Option ℕ) (done : List ℕ) : Type 0 where
  pub whole : prices (queue orders l s) ≡ done ++ filter (is_worse s last) (prices (queue orders l s))

every_worse : (s : Side) (ps : List ℕ) → filter (is_worse s None) ps ≡ ps
every_worse s [] = refl
every_worse s (p ∷ ps) = ap (λ qs. p ∷ qs) (every_worse s ps)

pub none_done : (orders : List Order) (l : ℕ) (s : Side) → DonePrices orders l s None []
none_done orders l s = record { whole = sym (every_worse s (prices (queue orders l s))) }

-- the remaining prices after the next price of a book
pub record NextPrice (orders : List Order) (l : ℕ) (s : Side) (last : Option ℕ) (price : ℕ) : Type 0 where
  pub rest : List ℕ
  pub here : filter (is_worse s last) (prices (queue orders l s)) ≡ price ∷ rest
  pub following : filter (is_worse s (Some price)) (prices (queue orders l s)) ≡ rest

module _ (orders : List Order) (l : ℕ) (s : Side) (last : Option ℕ) (done : List ℕ) (price : ℕ) (book : IsBook orders) (so_far : DonePrices orders l s last done) where
  here_first : (ps : List ℕ) → filter (is_worse s last) (prices (queue orders l s)) ≡ ps → first_price ps ≡ Some price → NextPrice orders l s last price
  here_first [] is first = absurd (let no : None ≡ Some price = first in cc)
  here_first (p ∷ ps) is first =
      let same : p ≡ price = cc in
      let there : filter (is_worse s last) (prices (queue orders l s)) ≡ price ∷ ps = is ∙ ap (λ q. q ∷ ps) same in
      let whole : prices (queue orders l s) ≡ done ++ price ∷ ps = so_far.whole ∙ ap (λ qs. done ++ qs) there in
      let worsen : Worsen s (prices (queue orders l s)) = prices_worsen s (queue orders l s) (IsQueue.better_first (IsQueue-queue orders l s)) in
      record {
        rest = ps;
        here = there;
        following = ap (filter (is_worse s (Some price))) whole ∙ worse_after s done ps price (subst (Worsen s) whole worsen);
      }

  pub next_parts : next_price orders l s last ≡ Some price → NextPrice orders l s last price
  next_parts is = here_first (filter (is_worse s last) (prices (queue orders l s))) refl (sym (next_is orders l s last book) ∙ is)

  pub one_done : next_price orders l s last ≡ Some price → DonePrices orders l s (Some price) (done ++ price ∷ [])
  one_done is =
      let next = next_parts is in
      record {
        whole = so_far.whole ∙ ap (λ qs. done ++ qs) (next.here ∙ ap (λ qs. price ∷ qs) (sym next.following))
            ∙ sym (append_assoc done (price ∷ []) (filter (is_worse s (Some price)) (prices (queue orders l s))));
      }

  -- one fewer price remains
  pub one_fewer : next_price orders l s last ≡ Some price
      → length (filter (is_worse s (Some price)) (prices (queue orders l s))) < length (filter (is_worse s last) (prices (queue orders l s)))
  one_fewer is = let next = next_parts is in omega (arith, ap length next.here, ap length next.following)

-- no price remains if there is no next price
pub none_left : (orders : List Order) (l : ℕ) (s : Side) (last : Option ℕ) → IsBook orders → next_price orders l s last ≡ None
    → filter (is_worse s last) (prices (queue orders l s)) ≡ []
none_left orders l s last book is = nothing (filter (is_worse s last) (prices (queue orders l s))) (sym (next_is orders l s last book) ∙ is) where
  nothing : (ps : List ℕ) → first_price ps ≡ None → ps ≡ []
  nothing [] none = refl
  nothing (p ∷ ps) some = absurd (cc some)
