-- The orders by arrival after each change.
use Rattle.std.proofs.Common.{◌≡◌, ℕ, ◌≤◌, ◌<◌, ◌+◌, ◌-◌, ◌==◌, true, false, not, eqb, List, [], ◌∷◌, map, length, filter, Option, Some, None, IsSome, IsSomeAnd, option_map, refl, sym, ap, ◌∙◌, subst, arith}
use Rattle.std.specs.List.{AllByRecursion}
use Rattle.std.specs.List.Sorted.{IsPermutation}
use Rattle.std.specs.Map.{lookup, values_of, set_value, remove_entry}
use Rattle.std.proofs.lemmas.Bool.{eqb-true}
use Rattle.std.proofs.lemmas.Bool.Decides.{nat_tests}
use Rattle.std.proofs.lemmas.List.{length-map}
use Rattle.std.proofs.lemmas.List.Sorted.{IsPermutation-map}
use Rattle.std.proofs.ByRecursion.{all_shuffled}
use Rattle.itch_book.specs.declared.order.Order.{Order}
use Rattle.itch_book.specs.declared.arrived.Arrived.{Arrived}
use Rattle.itch_book.specs.StableLists.{in_order}
use Rattle.itch_book.specs.Orders.{get, lay, added, taken, without, less, has_shares, has_reference, IsLive, IsDistinct, IsBook}
use Rattle.itch_book.specs.Settled.{comes_before, its_order, settled, came_at, IsApart, IsArrived, Held}
use Rattle.itch_book.proofs.Lists.{by_test, All-weaker_rec, All-filter_rec, All-map_rec, filter_none, filter_all, filter-map}
use Rattle.itch_book.proofs.StableLemmas.{length-in_order, in_order-twice}
use Rattle.itch_book.proofs.BookLemmas.{IsBook-added, IsBook-taken, IsBook-without, added-book, without-book, taken-book}
use Rattle.itch_book.proofs.SettledLemmas.{arrival_order, found_settled, put_view, shuffled_apart, filter_apart, holds, cut_values, cut_keyed, cut_view, came_distinct, lessen, lessened, Keyed, written_values, written_keyed, less_view}
use Rattle.itch_book.proofs.Distinct.{own_reference, head_distinct, tail_distinct}
use Rattle.itch_book.proofs.PlaceLemmas.{taken_all, without_there}

-- the list alone
abbrev pub orders_of : Held → List Order
orders_of v = v.orders

-- there are as many orders as entries
pub as_many : (es : List (ℕ × Arrived)) → length es ≡ length (settled (values_of es))
as_many es =
    let a = length-map es (λ (e : ℕ × Arrived). e.1) in
    let b = length-in_order comes_before (values_of es) in
    let c = length-map (in_order comes_before (values_of es)) its_order in omega arith

none_there : (o : Option Order) → o ≡ None → IsSome o → ⊥
none_there None e h = let no_one : ⊥ = cc in no_one
none_there (Some x) e h = let no_one : ⊥ = cc in no_one

-- an order in the list is found
pub there : (r next : ℕ) (es : List (ℕ × Arrived)) (os : List Order) → IsArrived es next → settled (values_of es) ≡ os → IsSome (get os r) → IsSome (lookup (eqb r) es)
there r next es os is view some = by (lookup (eqb r) es) refl
  where
    by : (o : Option Arrived) → lookup (eqb r) es ≡ o → IsSome o
    by None e = let none : get os r ≡ None = ap (λ t. get t r) (sym view) ∙ sym (found_settled r next es is) ∙ ap (option_map its_order) e in
        absurd (none_there (get os r) none some)
    by (Some x) e = refl

pub found_there : (r next : ℕ) (es : List (ℕ × Arrived)) (os : List Order) (x : Arrived) → IsArrived es next → settled (values_of es) ≡ os → lookup (eqb r) es ≡ Some x → get os r ≡ Some x.order
found_there r next es os x is view e = ap (λ t. get t r) (sym view) ∙ sym (found_settled r next es is) ∙ ap (option_map its_order) e

pub found_as : (r next : ℕ) (es : List (ℕ × Arrived)) (os : List Order) → IsArrived es next → settled (values_of es) ≡ os → option_map its_order (lookup (eqb r) es) ≡ get os r
found_as r next es os is view = found_settled r next es is ∙ ap (λ (t : List Order). get t r) view

pub fresh_there : (r next : ℕ) (es : List (ℕ × Arrived)) (os : List Order) → IsArrived es next → settled (values_of es) ≡ os → get os r ≡ None → lookup (eqb r) es ≡ None
fresh_there r next es os is view none = by (lookup (eqb r) es) refl
  where
    by : (o : Option Arrived) → lookup (eqb r) es ≡ o → o ≡ None
    by None e = refl
    by (Some x) e = absurd (let no : None ≡ Some x.order = sym none ∙ found_there r next es os x is view e in let no_one : ⊥ = cc in no_one)

-- it is stored under its own reference
pub own_there : (r : ℕ) (es : List (ℕ × Arrived)) (x : Arrived) → AllByRecursion (λ (e : ℕ × Arrived). e.0 ≡ e.1.order.reference) es → lookup (eqb r) es ≡ Some x → x.order.reference ≡ r
own_there r [] x k h = absurd (let no_one : ⊥ = cc in no_one)
own_there r (e ∷ es) x k h =
    by_test (eqb r e.0)
    (λ t. let here : Some e.1 ≡ Some x = simp t at h in let this : e.1 ≡ x = cc in
    subst (λ (y : Arrived). y.order.reference ≡ r) this (sym k.0 ∙ sym (eqb-true r e.0 t)))
    (λ t. own_there r es x k.1 (simp t at h))

abbrev pub arrived_as : Order → ℕ → Arrived
arrived_as x next = record { order = x; arrival = next }

put_apart : (x : Order) (next : ℕ) (xs : List Arrived) → AllByRecursion (λ (y : Arrived). y.arrival < next) xs → IsApart xs → IsApart (arrived_as x next ∷ xs)
put_apart x next xs h apart n =
    by_test (next == n)
    (λ e. let none : filter (came_at n) xs ≡ [] = filter_none (came_at n) xs (All-weaker_rec (λ (y : Arrived). y.arrival < next) (λ y. came_at n y ≡ false) (λ y k. grind (arith, nat_tests)) xs h) in
    let len = ap length none in simp e (omega arith))
    (λ e. simp e (apart n))

module _ (x : Order) (next : ℕ) (es fs : List (ℕ × Arrived)) (is : IsArrived es next) (s : IsPermutation ((x.reference, arrived_as x next) ∷ es) fs) where
  put_values : IsPermutation (arrived_as x next ∷ values_of es) (values_of fs)
  put_values = IsPermutation-map (λ (e : ℕ × Arrived). e.1) ((x.reference, arrived_as x next) ∷ es) fs s

  pub put_is : IsLive x → settled (values_of fs) ≡ lay (added x (settled (values_of es)))
  put_is live =
      put_view (arrived_as x next) (values_of es) (values_of fs) is.earlier put_values (put_apart x next (values_of es) is.earlier is.apart)
      ∙ sym (added-book x (settled (values_of es)) is.book live.1)

  pub put_arrived : IsLive x → get (settled (values_of es)) x.reference ≡ None → IsArrived fs (next + 1)
  put_arrived live fresh = record {
    book = subst IsBook (sym (put_is live)) (IsBook-added x (settled (values_of es)) is.book live fresh);
    keyed = all_shuffled (λ (e : ℕ × Arrived). e.0 ≡ e.1.order.reference) ((x.reference, arrived_as x next) ∷ es) fs s (refl, is.keyed);
    earlier = all_shuffled (λ (y : Arrived). y.arrival < next + 1) (arrived_as x next ∷ values_of es) (values_of fs) put_values
        (omega arith, All-weaker_rec (λ (y : Arrived). y.arrival < next) (λ y. y.arrival < next + 1) (λ y k. omega arith) (values_of es) is.earlier);
    apart = shuffled_apart (arrived_as x next ∷ values_of es) (values_of fs) put_values (put_apart x next (values_of es) is.earlier is.apart);
  }

module _ (r next : ℕ) (es fs : List (ℕ × Arrived)) (is : IsArrived es next) (s : IsPermutation (remove_entry (eqb r) es) fs) where
  left_values : IsPermutation (filter (λ x. not (holds r x)) (values_of es)) (values_of fs)
  left_values =
      subst (λ t. IsPermutation t (values_of fs)) (cut_values r es is.keyed (came_distinct (values_of es) is.book.distinct))
      (IsPermutation-map (λ (e : ℕ × Arrived). e.1) (remove_entry (eqb r) es) fs s)

  pub cut_is : settled (values_of fs) ≡ lay (without r (settled (values_of es)))
  cut_is = cut_view r (values_of es) (values_of fs) is.apart left_values ∙ sym (without-book r (settled (values_of es)) is.book)

  pub cut_arrived : IsArrived fs next
  cut_arrived = record {
    book = subst IsBook (sym cut_is) (IsBook-without r (settled (values_of es)) is.book);
    keyed = all_shuffled (λ (e : ℕ × Arrived). e.0 ≡ e.1.order.reference) (remove_entry (eqb r) es) fs s (cut_keyed r es is.keyed);
    earlier = all_shuffled (λ (y : Arrived). y.arrival < next) (filter (λ x. not (holds r x)) (values_of es)) (values_of fs) left_values
        (All-filter_rec (λ (y : Arrived). y.arrival < next) (λ x. not (holds r x)) (values_of es) is.earlier);
    apart = shuffled_apart (filter (λ x. not (holds r x)) (values_of es)) (values_of fs) left_values (filter_apart (λ x. not (holds r x)) (values_of es) is.apart);
  }

-- an order is removed if all of its shares are taken
all_gone : (r n : ℕ) (xs : List Order) (x : Order) → IsBook xs → get xs r ≡ Some x → x.shares - n ≡ 0 → taken r n xs ≡ without r xs
all_gone r n xs x b found none = taken_all r n xs x b.distinct b.live found none ∙ sym (without_there r xs b.distinct)

pub cut_taken : (r n next : ℕ) (es fs : List (ℕ × Arrived)) (x : Arrived) → IsArrived es next → IsPermutation (remove_entry (eqb r) es) fs → lookup (eqb r) es ≡ Some x → x.order.shares - n ≡ 0
    → settled (values_of fs) ≡ lay (taken r n (settled (values_of es)))
cut_taken r n next es fs x is s found none =
    cut_is r next es fs is s
    ∙ ap lay (sym (all_gone r n (settled (values_of es)) x.order is.book (found_there r next es (settled (values_of es)) x is refl found) none))

-- every order remains if some of its shares are left
some_left : (r n : ℕ) (xs : List Order) (x : Order) → AllByRecursion IsLive xs → IsDistinct xs → get xs r ≡ Some x → 0 < x.shares - n → taken r n xs ≡ map (less r n) xs
some_left r n xs x live d found some = filter_all has_shares (map (less r n) xs) (All-map_rec (λ y. has_shares y ≡ true) (less r n) xs (kept xs live d found))
  where
    others : (ys : List Order) → AllByRecursion IsLive ys → get ys r ≡ None → AllByRecursion (λ y. has_shares (less r n y) ≡ true) ys
    others [] l e = tt
    others (y ∷ ys) l e =
        by_test (has_reference r y)
        (λ h. let no : Some y ≡ None = simp h at e in absurd (let no_one : ⊥ = cc in no_one))
        (λ h. let rest : get ys r ≡ None = simp h at e in
        let shares = l.0.0 in let has : has_shares y ≡ true = grind (arith, nat_tests) in
        (simp h has, others ys l.1 rest))

    kept : (ys : List Order) → AllByRecursion IsLive ys → IsDistinct ys → get ys r ≡ Some x → AllByRecursion (λ y. has_shares (less r n y) ≡ true) ys
    kept [] l d e = tt
    kept (y ∷ ys) l d e =
        by_test (has_reference r y)
        (λ h. let here : Some y ≡ Some x = simp h at e in let this : y ≡ x = cc in
        let none : get ys r ≡ None = subst (λ q. get ys q ≡ None) (own_reference r y h) (head_distinct y ys d) in
        let enough : 0 < y.shares - n = subst (λ (z : Order). 0 < z.shares - n) (sym this) some in
        let has : has_shares (record y { shares = y.shares - n }) ≡ true = grind (arith, nat_tests) in
        (simp h has, others ys l.1 none))
        (λ h. let rest : get ys r ≡ Some x = simp h at e in
        let shares = l.0.0 in let has : has_shares y ≡ true = grind (arith, nat_tests) in
        (simp h has, kept ys l.1 (tail_distinct y ys d) rest))

module _ (r n next : ℕ) (es fs : List (ℕ × Arrived)) (x : Arrived) (is : IsArrived es next) (found : lookup (eqb r) es ≡ Some x) (e : fs ≡ set_value (eqb r) es (lessened n x)) where
  now_values : values_of fs ≡ map (lessen r n) (values_of es)
  now_values = ap (λ (t : List (ℕ × Arrived)). values_of t) e ∙ written_values r n es x is.keyed (came_distinct (values_of es) is.book.distinct) found

  pub written_is : 0 < x.order.shares - n → settled (values_of fs) ≡ lay (taken r n (settled (values_of es)))
  written_is some =
      ap settled now_values ∙ less_view r n (values_of es)
      ∙ sym (some_left r n (settled (values_of es)) x.order is.book.live is.book.distinct (found_there r next es (settled (values_of es)) x is refl found) some)
      ∙ sym (taken-book r n (settled (values_of es)) is.book)

  pub written_arrived : 0 < x.order.shares - n → IsArrived fs next
  written_arrived some = record {
    book = subst IsBook (sym (written_is some)) (IsBook-taken r n (settled (values_of es)) is.book);
    keyed = subst Keyed (sym e) (written_keyed r n es x is.keyed found);
    earlier = subst (AllByRecursion (λ (y : Arrived). y.arrival < next)) (sym now_values) (All-map_rec (λ (y : Arrived). y.arrival < next) (lessen r n) (values_of es) is.earlier);
    apart = subst IsApart (sym now_values) (λ m.
        let a = ap length (filter-map (came_at m) (came_at m) (lessen r n) (λ y. refl) (values_of es)) in
        let b = length-map (filter (came_at m) (values_of es)) (lessen r n) in
        let c = is.apart m in omega arith);
  }

-- orders that were sorted into snapshot order
module _ (next : ℕ) (es fs : List (ℕ × Arrived)) (is : IsArrived es next) (sorted : values_of fs ≡ in_order comes_before (values_of es)) where
  pub settled_is : settled (values_of fs) ≡ settled (values_of es)
  settled_is = ap settled sorted ∙ ap (map its_order) (in_order-twice comes_before arrival_order (values_of es))

  pub settled_stands : values_of fs ≡ in_order comes_before (values_of fs)
  settled_stands = sorted ∙ sym (in_order-twice comes_before arrival_order (values_of es)) ∙ ap (in_order comes_before) (sym sorted)

  pub settled_arrived : IsPermutation es fs → IsArrived fs next
  settled_arrived s =
      let moved = IsPermutation-map (λ (e : ℕ × Arrived). e.1) es fs s in
      record {
        book = subst IsBook (sym settled_is) is.book;
        keyed = all_shuffled (λ (e : ℕ × Arrived). e.0 ≡ e.1.order.reference) es fs s is.keyed;
        earlier = all_shuffled (λ (y : Arrived). y.arrival < next) (values_of es) (values_of fs) moved is.earlier;
        apart = shuffled_apart (values_of es) (values_of fs) moved is.apart;
      }

pub some_there : (o : Option Order) (n : ℕ) → IsSomeAnd o (λ x. n ≤ x.shares) → IsSome o
some_there None n h = absurd h
some_there (Some x) n h = refl

pub enough_there : (o : Option Order) (n : ℕ) (x : Order) → o ≡ Some x → IsSomeAnd o (λ y. n ≤ y.shares) → n ≤ x.shares
enough_there o n x e h = subst (λ t. IsSomeAnd t (λ (y : Order). n ≤ y.shares)) e h
