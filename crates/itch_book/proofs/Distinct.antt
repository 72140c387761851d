-- Orders with distinct references, and orders that may be live.
use Rattle.std.proofs.Common.{◌≡◌, ℕ, ◌≤◌, ◌<◌, ◌-◌, nat_lt, Bool, true, not, List, [], ◌∷◌, map, length, filter, find, Option, Some, None, refl, ap, ◌∙◌, subst, arith, length-append}
use Rattle.std.specs.List.{AllByRecursion}
use Rattle.std.specs.Cmp.{IsStrictWeakOrder}
use Rattle.std.proofs.lemmas.Bool.{cond_both}
use Rattle.std.proofs.lemmas.Bool.Decides.{nat_tests}
use Rattle.std.proofs.lemmas.List.Elements.{filter-append}
use Rattle.itch_book.specs.declared.order.Order.{Order}
use Rattle.itch_book.specs.StableLists.{in_order}
use Rattle.itch_book.specs.Orders.{first, fits, AllFit, has_reference, get, without, less, has_shares, taken, added, replaced_by, replaced, IsDistinct, IsLive}
use Rattle.std.proofs.lemmas.List.{length-map}
use Rattle.itch_book.proofs.Lists.{by_test, All-append_rec, All-filter_rec, All-map_rec, All-weaker_rec, All-both_rec, All-found_rec, passes_filter, filter_swap, filter-map, length_filter_le, absent_in_filter}
use Rattle.itch_book.proofs.StableLemmas.{in_order-filter, length-in_order}

-- the first match is the first element that a filter keeps
pub find_first : (p : Order → Bool) (xs : List Order) → find p xs ≡ first (filter p xs)
find_first p [] = refl
find_first p (x ∷ xs) = by_test (p x) (λ e. simp e refl) (λ e. simp e (find_first p xs))

-- if there is no match, a filter keeps nothing
pub walk_none : (p : Order → Bool) (xs : List Order) → find p xs ≡ None → filter p xs ≡ []
walk_none p [] h = refl
walk_none p (x ∷ xs) h =
    by_test (p x)
    (λ e. let some : Some x ≡ None = simp e at h in absurd (let no_one : ⊥ = cc in no_one))
    (λ e. let less : find p xs ≡ None = simp e at h in simp e (walk_none p xs less))

pub has_own : (x : Order) → has_reference x.reference x ≡ true
has_own x = grind (arith, nat_tests)

pub own_reference : (r : ℕ) (x : Order) → has_reference r x ≡ true → x.reference ≡ r
own_reference r x h = grind (arith, nat_tests)

pub tail_distinct : (x : Order) (xs : List Order) → IsDistinct (x ∷ xs) → IsDistinct xs
tail_distinct x xs d r =
    by_test (has_reference r x)
    (λ e. let one : length (x ∷ filter (has_reference r) xs) ≤ 1 = simp e at (d r) in omega arith)
    (λ e. let one : length (filter (has_reference r) xs) ≤ 1 = simp e at (d r) in one)

-- no other order has the reference of the first
pub head_distinct : (x : Order) (xs : List Order) → IsDistinct (x ∷ xs) → get xs x.reference ≡ None
head_distinct x xs d =
    let e = has_own x in
    let one : length (x ∷ filter (has_reference x.reference) xs) ≤ 1 = simp e at (d x.reference) in
    find_first (has_reference x.reference) xs ∙ none (filter (has_reference x.reference) xs) (omega arith)
  where
    none : (ys : List Order) → length ys ≤ 0 → first ys ≡ None
    none [] h = refl
    none (y ∷ ys) h = absurd (omega arith)

pub IsDistinct-cons : (x : Order) (xs : List Order) → get xs x.reference ≡ None → IsDistinct xs → IsDistinct (x ∷ xs)
IsDistinct-cons x xs h d r =
    cond_both (has_reference r x) (x ∷ filter (has_reference r) xs) (filter (has_reference r) xs) (λ t. length t ≤ 1)
    (λ e. let none : filter (has_reference r) xs ≡ [] = walk_none (has_reference r) xs (subst (λ q. get xs q ≡ None) (own_reference r x e) h) in
    let len = ap length none in omega arith)
    (λ e. d r)

pub IsDistinct-filter : (p : Order → Bool) (xs : List Order) → IsDistinct xs → IsDistinct (filter p xs)
IsDistinct-filter p xs d r =
    let swapped = ap length (filter_swap (has_reference r) p xs) in
    let fewer = length_filter_le p (filter (has_reference r) xs) in
    let one = d r in omega arith

pub IsDistinct-in_order : (before : Order → Order → Bool) → IsStrictWeakOrder before → (xs : List Order) → IsDistinct xs → IsDistinct (in_order before xs)
IsDistinct-in_order before o xs d r =
    let sorted = ap length (in_order-filter before o (has_reference r) xs) in
    let same = length-in_order before (filter (has_reference r) xs) in
    let one = d r in omega arith

-- a change that does not affect the references
pub IsDistinct-map : (f : Order → Order) → ((r : ℕ) (x : Order) → has_reference r (f x) ≡ has_reference r x) → (xs : List Order) → IsDistinct xs → IsDistinct (map f xs)
IsDistinct-map f same xs d r =
    let kept = ap length (filter-map (has_reference r) (has_reference r) f (same r) xs) in
    let len = length-map (filter (has_reference r) xs) f in
    let one = d r in omega arith

pub IsDistinct-added : (x : Order) (xs : List Order) → get xs x.reference ≡ None → IsDistinct xs → IsDistinct (added x xs)
IsDistinct-added x xs h d r =
    let parts = ap length (filter-append (has_reference r) xs (x ∷ [])) ∙ length-append (filter (has_reference r) xs) (filter (has_reference r) (x ∷ [])) in
    let one = d r in
    by_test (has_reference r x)
    (λ e. let none : filter (has_reference r) xs ≡ [] = walk_none (has_reference r) xs (subst (λ q. get xs q ≡ None) (own_reference r x e) h) in
    let len = ap length none in
    let last : length (filter (has_reference r) (x ∷ [])) ≡ 1 = simp e refl in omega arith)
    (λ e. let last : length (filter (has_reference r) (x ∷ [])) ≡ 0 = simp e refl in omega arith)

pub IsDistinct-without : (r : ℕ) (xs : List Order) → IsDistinct xs → IsDistinct (without r xs)
IsDistinct-without r xs d = IsDistinct-filter (λ x. not (has_reference r x)) xs d

less_reference : (r n q : ℕ) (x : Order) → has_reference q (less r n x) ≡ has_reference q x
less_reference r n q x = cond_both (has_reference r x) (record x { shares = x.shares - n }) x (λ y. has_reference q y ≡ has_reference q x) (λ e. refl) (λ e. refl)

pub IsDistinct-taken : (r n : ℕ) (xs : List Order) → IsDistinct xs → IsDistinct (taken r n xs)
IsDistinct-taken r n xs d = IsDistinct-filter has_shares (map (less r n) xs) (IsDistinct-map (less r n) (λ q x. less_reference r n q x) xs d)

pub IsDistinct-replaced : (original reference shares price : ℕ) (xs : List Order) → get xs reference ≡ None → IsDistinct xs → IsDistinct (replaced original reference shares price xs)
IsDistinct-replaced original reference shares price xs h d = by_order (get xs original)
  where
    by_order : (found : Option Order) → IsDistinct (replaced_by found original reference shares price xs)
    by_order None = d
    by_order (Some x) =
        IsDistinct-added (record x { reference = reference; shares = shares; price = price }) (without original xs)
        (absent_in_filter (has_reference reference) (λ y. not (has_reference original y)) xs h) (IsDistinct-without original xs d)

pub live_fit : (xs : List Order) → AllByRecursion IsLive xs → AllFit xs
live_fit xs h = All-weaker_rec IsLive (λ x. fits x ≡ true) (λ x live. live.1) xs h

-- a property of the locate of every order, which each change preserves
abbrev pub AllAt : (ℕ → Type 0) → List Order → Type 0
AllAt P orders = AllByRecursion (λ x. P x.locate) orders

pub AllAt-added : (P : ℕ → Type 0) (x : Order) (xs : List Order) → P x.locate → AllAt P xs → AllAt P (added x xs)
AllAt-added P x xs h all = All-append_rec (λ y. P y.locate) xs (x ∷ []) all (h, tt)

pub AllAt-without : (P : ℕ → Type 0) (r : ℕ) (xs : List Order) → AllAt P xs → AllAt P (without r xs)
AllAt-without P r xs all = All-filter_rec (λ y. P y.locate) (λ x. not (has_reference r x)) xs all

less_locate : (P : ℕ → Type 0) (r n : ℕ) (x : Order) → P x.locate → P (less r n x).locate
less_locate P r n x h = cond_both (has_reference r x) (record x { shares = x.shares - n }) x (λ y. P y.locate) (λ e. h) (λ e. h)

pub AllAt-taken : (P : ℕ → Type 0) (r n : ℕ) (xs : List Order) → AllAt P xs → AllAt P (taken r n xs)
AllAt-taken P r n xs all =
    All-filter_rec (λ y. P y.locate) has_shares (map (less r n) xs)
    (All-map_rec (λ y. P y.locate) (less r n) xs (All-weaker_rec (λ y. P y.locate) (λ y. P (less r n y).locate) (λ y h. less_locate P r n y h) xs all))

pub AllAt-replaced : (P : ℕ → Type 0) (original reference shares price : ℕ) (xs : List Order) → AllAt P xs → AllAt P (replaced original reference shares price xs)
AllAt-replaced P original reference shares price xs all = by_order (get xs original) refl
  where
    by_order : (found : Option Order) → get xs original ≡ found → AllAt P (replaced_by found original reference shares price xs)
    by_order None e = all
    by_order (Some x) e =
        AllAt-added P (record x { reference = reference; shares = shares; price = price }) (without original xs)
        (All-found_rec (λ y. P y.locate) (has_reference original) xs x all e) (AllAt-without P original xs all)

-- orders that may be live remain so
pub live_added : (x : Order) (xs : List Order) → IsLive x → AllByRecursion IsLive xs → AllByRecursion IsLive (added x xs)
live_added x xs h all = All-append_rec IsLive xs (x ∷ []) all (h, tt)

pub live_without : (r : ℕ) (xs : List Order) → AllByRecursion IsLive xs → AllByRecursion IsLive (without r xs)
live_without r xs all = All-filter_rec IsLive (λ x. not (has_reference r x)) xs all

pub live_taken : (r n : ℕ) (xs : List Order) → AllByRecursion IsLive xs → AllByRecursion IsLive (taken r n xs)
live_taken r n xs all =
    All-weaker_rec (λ x. (has_shares x ≡ true) × (fits x ≡ true)) IsLive (λ x h. (let some = h.0 in grind (arith, nat_tests), h.1)) (taken r n xs)
    (All-both_rec (λ x. has_shares x ≡ true) (λ x. fits x ≡ true) (taken r n xs)
    (passes_filter has_shares (map (less r n) xs))
    (AllAt-taken (λ l. nat_lt l 65536 ≡ true) r n xs (live_fit xs all)))

pub live_replaced : (original reference shares price : ℕ) (xs : List Order) → 0 < shares → AllByRecursion IsLive xs → AllByRecursion IsLive (replaced original reference shares price xs)
live_replaced original reference shares price xs some all = by_order (get xs original) refl
  where
    by_order : (found : Option Order) → get xs original ≡ found → AllByRecursion IsLive (replaced_by found original reference shares price xs)
    by_order None e = all
    by_order (Some x) e =
        let was : IsLive x = All-found_rec IsLive (has_reference original) xs x all e in
        live_added (record x { reference = reference; shares = shares; price = price }) (without original xs) (some, was.1) (live_without original xs all)
