-- The positions in a list where an order is found, removed, or inserted.
use Rattle.std.proofs.Common.{◌≡◌, ℕ, zero, suc, ◌≤◌, ◌<◌, ◌-◌, ◌+◌, nat_lt, Bool, true, false, not, List, [], ◌∷◌, map, length, take, drop, set, get_or, insert, remove, filter, find, position, Option, Some, None, IsSome, refl, sym, ap, ◌∙◌, subst, arith, one-add, add-one, inl, inr}
use Rattle.std.specs.List.{AllByRecursion, position_or_len}
use Rattle.std.specs.List.Sorted.{IsPartitionedBy, IsPartitionPoint}
use Rattle.std.proofs.lemmas.Bool.{false≢true, cases_eq, not-true, not-false, not_from_false}
use Rattle.std.proofs.lemmas.Bool.Decides.{nat_tests}
use Rattle.std.proofs.lemmas.List.Sums.{position_or_len_is}
use Rattle.std.proofs.lemmas.List.Folds.{find_at}
use Rattle.std.proofs.lemmas.Grind.{common_steps}
use Rattle.std.proofs.lemmas.Option.{slice_get_within, get_or_from_slice_get}
use Rattle.itch_book.specs.declared.order.Order.{Order}
use Rattle.itch_book.specs.StableLists.{IsInOrder}
use Rattle.itch_book.specs.Orders.{IsBook, fits, lay, added, stands_before, has_reference, has_shares, less, get, without, taken, replaced_by, replaced, IsDistinct, IsLive, is_in, following, after, next_in}
use Rattle.itch_book.proofs.Lists.{by_test, absent_in_filter}
use Rattle.itch_book.proofs.Distinct.{own_reference, head_distinct, tail_distinct}
use Rattle.itch_book.proofs.OrderLemmas.{stands_order}
use Rattle.itch_book.proofs.BookLemmas.{added-book, without-book, taken-book, lay-added_laid, IsBook-without}
use Rattle.itch_book.proofs.StableLemmas.{later_in}

-- a later arrival is inserted before the first order that it precedes
pub later_in_there : {A : Type 0} (before : A → A → Bool) (x : A) (xs : List A) → later_in before x xs ≡ insert xs (position_or_len (before x) xs) x
later_in_there before x [] = refl
later_in_there before x (y ∷ ys) =
    by_test (before x y) (λ e. simp e refl) (λ e. simp (e, one-add) (ap (λ t. y ∷ t) (later_in_there before x ys)))

absent_head : (r : ℕ) (y : Order) (ys : List Order) → get (y ∷ ys) r ≡ None → has_reference r y ≡ false
absent_head r y ys h = by_test (has_reference r y) (λ e. let some : Some y ≡ None = simp e at h in absurd (let no_one : ⊥ = cc in no_one)) (λ e. e)

absent_tail : (r : ℕ) (y : Order) (ys : List Order) → get (y ∷ ys) r ≡ None → get ys r ≡ None
absent_tail r y ys h = let e = absent_head r y ys h in simp e at h

pub without_absent : (r : ℕ) (xs : List Order) → get xs r ≡ None → without r xs ≡ xs
without_absent r [] h = refl
without_absent r (y ∷ ys) h = let e = absent_head r y ys h in simp e (ap (λ t. y ∷ t) (without_absent r ys (absent_tail r y ys h)))

-- no other order after the first one with a reference has that reference
same_absent : (r : ℕ) (y : Order) (ys : List Order) → IsDistinct (y ∷ ys) → has_reference r y ≡ true → get ys r ≡ None
same_absent r y ys d e = subst (λ q. get ys q ≡ None) (own_reference r y e) (head_distinct y ys d)

-- the list without an order is the list without its position
pub without_there : (r : ℕ) (xs : List Order) → IsDistinct xs → without r xs ≡ remove xs (position_or_len (has_reference r) xs)
without_there r [] d = refl
without_there r (y ∷ ys) d =
    by_test (has_reference r y)
    (λ e. simp e (without_absent r ys (same_absent r y ys d e)))
    (λ e. simp (e, one-add) (ap (λ t. y ∷ t) (without_there r ys (tail_distinct y ys d))))

live_shares : (x : Order) → IsLive x → has_shares x ≡ true
live_shares x live = let some = live.0 in grind (arith, nat_tests)

taken_absent : (r n : ℕ) (xs : List Order) → AllByRecursion IsLive xs → get xs r ≡ None → taken r n xs ≡ xs
taken_absent r n [] live h = refl
taken_absent r n (y ∷ ys) live h =
    let e = absent_head r y ys h in
    let s = live_shares y live.0 in
    simp (e, s) (ap (λ t. y ∷ t) (taken_absent r n ys live.1 (absent_tail r y ys h)))

-- taking shares from an order that keeps some
pub taken_part : (r n : ℕ) (xs : List Order) (x : Order) → IsDistinct xs → AllByRecursion IsLive xs → get xs r ≡ Some x → 0 < x.shares - n
    → taken r n xs ≡ set xs (position_or_len (has_reference r) xs) (record x { shares = x.shares - n })
taken_part r n [] x d live h some = refl
taken_part r n (y ∷ ys) x d live h some =
    by_test (has_reference r y)
    (λ e. let here : Some y ≡ Some x = simp e at h in
    let this : y ≡ x = cc in
    let s : has_shares (record x { shares = x.shares - n }) ≡ true = grind (arith, nat_tests) in
    let t : has_shares (record y { shares = y.shares - n }) ≡ true = rw this s in
    simp (e, t) (ap (λ (z : Order). record z { shares = z.shares - n } ∷ filter has_shares (map (less r n) ys)) this
    ∙ ap (λ t. record x { shares = x.shares - n } ∷ t) (taken_absent r n ys live.1 (same_absent r y ys d e))))
    (λ e. let there : get ys r ≡ Some x = simp e at h in
    let s = live_shares y live.0 in
    simp (e, s, one-add) (ap (λ t. y ∷ t) (taken_part r n ys x (tail_distinct y ys d) live.1 there some)))

-- and from one that is removed
pub taken_all : (r n : ℕ) (xs : List Order) (x : Order) → IsDistinct xs → AllByRecursion IsLive xs → get xs r ≡ Some x → x.shares - n ≡ 0
    → taken r n xs ≡ remove xs (position_or_len (has_reference r) xs)
taken_all r n [] x d live h none = refl
taken_all r n (y ∷ ys) x d live h none =
    by_test (has_reference r y)
    (λ e. let here : Some y ≡ Some x = simp e at h in
    let this : y ≡ x = cc in
    let s : has_shares (record x { shares = x.shares - n }) ≡ false = grind (arith, nat_tests) in
    let t : has_shares (record y { shares = y.shares - n }) ≡ false = rw this s in
    simp (e, t) (taken_absent r n ys live.1 (same_absent r y ys d e)))
    (λ e. let there : get ys r ≡ Some x = simp e at h in
    let s = live_shares y live.0 in
    simp (e, s, one-add) (ap (λ t. y ∷ t) (taken_all r n ys x (tail_distinct y ys d) live.1 there none)))

-- the order with a reference is at its position
pub get_there : (r : ℕ) (xs : List Order) (x d : Order) → get xs r ≡ Some x → get_or xs (position_or_len (has_reference r) xs) d ≡ x
get_there r xs x d h = get_or_from_slice_get xs (position_or_len (has_reference r) xs) x d (sym (find_at (has_reference r) xs) ∙ h)

-- and the position is within the list
pub get_within : (r : ℕ) (xs : List Order) → IsSome (get xs r) → position_or_len (has_reference r) xs < length xs
get_within r xs h = by_found (get xs r) refl h
  where
    by_found : (found : Option Order) → get xs r ≡ found → IsSome found → position_or_len (has_reference r) xs < length xs
    by_found None e some = absurd (false≢true some)
    by_found (Some x) e some = slice_get_within xs (position_or_len (has_reference r) xs) x (sym (find_at (has_reference r) xs) ∙ e)

-- a search for the reference ends there
pub position_there : (r : ℕ) (xs : List Order) → IsSome (get xs r) → position (has_reference r) xs ≡ Some (position_or_len (has_reference r) xs)
position_there r xs some = let within = get_within r xs some in let e : nat_lt (position_or_len (has_reference r) xs) (length xs) ≡ true = grind (arith, nat_tests) in simp e refl

-- the orders after an order are the list after its position
pub following_there : (r : ℕ) (xs : List Order) → following r xs ≡ drop (suc (position_or_len (has_reference r) xs)) xs
following_there r [] = refl
following_there r (y ∷ ys) =
    by_test (has_reference r y)
    (λ e. simp e refl)
    (λ e. simp (e, one-add) (following_there r ys))

-- no element is before one at an earlier position
pub in_order_places : {A : Type 0} (before : A → A → Bool) (xs : List A) (i j : ℕ) (d : A) → IsInOrder before xs → i < j → j < length xs → before (get_or xs j d) (get_or xs i d) ≡ false
in_order_places before [] i j d h lt within = absurd (omega arith)
in_order_places before (x ∷ xs) i zero d h lt within = absurd (omega arith)
in_order_places before (x ∷ xs) zero (suc j) d h lt within = each xs j h.0 (omega arith)
  where
    each : (ys : List _) (k : ℕ) → AllByRecursion (λ y. before y x ≡ false) ys → k < length ys → before (get_or ys k d) x ≡ false
    each [] k all in' = absurd (omega arith)
    each (y ∷ ys) zero all in' = all.0
    each (y ∷ ys) (suc k) all in' = each ys k all.1 (omega arith)
in_order_places before (x ∷ xs) (suc i) (suc j) d h lt within = in_order_places before xs i j d h.1 (omega arith) (omega arith)

-- in a sorted list, the orders that an order is not before come first
pub parted : (x : Order) (xs : List Order) → IsInOrder stands_before xs → IsPartitionedBy (λ y. not (stands_before x y)) xs
parted x xs h i j d le within e =
    let following_x : stands_before x (get_or xs j d) ≡ false = not-true (stands_before x (get_or xs j d)) e in
    elim (cases_eq i j) [
      | inl same ↦ rw same e
      | inr differ ↦ not_from_false (stands_before x (get_or xs i d))
          (stands_order.chain x (get_or xs j d) (get_or xs i d) following_x (in_order_places stands_before xs i j d h (omega arith) within))
    ]

-- and the order belongs where they end
pub place_is : (x : Order) (xs : List Order) (i : ℕ) → i ≤ length xs → IsPartitionPoint (λ y. not (stands_before x y) ≡ true) (λ y. not (stands_before x y) ≡ false) xs i
    → i ≡ position_or_len (stands_before x) xs
place_is x xs i within point =
    sym (position_or_len_is (stands_before x) xs i x within
    (λ k lt. not-true (stands_before x (get_or xs k x)) (point.0 k x (omega arith) lt))
    (λ lt. not-false (stands_before x (get_or xs i x)) (point.1 i x (omega arith) lt)))

-- the next order of a locate after the one at a position
pub after_there : (r : ℕ) (xs : List Order) (i : ℕ) (d : Order) → IsSome (get xs r) → i ≡ position_or_len (has_reference r) xs
    → find (is_in (get_or xs i d).locate) (take (length xs - (i + 1)) (drop (i + 1) xs)) ≡ after xs r
after_there r xs i d some place = by_found (get xs r) refl some
  where
    by_found : (found : Option Order) → get xs r ≡ found → IsSome found → find (is_in (get_or xs i d).locate) (take (length xs - (i + 1)) (drop (i + 1) xs)) ≡ after xs r
    by_found None e some = absurd (false≢true some)
    by_found (Some x) e some =
        let all : take (length xs - (i + 1)) (drop (i + 1) xs) ≡ drop (i + 1) xs = grind (arith, common_steps) in
        let here : get_or xs i d ≡ x = ap (λ k. get_or xs k d) place ∙ get_there r xs x d e in
        let rest : drop (i + 1) xs ≡ following r xs = rw add-one (ap (λ k. drop (suc k) xs) place ∙ sym (following_there r xs)) in
        ap (find (is_in (get_or xs i d).locate)) (all ∙ rest) ∙ ap (λ y. find (is_in y.locate) (following r xs)) here ∙ ap (λ o. next_in o r xs) (sym e)

-- inserting an order at its position in a book's list
pub put_there : (x : Order) (xs ys : List Order) (i : ℕ) → IsBook xs → fits x ≡ true → ys ≡ xs → i ≡ position_or_len (stands_before x) ys → insert xs i x ≡ lay (added x xs)
put_there x xs ys i b h same place =
    ap (λ k. insert xs k x) (place ∙ ap (position_or_len (stands_before x)) same)
    ∙ sym (later_in_there stands_before x xs)
    ∙ sym (added-book x xs b h)

-- the list after an order was removed from its position
pub is_cut : (r : ℕ) (xs view new : List Order) (i : ℕ) → IsBook xs → view ≡ xs → i ≡ position_or_len (has_reference r) view → new ≡ remove xs i → new ≡ lay (without r xs)
is_cut r xs view new i book same place is =
    is ∙ ap (remove xs) (place ∙ ap (position_or_len (has_reference r)) same) ∙ sym (without_there r xs book.distinct) ∙ sym (without-book r xs book)

-- and it is a book's list
pub is_cut_book : (r : ℕ) (xs view new : List Order) (i : ℕ) → IsBook xs → view ≡ xs → i ≡ position_or_len (has_reference r) view → new ≡ remove xs i → IsBook new
is_cut_book r xs view new i book same place is = subst IsBook (sym (is_cut r xs view new i book same place is)) (IsBook-without r xs book)

-- the order at this position
pub found_there : (r : ℕ) (xs ys : List Order) (i : ℕ) (x : Order) → IsSome (get xs r) → ys ≡ xs → i ≡ position_or_len (has_reference r) ys → x ≡ get_or xs i x → get xs r ≡ Some x
found_there r xs ys i x some same place here = by_found (get xs r) refl some
  where
    by_found : (found : Option Order) → get xs r ≡ found → IsSome found → get xs r ≡ Some x
    by_found None e some = absurd (false≢true some)
    by_found (Some y) e some =
        e ∙ ap Some (sym (here ∙ ap (λ k. get_or xs k x) (place ∙ ap (position_or_len (has_reference r)) same) ∙ get_there r xs y x e))

-- taking shares at this position, with none left
pub gone_there : (r n : ℕ) (xs ys : List Order) (i : ℕ) (x : Order) → IsBook xs → get xs r ≡ Some x → ys ≡ xs → i ≡ position_or_len (has_reference r) ys → x.shares - n ≡ 0
    → remove xs i ≡ lay (taken r n xs)
gone_there r n xs ys i x b found same place none =
    ap (remove xs) (place ∙ ap (position_or_len (has_reference r)) same) ∙ sym (taken_all r n xs x b.distinct b.live found none) ∙ sym (taken-book r n xs b)

-- or with some left
pub left_there : (r n : ℕ) (xs ys : List Order) (i : ℕ) (x z : Order) → IsBook xs → get xs r ≡ Some x → ys ≡ xs → i ≡ position_or_len (has_reference r) ys → z ≡ get_or xs i z → 0 < x.shares - n
    → set xs i (record z { shares = x.shares - n }) ≡ lay (taken r n xs)
left_there r n xs ys i x z b found same place here some =
    let at : i ≡ position_or_len (has_reference r) xs = place ∙ ap (position_or_len (has_reference r)) same in
    let this : z ≡ x = here ∙ ap (λ k. get_or xs k z) at ∙ get_there r xs x z found in
    ap (λ (y : Order). set xs i (record y { shares = x.shares - n })) this
    ∙ ap (λ k. set xs k (record x { shares = x.shares - n })) at
    ∙ sym (taken_part r n xs x b.distinct b.live found some)
    ∙ sym (taken-book r n xs b)

-- inserting an order after another one was removed
pub is_replaced : (original reference shares price : ℕ) (xs rest new : List Order) (x : Order) → get xs original ≡ Some x → rest ≡ lay (without original xs)
    → new ≡ lay (added (record x { reference = reference; shares = shares; price = price }) rest) → new ≡ lay (replaced original reference shares price xs)
is_replaced original reference shares price xs rest new x found cut put =
    let order = record x { reference = reference; shares = shares; price = price } in
    put ∙ ap (λ t. lay (added order t)) cut ∙ lay-added_laid order (without original xs) ∙ ap (λ o. lay (replaced_by o original reference shares price xs)) (sym found)

-- a reference that was not in the list is not in it after the removal of another one
pub still_absent : (original reference : ℕ) (xs rest : List Order) → IsBook xs → get xs reference ≡ None → rest ≡ lay (without original xs) → get rest reference ≡ None
still_absent original reference xs rest b fresh cut =
    ap (λ t. get t reference) (cut ∙ without-book original xs b) ∙ absent_in_filter (has_reference reference) (λ x. not (has_reference original x)) xs fresh
