-- The orders by arrival in snapshot order, and the effect of each change on that list.
use Rattle.std.proofs.Common.{◌≡◌, ℕ, suc, ◌≤◌, ◌<◌, ◌+◌, ◌==◌, nat_lt, Bool, true, false, cond, not, eqb, ◌&&◌, ◌||◌, List, [], ◌∷◌, ◌++◌, map, length, filter, find, get_or, Option, Some, None, option_map, refl, sym, ap, ap₂, ◌∙◌, ◌-◌, subst, arith}
use Rattle.std.specs.List.{AllByRecursion}
use Rattle.std.specs.List.Sorted.{IsPermutation, IsSortedBy}
use Rattle.std.specs.Map.{lookup, values_of, set_value, remove_entry}
use Rattle.std.specs.Cmp.{IsStrictWeakOrder}
use Rattle.std.proofs.lemmas.Bool.{false≢true}
use Rattle.std.proofs.lemmas.Bool.Decides.{nat_tests}
use Rattle.std.proofs.lemmas.List.{length-map}
use Rattle.std.proofs.lemmas.List.Sums.{length-filter}
use Rattle.std.proofs.lemmas.List.Sorted.{sum_by-IsPermutation, sorted_far}
use Rattle.std.proofs.ByRecursion.{all_shuffled, All-from_get_or}
use Rattle.itch_book.proofs.BookLemmas.{less_stands}
use Rattle.itch_book.specs.declared.arrived.Arrived.{Arrived}
use Rattle.itch_book.specs.StableLists.{earlier_in, in_order, IsInOrder}
use Rattle.itch_book.specs.Orders.{stands_before, has_reference, get, first, less, without, IsDistinct}
use Rattle.itch_book.specs.Settled.{comes_before, its_order, settled, came_at, IsApart, IsArrived}
use Rattle.itch_book.proofs.Lists.{by_test, All-found_rec, filter-map, filter_within, filter_swap, length_filter_le}
use Rattle.itch_book.proofs.StableLemmas.{later_in, not_itself, before_chain, in_order-push, IsInOrder-in_order, in_order-map, in_order-filter, in_order-short, in_order-sorted, length-in_order, All-in_order}
use Rattle.itch_book.proofs.Levels.{ties, in_order_same}
use Rattle.itch_book.proofs.Distinct.{find_first, own_reference, head_distinct, tail_distinct}
use Rattle.itch_book.proofs.OrderLemmas.{stands_order}

-- comparing a position, and then a number, is like comparing numbers
module _ {A : Type 0} (before : A → A → Bool) (o : IsStrictWeakOrder before) (n : A → ℕ) where
  abbrev pub then_by : A → A → Bool
  then_by x y = before x y || (not (before y x) && nat_lt (n x) (n y))

  then_one_way : (x y : A) → then_by x y ≡ true → then_by y x ≡ false
  then_one_way x y h =
      by_test (before x y)
      (λ e. let f = o.one_way x y e in simp (e, f) refl)
      (λ e. by_test (before y x)
      (λ f. let no : false ≡ true = simp (e, f) at h in absurd (false≢true no))
      (λ f. let g : nat_lt (n x) (n y) ≡ true = simp (e, f) at h in
      let k : nat_lt (n y) (n x) ≡ false = grind (arith, nat_tests) in simp (e, f, k) refl))

  then_chain : (x y z : A) → then_by x y ≡ false → then_by y z ≡ false → then_by x z ≡ false
  then_chain x y z h k =
      by_test (before x y)
      (λ e. let no : true ≡ false = simp e at h in absurd (false≢true (sym no)))
      (λ e. by_test (before y z)
      (λ f. let no : true ≡ false = simp f at k in absurd (false≢true (sym no)))
      (λ f. let g = o.chain x y z e f in
      by_test (before z x)
      (λ d. simp (g, d) refl)
      (λ d. let yx : before y x ≡ false = o.chain y z x f d in
      let zy : before z y ≡ false = o.chain z x y d e in
      let a : nat_lt (n x) (n y) ≡ false = simp (e, yx) at h in
      let b : nat_lt (n y) (n z) ≡ false = simp (f, zy) at k in
      let c : nat_lt (n x) (n z) ≡ false = grind (arith, nat_tests) in
      simp (g, d, c) refl)))

  pub then_order : IsStrictWeakOrder then_by
  then_order = record { one_way = then_one_way; chain = then_chain }

  -- elements that tie have the same number
  pub then_ties : (z x : A) → ties then_by z x ≡ true → (n x == n z) ≡ true
  then_ties z x h =
      by_test (before z x)
      (λ e. let no : false ≡ true = simp e at h in absurd (false≢true no))
      (λ e. by_test (before x z)
      (λ f. let no : false ≡ true = simp (e, f) at h in absurd (false≢true no))
      (λ f. let g : (not (nat_lt (n z) (n x)) && not (nat_lt (n x) (n z))) ≡ true = simp (e, f) at h in grind (arith, nat_tests)))

places : Arrived → Arrived → Bool
places x y = stands_before x.order y.order

pub arrival_order : IsStrictWeakOrder comes_before
arrival_order = then_order (λ x y. stands_before x.order y.order) (record {
  one_way = λ x y h. stands_order.one_way x.order y.order h;
  chain = λ x y z h k. stands_order.chain x.order y.order z.order h k;
}) (λ x. x.arrival)

pub arrival_ties : (z x : Arrived) → ties comes_before z x ≡ true → came_at z.arrival x ≡ true
arrival_ties z x h = then_ties (λ x y. stands_before x.order y.order) (record {
  one_way = λ x y h. stands_order.one_way x.order y.order h;
  chain = λ x y z h k. stands_order.chain x.order y.order z.order h k;
}) (λ x. x.arrival) z x h

module _ {X : Type 0} (p : X → Bool) where
  pub no_elements : (xs : List X) → length xs ≤ 0 → [] ≡ xs
  no_elements [] h = refl
  no_elements (x ∷ xs) h = absurd (omega arith)

  if_passing : (a : X) (xs : List X) → AllByRecursion (λ y. y ≡ a) (filter p xs) → AllByRecursion (λ y. p y ≡ true → y ≡ a) xs
  if_passing a [] h = tt
  if_passing a (x ∷ xs) h =
      by_test (p x)
      (λ e. let k : AllByRecursion (λ y. y ≡ a) (x ∷ filter p xs) = simp e at h in ((λ _. k.0), if_passing a xs k.1))
      (λ e. let k : AllByRecursion (λ y. y ≡ a) (filter p xs) = simp e at h in ((λ f. absurd (false≢true (sym e ∙ f))), if_passing a xs k))

  passing_is : (a : X) (xs : List X) → AllByRecursion (λ y. p y ≡ true → y ≡ a) xs → AllByRecursion (λ y. y ≡ a) (filter p xs)
  passing_is a [] h = tt
  passing_is a (x ∷ xs) h = by_test (p x) (λ e. simp e ((h.0 e, passing_is a xs h.1))) (λ e. simp e (passing_is a xs h.1))

  alone : (a : X) (xs : List X) → AllByRecursion (λ y. y ≡ a) xs → length xs ≡ 1 → a ∷ [] ≡ xs
  alone a [] h k = absurd (omega arith)
  alone a (x ∷ []) h k = ap (λ y. y ∷ []) (sym (h.0))
  alone a (x ∷ y ∷ xs) h k = absurd (omega arith)

  pub kept_length : (xs ys : List X) → IsPermutation xs ys → length (filter p ys) ≡ length (filter p xs)
  kept_length xs ys s = length-filter p ys ∙ sum_by-IsPermutation (λ x. cond (p x) 1 0) xs ys s ∙ sym (length-filter p xs)

  -- if at most one element meets a condition, it is found in any order of the list
  pub only_one : (xs ys : List X) → IsPermutation xs ys → length (filter p xs) ≤ 1 → filter p xs ≡ filter p ys
  only_one xs ys s h = by (filter p xs) refl
    where
      by : (l : List X) → filter p xs ≡ l → filter p xs ≡ filter p ys
      by [] e = let len = kept_length xs ys s in let none = ap length e in e ∙ no_elements (filter p ys) (omega arith)
      by (a ∷ []) e =
          let len = kept_length xs ys s in let one = ap length e in
          let all : AllByRecursion (λ y. p y ≡ true → y ≡ a) xs = if_passing a xs (subst (AllByRecursion (λ y. y ≡ a)) (sym e) (refl, tt)) in
          e ∙ alone a (filter p ys) (passing_is a ys (all_shuffled (λ y. p y ≡ true → y ≡ a) xs ys s all)) (omega arith)
      by (a ∷ b ∷ l) e = let more = ap length e in absurd (omega arith)

pub filter_apart : (p : Arrived → Bool) (xs : List Arrived) → IsApart xs → IsApart (filter p xs)
filter_apart p xs apart n =
    let swapped = ap length (filter_swap (came_at n) p xs) in
    let fewer = length_filter_le p (filter (came_at n) xs) in
    let one = apart n in omega arith

-- the same orders in any order have the same list in snapshot order
pub shuffled : (xs ys : List Arrived) → IsPermutation xs ys → IsApart xs → in_order comes_before xs ≡ in_order comes_before ys
shuffled xs ys s apart =
    in_order_same comes_before arrival_order xs ys (λ z.
    sym (filter_within (ties comes_before z) (came_at z.arrival) (arrival_ties z) xs)
    ∙ ap (filter (ties comes_before z)) (only_one (came_at z.arrival) xs ys s (apart z.arrival))
    ∙ filter_within (ties comes_before z) (came_at z.arrival) (arrival_ties z) ys)

pub shuffled_apart : (xs ys : List Arrived) → IsPermutation xs ys → IsApart xs → IsApart ys
shuffled_apart xs ys s apart n = let len = kept_length (came_at n) xs ys s in let one = apart n in omega arith

abbrev pub holds : ℕ → Arrived → Bool
holds r x = has_reference r x.order

-- the number of orders with a reference is the same as in the list
pub holds_length : (xs : List Arrived) (r : ℕ) → length (filter (has_reference r) (settled xs)) ≡ length (filter (holds r) xs)
holds_length xs r =
    ap length (filter-map (has_reference r) (holds r) its_order (λ x. refl) (in_order comes_before xs))
    ∙ length-map (filter (holds r) (in_order comes_before xs)) its_order
    ∙ ap length (in_order-filter comes_before arrival_order (holds r) xs)
    ∙ length-in_order comes_before (filter (holds r) xs)

pub came_distinct : (xs : List Arrived) → IsDistinct (settled xs) → IsDistinct (map its_order xs)
came_distinct xs d r =
    let a = ap length (filter-map (has_reference r) (holds r) its_order (λ x. refl) xs) in
    let b = length-map (filter (holds r) xs) its_order in
    let c = holds_length xs r in
    let e = d r in omega arith

pub get_settled : (xs : List Arrived) (r : ℕ) → IsDistinct (settled xs) → get (settled xs) r ≡ get (map its_order xs) r
get_settled xs r d =
    find_first (has_reference r) (settled xs)
    ∙ ap first (filter-map (has_reference r) (holds r) its_order (λ x. refl) (in_order comes_before xs)
    ∙ ap (map its_order) (in_order-filter comes_before arrival_order (holds r) xs
    ∙ in_order-short comes_before (filter (holds r) xs) (let c = holds_length xs r in let e = d r in omega arith))
    ∙ sym (filter-map (has_reference r) (holds r) its_order (λ x. refl) xs))
    ∙ sym (find_first (has_reference r) (map its_order xs))

key_test : (r k : ℕ) → eqb r k ≡ (k == r)
key_test r k = grind (arith, nat_tests)

abbrev pub Keyed : List (ℕ × Arrived) → Type 0
Keyed es = AllByRecursion (λ (e : ℕ × Arrived). e.0 ≡ e.1.order.reference) es

pub at_key_is : (r : ℕ) (e : ℕ × Arrived) → e.0 ≡ e.1.order.reference → eqb r e.0 ≡ holds r e.1
at_key_is r e h = key_test r e.0 ∙ ap (λ k. k == r) h

found_order : (r : ℕ) (es : List (ℕ × Arrived)) → Keyed es → option_map its_order (lookup (eqb r) es) ≡ get (map its_order (values_of es)) r
found_order r [] k = refl
found_order r (e ∷ es) k =
    let same = at_key_is r e k.0 in
    by_test (holds r e.1)
    (λ h. let f : eqb r e.0 ≡ true = same ∙ h in simp (h, f) refl)
    (λ h. let f : eqb r e.0 ≡ false = same ∙ h in simp (h, f) (found_order r es k.1))

-- the order that a reference leads to
pub found_settled : (r next : ℕ) (es : List (ℕ × Arrived)) → IsArrived es next → option_map its_order (lookup (eqb r) es) ≡ get (settled (values_of es)) r
found_settled r next es is = found_order r es is.keyed ∙ sym (get_settled (values_of es) r is.book.distinct)

-- the remaining orders if none has the reference
none_all : (r : ℕ) (xs : List Arrived) → get (map its_order xs) r ≡ None → filter (λ x. not (holds r x)) xs ≡ xs
none_all r [] h = refl
none_all r (x ∷ xs) h =
    by_test (holds r x)
    (λ e. let some : Some x.order ≡ None = simp e at h in absurd (let no_one : ⊥ = cc in no_one))
    (λ e. let rest : get (map its_order xs) r ≡ None = simp e at h in simp e (ap (λ t. x ∷ t) (none_all r xs rest)))

pub cut_values : (r : ℕ) (es : List (ℕ × Arrived)) → Keyed es → IsDistinct (map its_order (values_of es)) → values_of (remove_entry (eqb r) es) ≡ filter (λ x. not (holds r x)) (values_of es)
cut_values r [] k d = refl
cut_values r (e ∷ es) k d =
    let same = at_key_is r e k.0 in
    by_test (holds r e.1)
    (λ h. let f : eqb r e.0 ≡ true = same ∙ h in
    let none : get (map its_order (values_of es)) r ≡ None = subst (λ q. get (map its_order (values_of es)) q ≡ None) (own_reference r e.1.order h) (head_distinct e.1.order (map its_order (values_of es)) d) in
    simp (h, f) (sym (none_all r (values_of es) none)))
    (λ h. let f : eqb r e.0 ≡ false = same ∙ h in
    simp (h, f) (ap (λ t. e.1 ∷ t) (cut_values r es k.1 (tail_distinct e.1.order (map its_order (values_of es)) d))))

pub cut_keyed : (r : ℕ) (es : List (ℕ × Arrived)) → Keyed es → Keyed (remove_entry (eqb r) es)
cut_keyed r [] k = tt
cut_keyed r (e ∷ es) k = by_test (eqb r e.0) (λ f. simp f (k.1)) (λ f. simp f ((k.0, cut_keyed r es k.1)))

-- shares taken from the order with a reference
abbrev pub lessen : ℕ → ℕ → Arrived → Arrived
lessen r n x = record x { order = less r n x.order }

abbrev pub lessened : ℕ → Arrived → Arrived
lessened n x = record x { order = record x.order { shares = x.order.shares - n } }

none_less : (r n : ℕ) (xs : List Arrived) → get (map its_order xs) r ≡ None → map (lessen r n) xs ≡ xs
none_less r n [] h = refl
none_less r n (x ∷ xs) h =
    by_test (holds r x)
    (λ e. let some : Some x.order ≡ None = simp e at h in absurd (let no_one : ⊥ = cc in no_one))
    (λ e. let rest : get (map its_order xs) r ≡ None = simp e at h in simp e (ap (λ t. x ∷ t) (none_less r n xs rest)))

pub written_values : (r n : ℕ) (es : List (ℕ × Arrived)) (x : Arrived) → Keyed es → IsDistinct (map its_order (values_of es)) → lookup (eqb r) es ≡ Some x
    → values_of (set_value (eqb r) es (lessened n x)) ≡ map (lessen r n) (values_of es)
written_values r n [] x k d l = refl
written_values r n (e ∷ es) x k d l =
    let same = at_key_is r e k.0 in
    by_test (holds r e.1)
    (λ h. let f : eqb r e.0 ≡ true = same ∙ h in
    let here : Some e.1 ≡ Some x = simp f at l in let this : e.1 ≡ x = cc in
    let none : get (map its_order (values_of es)) r ≡ None = subst (λ q. get (map its_order (values_of es)) q ≡ None) (own_reference r e.1.order h) (head_distinct e.1.order (map its_order (values_of es)) d) in
    simp (h, f) (ap (λ y. lessened n y ∷ values_of es) (sym this) ∙ ap (λ t. lessened n e.1 ∷ t) (sym (none_less r n (values_of es) none))))
    (λ h. let f : eqb r e.0 ≡ false = same ∙ h in let there : lookup (eqb r) es ≡ Some x = simp f at l in
    simp (h, f) (ap (λ t. e.1 ∷ t) (written_values r n es x k.1 (tail_distinct e.1.order (map its_order (values_of es)) d) there)))

pub written_keyed : (r n : ℕ) (es : List (ℕ × Arrived)) (x : Arrived) → Keyed es → lookup (eqb r) es ≡ Some x → Keyed (set_value (eqb r) es (lessened n x))
written_keyed r n [] x k l = tt
written_keyed r n (e ∷ es) x k l =
    by_test (eqb r e.0)
    (λ f. let here : Some e.1 ≡ Some x = simp f at l in let this : e.1 ≡ x = cc in
    simp f ((subst (λ (y : Arrived). e.0 ≡ y.order.reference) this k.0, k.1)))
    (λ f. let there : lookup (eqb r) es ≡ Some x = simp f at l in simp f ((k.0, written_keyed r n es x k.1 there)))

-- an order that arrived after all others goes behind those at its price
later_alike : (x : Arrived) (ys : List Arrived) → AllByRecursion (λ y. y.arrival < x.arrival) ys → map its_order (earlier_in comes_before x ys) ≡ later_in stands_before x.order (map its_order ys)
later_alike x [] h = refl
later_alike x (y ∷ ys) h =
    let less : nat_lt y.arrival x.arrival ≡ true = let l = h.0 in grind (arith, nat_tests) in
    by_test (stands_before x.order y.order)
    (λ e. let f = stands_order.one_way x.order y.order e in simp (e, f) refl)
    (λ e. by_test (stands_before y.order x.order)
    (λ f. simp (e, f) (ap (λ t. y.order ∷ t) (later_alike x ys h.1)))
    (λ f. simp (e, f, less) (ap (λ t. y.order ∷ t) (later_alike x ys h.1))))

pub put_view : (x : Arrived) (xs ys : List Arrived) → AllByRecursion (λ y. y.arrival < x.arrival) xs → IsPermutation (x ∷ xs) ys → IsApart (x ∷ xs) → settled ys ≡ later_in stands_before x.order (settled xs)
put_view x xs ys h s apart =
    ap (map its_order) (sym (shuffled (x ∷ xs) ys s apart))
    ∙ later_alike x (in_order comes_before xs) (All-in_order comes_before (λ y. y.arrival < x.arrival) xs h)

pub cut_view : (r : ℕ) (xs ys : List Arrived) → IsApart xs → IsPermutation (filter (λ x. not (holds r x)) xs) ys → settled ys ≡ without r (settled xs)
cut_view r xs ys apart s =
    ap (map its_order) (sym (shuffled (filter (λ x. not (holds r x)) xs) ys s (filter_apart (λ x. not (holds r x)) xs apart))
    ∙ sym (in_order-filter comes_before arrival_order (λ x. not (holds r x)) xs))
    ∙ sym (filter-map (λ x. not (has_reference r x)) (λ x. not (holds r x)) its_order (λ x. refl) (in_order comes_before xs))

less_keeps : (r n : ℕ) (x y : Arrived) → comes_before (lessen r n x) (lessen r n y) ≡ comes_before x y
less_keeps r n x y = ap₂ (λ a b. a || (not b && nat_lt x.arrival y.arrival)) (less_stands r n x.order y.order) (less_stands r n y.order x.order)

pub less_view : (r n : ℕ) (xs : List Arrived) → settled (map (lessen r n) xs) ≡ map (less r n) (settled xs)
less_view r n xs =
    ap (map its_order) (sym (in_order-map comes_before comes_before (lessen r n) (less_keeps r n) xs))
    ∙ both (in_order comes_before xs)
  where
    both : (ys : List Arrived) → map its_order (map (lessen r n) ys) ≡ map (less r n) (map its_order ys)
    both [] = refl
    both (y ∷ ys) = ap (λ t. less r n y.order ∷ t) (both ys)

-- a sorted list is in order
sorted_tail : (x : Arrived) (xs : List Arrived) → IsSortedBy comes_before (x ∷ xs) → IsSortedBy comes_before xs
sorted_tail x xs up k d a b =
    subst (λ n. comes_before (get_or (x ∷ xs) n d) (get_or xs k d) ≡ false) {x = suc k + 1} {y = suc (k + 1)} (omega arith) (up (suc k) d (omega arith) (omega arith))

pub sorted_is : (xs : List Arrived) → IsSortedBy comes_before xs → IsInOrder comes_before xs
sorted_is [] up = tt
sorted_is (x ∷ xs) up =
    (All-from_get_or (λ y. comes_before y x ≡ false) xs x (λ i h. sorted_far comes_before arrival_order (x ∷ xs) up 0 (suc i) x (omega arith) (omega arith)), sorted_is xs (sorted_tail x xs up))

pub sorted_line : (xs ys : List Arrived) → IsApart xs → IsPermutation xs ys → IsSortedBy comes_before ys → ys ≡ in_order comes_before xs
sorted_line xs ys apart s up = sym (shuffled xs ys s apart ∙ in_order-sorted comes_before ys (sorted_is ys up))

-- the first match, with one more element at any position
module _ {X : Type 0} (before : X → X → Bool) (o : IsStrictWeakOrder before) (p : X → Bool) where
  abbrev pub first_of : X → Option X → Option X
  first_of x None = Some x
  first_of x (Some y) = cond (before x y) (Some x) (Some y)

  in_front : (l y : X) (ys : List X) → before l y ≡ true → AllByRecursion (λ z. before z y ≡ false) (y ∷ ys) → (f : Option X) → find p (y ∷ ys) ≡ f → first_of l f ≡ Some l
  in_front l y ys e all None h = refl
  in_front l y ys e all (Some z) h =
      let later : before z y ≡ false = All-found_rec (λ z. before z y ≡ false) p (y ∷ ys) z all h in
      let ahead : before l z ≡ true = before_chain before o l y z e later in simp ahead refl

  pub find_later : (l : X) (ys : List X) → IsInOrder before ys → find p (later_in before l ys) ≡ cond (p l) (first_of l (find p ys)) (find p ys)
  find_later l [] h = refl
  find_later l (y ∷ ys) h =
      by_test (before l y)
      (λ e. by_test (p l)
      (λ f. simp (e, f) (sym (in_front l y ys e (not_itself before o y, h.0) (find p (y ∷ ys)) refl)))
      (λ f. simp (e, f) refl))
      (λ e. by_test (p y)
      (λ g. by_test (p l) (λ f. simp (e, f, g) refl) (λ f. simp (e, f, g) refl))
      (λ g. simp (e, g) (find_later l ys h.1)))

  -- one more element in the left part
  pub find_push : (xs : List X) (l : X) → find p (in_order before (xs ++ l ∷ [])) ≡ cond (p l) (first_of l (find p (in_order before xs))) (find p (in_order before xs))
  find_push xs l = ap (find p) (in_order-push before o xs l) ∙ find_later l (in_order before xs) (IsInOrder-in_order before o xs)
