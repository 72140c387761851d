-- The first wanted order, found by a scan over all orders in any order.
use Rattle.std.proofs.Common.{◌≡◌, ℕ, ◌≤◌, Bool, true, false, cond, eqb, List, [], ◌∷◌, ◌++◌, map, length, filter, find, Option, Some, None, option_map, refl, sym, ap, ◌∙◌, subst, arith}
use Rattle.std.specs.List.{AllByRecursion}
use Rattle.std.specs.Map.{lookup, values_of}
use Rattle.std.proofs.lemmas.Bool.{false≢true}
use Rattle.std.proofs.lemmas.Bool.Decides.{nat_tests}
use Rattle.itch_codec.specs.declared.orders.Side.{Side}
use Rattle.itch_book.specs.declared.order.Order.{Order}
use Rattle.itch_book.specs.declared.arrived.Arrived.{Arrived}
use Rattle.itch_book.specs.declared.arrived.Wanted.{Wanted}
use Rattle.itch_book.specs.declared.arrived.Wanted.TheVariants.{Next, After}
use Rattle.itch_book.specs.StableLists.{in_order, IsInOrder}
use Rattle.itch_book.specs.Orders.{is_in, is_of, is_next, next_price, next_in, following, after}
use Rattle.itch_book.specs.Settled.{comes_before, its_order, settled, came_at, wants, sooner, IsApart, IsArrived, IsLineOr}
use Rattle.itch_book.proofs.Lists.{by_test, All-weaker_rec, All-both_rec, All-found_rec}
use Rattle.itch_book.proofs.StableLemmas.{not_itself, in_order-filter, length-in_order, IsInOrder-in_order}
use Rattle.itch_book.proofs.Levels.{ties}
use Rattle.itch_book.proofs.SettledLemmas.{arrival_order, arrival_ties, first_of, find_push, no_elements, holds, holds_length, Keyed, at_key_is}
use Rattle.itch_book.proofs.ArrivedSteps.{found_there}

-- the first wanted order in snapshot order
abbrev pub least_of : Wanted → List Arrived → Option Arrived
least_of w xs = find (wants w) (in_order comes_before xs)

sooner_is : (p : Arrived → Bool) (x : Arrived) (o : Option Arrived) → first_of comes_before arrival_order p x o ≡ sooner x o
sooner_is p x None = refl
sooner_is p x (Some y) = refl

pub least_more : (w : Wanted) (xs : List Arrived) (x : Arrived) (o : Option Arrived) → o ≡ least_of w xs → wants w x ≡ true → sooner x o ≡ least_of w (xs ++ x ∷ [])
least_more w xs x o h t =
    ap (sooner x) h ∙ sym (find_push comes_before arrival_order (wants w) xs x
    ∙ ap (λ q. cond q (first_of comes_before arrival_order (wants w) x (least_of w xs)) (least_of w xs)) t
    ∙ sooner_is (wants w) x (least_of w xs))

pub least_same : (w : Wanted) (xs : List Arrived) (x : Arrived) (o : Option Arrived) → o ≡ least_of w xs → wants w x ≡ false → o ≡ least_of w (xs ++ x ∷ [])
least_same w xs x o h t =
    h ∙ sym (find_push comes_before arrival_order (wants w) xs x
    ∙ ap (λ q. cond q (first_of comes_before arrival_order (wants w) x (least_of w xs)) (least_of w xs)) t)

pub find_shown : (p : Order → Bool) (q : Arrived → Bool) → ((x : Arrived) → q x ≡ p x.order) → (xs : List Arrived) → option_map its_order (find q xs) ≡ find p (map its_order xs)
find_shown p q same [] = refl
find_shown p q same (x ∷ xs) =
    by_test (p x.order) (λ e. let f = same x ∙ e in simp (e, f) refl) (λ e. let f = same x ∙ e in simp (e, f) (find_shown p q same xs))

pub least_order : (p : Order → Bool) (w : Wanted) → ((x : Arrived) → wants w x ≡ p x.order) → (xs : List Arrived) → option_map its_order (least_of w xs) ≡ find p (map its_order (in_order comes_before xs))
least_order p w same xs = find_shown p (wants w) same (in_order comes_before xs)

-- without a last price, any price is wanted
pub any_price : (l : ℕ) (s : Side) (x : Arrived) → wants (Next l s None) x ≡ is_of l s x.order
any_price l s x = by_test (is_of l s x.order) (λ e. simp e refl) (λ e. simp e refl)

-- the next price is the price of the wanted order
pub least_price : (l : ℕ) (s : Side) (last : Option ℕ) (xs : List Arrived) → option_map (λ (x : Order). x.price) (option_map its_order (least_of (Next l s last) xs)) ≡ next_price (settled xs) l s last
least_price l s last xs = ap (option_map (λ (x : Order). x.price)) (least_order (is_next l s last) (Next l s last) (λ x. refl) xs)

find_shown_all : (p : Order → Bool) (q : Arrived → Bool) (xs : List Arrived) → AllByRecursion (λ x. q x ≡ p x.order) xs → option_map its_order (find q xs) ≡ find p (map its_order xs)
find_shown_all p q [] all = refl
find_shown_all p q (x ∷ xs) all =
    by_test (p x.order) (λ e. let f = all.0 ∙ e in simp (e, f) refl) (λ e. let f = all.0 ∙ e in simp (e, f) (find_shown_all p q xs all.1))

none_pass : {X : Type 0} (p : X → Bool) (xs : List X) → length (filter p xs) ≤ 0 → AllByRecursion (λ x. p x ≡ false) xs
none_pass p [] h = tt
none_pass p (x ∷ xs) h =
    by_test (p x)
    (λ e. let no : length (x ∷ filter p xs) ≤ 0 = simp e at h in absurd (omega arith))
    (λ e. let rest : length (filter p xs) ≤ 0 = simp e at h in (e, none_pass p xs rest))

apart_tail : (y : Arrived) (ys : List Arrived) → IsApart (y ∷ ys) → IsApart ys
apart_tail y ys apart n =
    by_test (came_at n y)
    (λ e. let one : length (y ∷ filter (came_at n) ys) ≤ 1 = simp e at (apart n) in omega arith)
    (λ e. let one : length (filter (came_at n) ys) ≤ 1 = simp e at (apart n) in one)

came_itself : (y : Arrived) → came_at y.arrival y ≡ true
came_itself y = grind (arith, nat_tests)

-- the rest of a sorted list comes after its first element, if no two have the same arrival number
all_after : (y : Arrived) (ys : List Arrived) → AllByRecursion (λ z. comes_before z y ≡ false) ys → IsApart (y ∷ ys) → AllByRecursion (λ z. comes_before y z ≡ true) ys
all_after y ys h apart =
    let e = came_itself y in
    let one : length (y ∷ filter (came_at y.arrival) ys) ≤ 1 = simp e at (apart y.arrival) in
    All-weaker_rec (λ z. (comes_before z y ≡ false) × (came_at y.arrival z ≡ false)) (λ z. comes_before y z ≡ true)
    (λ z k. by_test (comes_before y z) (λ f. f) (λ f.
    let tied : ties comes_before y z ≡ true = let zy = k.0 in simp (f, zy) refl in
    absurd (false≢true (sym k.1 ∙ arrival_ties y z tied))))
    ys (All-both_rec (λ z. comes_before z y ≡ false) (λ z. came_at y.arrival z ≡ false) ys h (none_pass (came_at y.arrival) ys (omega arith)))

-- the next order of its locate after an order, in a sorted line
pub following_is : (r : ℕ) (t : Arrived) (line : List Arrived) → IsInOrder comes_before line → IsApart line → find (holds r) line ≡ Some t
    → option_map its_order (find (wants (After t)) line) ≡ find (is_in t.order.locate) (following r (map its_order line))
following_is r t [] h apart f = absurd (let no_one : ⊥ = cc in no_one)
following_is r t (y ∷ ys) h apart f =
    by_test (holds r y)
    (λ e. let here : Some y ≡ Some t = simp e at f in let this : y ≡ t = cc in
    let itself : comes_before t y ≡ false = subst (λ x. comes_before t x ≡ false) (sym this) (not_itself comes_before arrival_order t) in
    let later : AllByRecursion (λ z. comes_before t z ≡ true) ys = subst (λ x. AllByRecursion (λ z. comes_before x z ≡ true) ys) this (all_after y ys h.0 apart) in
    let same = All-weaker_rec (λ z. comes_before t z ≡ true) (λ z. wants (After t) z ≡ is_in t.order.locate z.order)
    (λ z k. by_test (is_in t.order.locate z.order) (λ i. simp (i, k) refl) (λ i. simp (i, k) refl)) ys later in
    let skip : wants (After t) y ≡ false = by_test (is_in t.order.locate y.order) (λ i. simp (i, itself) refl) (λ i. simp (i, itself) refl) in
    simp (e, skip) (find_shown_all (is_in t.order.locate) (wants (After t)) ys same))
    (λ e. let there : find (holds r) ys ≡ Some t = simp e at f in
    let before : comes_before t y ≡ false = All-found_rec (λ z. comes_before z y ≡ false) (holds r) ys t h.0 there in
    let skip : wants (After t) y ≡ false = by_test (is_in t.order.locate y.order) (λ i. simp (i, before) refl) (λ i. simp (i, before) refl) in
    simp (e, skip) (following_is r t ys h.1 (apart_tail y ys apart) there))

found_alone : {X : Type 0} (p : X → Bool) (xs : List X) (t : X) → find p xs ≡ Some t → length (filter p xs) ≤ 1 → filter p xs ≡ t ∷ []
found_alone p [] t f h = absurd (let no_one : ⊥ = cc in no_one)
found_alone p (x ∷ xs) t f h =
    by_test (p x)
    (λ e. let here : Some x ≡ Some t = simp e at f in let this : x ≡ t = cc in
    let one : length (x ∷ filter p xs) ≤ 1 = simp e at h in
    simp e (ap (λ ys. x ∷ ys) (sym (no_elements p (filter p xs) (omega arith))) ∙ ap (λ y. y ∷ []) this))
    (λ e. let there : find p xs ≡ Some t = simp e at f in let one : length (filter p xs) ≤ 1 = simp e at h in simp e (found_alone p xs t there one))

alone_found : {X : Type 0} (p : X → Bool) (xs : List X) (t : X) → filter p xs ≡ t ∷ [] → find p xs ≡ Some t
alone_found p [] t h = absurd (let no_one : ⊥ = cc in no_one)
alone_found p (x ∷ xs) t h =
    by_test (p x)
    (λ e. let here : x ∷ filter p xs ≡ t ∷ [] = simp e at h in let this : x ≡ t = cc in simp e (ap Some this))
    (λ e. let rest : filter p xs ≡ t ∷ [] = simp e at h in simp e (alone_found p xs t rest))

found_value : (r : ℕ) (es : List (ℕ × Arrived)) (t : Arrived) → Keyed es → lookup (eqb r) es ≡ Some t → find (holds r) (values_of es) ≡ Some t
found_value r [] t k f = absurd (let no_one : ⊥ = cc in no_one)
found_value r (e ∷ es) t k f =
    let same = at_key_is r e k.0 in
    by_test (holds r e.1)
    (λ h. let g : eqb r e.0 ≡ true = same ∙ h in let here : Some e.1 ≡ Some t = simp g at f in simp h here)
    (λ h. let g : eqb r e.0 ≡ false = same ∙ h in let there : lookup (eqb r) es ≡ Some t = simp g at f in simp h (found_value r es t k.1 there))

line_apart : (xs : List Arrived) → IsApart xs → IsApart (in_order comes_before xs)
line_apart xs apart n =
    let sorted = ap length (in_order-filter comes_before arrival_order (came_at n) xs) in
    let same = length-in_order comes_before (filter (came_at n) xs) in
    let one = apart n in omega arith

-- the order after the one with a reference, among those of its locate
pub after_is : (r next : ℕ) (es : List (ℕ × Arrived)) (t : Arrived) → IsArrived es next → lookup (eqb r) es ≡ Some t
    → option_map its_order (least_of (After t) (values_of es)) ≡ after (settled (values_of es)) r
after_is r next es t is found =
    let xs = values_of es in
    let one : length (filter (holds r) xs) ≤ 1 = let c = holds_length xs r in let d = is.book.distinct r in omega arith in
    let alone : filter (holds r) xs ≡ t ∷ [] = found_alone (holds r) xs t (found_value r es t is.keyed found) one in
    let here : find (holds r) (in_order comes_before xs) ≡ Some t =
    alone_found (holds r) (in_order comes_before xs) t (in_order-filter comes_before arrival_order (holds r) xs ∙ ap (in_order comes_before) alone) in
    following_is r t (in_order comes_before xs) (IsInOrder-in_order comes_before arrival_order xs) (line_apart xs is.apart) here
    ∙ ap (λ (o : Option Order). next_in o r (settled xs)) (sym (found_there r next es (settled xs) t is refl found))

-- the line, if there is one, is sorted
pub line_in_order : (xs : List Arrived) (laid : Option (List Arrived)) (line : List Arrived) → IsLineOr xs laid → laid ≡ Some line → IsInOrder comes_before line
line_in_order xs laid line is e =
    let here : IsLineOr xs (Some line) = subst (IsLineOr xs) e is in
    subst (IsInOrder comes_before) (sym here) (IsInOrder-in_order comes_before arrival_order xs)
