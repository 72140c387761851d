-- The part of a sorted line that contains all orders of a locate.
use Rattle.std.proofs.Common.{◌≡◌, ℕ, ◌≤◌, ◌<◌, ◌+◌, ◌-◌, ◌==◌, nat_lt, suc, zero, Bool, true, false, ◌&&◌, List, [], ◌∷◌, ◌++◌, map, length, take, drop, filter, find, slice_get, Option, Some, None, refl, sym, ap, ◌∙◌, subst, arith}
use Rattle.std.specs.List.{AllByRecursion, list_all, sum_by}
use Rattle.std.proofs.lemmas.Bool.{false≢true}
use Rattle.std.proofs.lemmas.Bool.Decides.{nat_tests}
use Rattle.std.proofs.lemmas.List.{append-nil, length-take-le, length-drop, take-append-drop, drop-drop}
use Rattle.std.proofs.lemmas.List.Elements.{filter-append}
use Rattle.itch_codec.specs.declared.orders.Side.{Side}
use Rattle.itch_book.specs.declared.arrived.Arrived.{Arrived}
use Rattle.itch_book.specs.declared.arrived.Wanted.{Wanted}
use Rattle.itch_book.specs.declared.arrived.Wanted.TheVariants.{In, Next, After}
use Rattle.itch_book.specs.StableLists.{in_order, IsInOrder}
use Rattle.itch_book.specs.Orders.{is_in, is_of, is_worse, level_total}
use Rattle.itch_book.specs.Settled.{comes_before, its_order, is_of_locate, is_lower, is_higher, locate_of, wants, IsLineOr}
use Rattle.itch_book.proofs.Lists.{by_test, All-left_rec, All-weaker_rec, filter_within}
use Rattle.itch_book.proofs.LineLemmas.{not_lower}
use Rattle.itch_book.proofs.BetweenLemmas.{at_level, total_shown}

-- the element at a place has a property of all
all_at : {X : Type 0} (P : X → Type 0) (xs : List X) (i : ℕ) (x : X) → AllByRecursion P xs → slice_get xs i ≡ Some x → P x
all_at P [] i x all here = absurd (let no_one : ⊥ = cc in no_one)
all_at P (y ∷ ys) zero x all here = let it : y ≡ x = cc in subst P it all.0
all_at P (y ∷ ys) (suc i) x all here = all_at P ys i x all.1 here

all_pass : {X : Type 0} (p : X → Bool) (xs : List X) → AllByRecursion (λ x. p x ≡ true) xs → list_all p xs ≡ true
all_pass p [] all = refl
all_pass p (x ∷ xs) all = let rest = all_pass p xs all.1 in simp (all.0, rest) refl

-- locates do not fall along a line
lower_chain : (l : ℕ) (y z : Arrived) → comes_before z y ≡ false → is_lower l z ≡ true → is_lower l y ≡ true
lower_chain l y z k e = let n = not_lower y z k in grind (arith, nat_tests)

higher_chain : (l : ℕ) (y z : Arrived) → is_higher l y ≡ true → comes_before z y ≡ false → is_higher l z ≡ true
higher_chain l y z e k = let n = not_lower y z k in grind (arith, nat_tests)

-- all orders up to a place are of lower locates if the one there is
pub lower_to : (l : ℕ) (line : List Arrived) (i : ℕ) (x : Arrived) → IsInOrder comes_before line → slice_get line i ≡ Some x → list_all (is_lower l) (take (suc i) line) ≡ is_lower l x
lower_to l [] i x h here = absurd (let no_one : ⊥ = cc in no_one)
lower_to l (y ∷ ys) zero x h here =
    let it : y ≡ x = cc in
    subst (λ z. (is_lower l y && true) ≡ is_lower l z) it (by_test (is_lower l y) (λ t. simp t refl) (λ t. simp t refl))
lower_to l (y ∷ ys) (suc i) x h here =
    let rest = lower_to l ys i x h.1 here in
    by_test (is_lower l x)
    (λ t. let top : is_lower l y ≡ true = lower_chain l y x (all_at (λ z. comes_before z y ≡ false) ys i x h.0 here) t in simp (top, rest) refl)
    (λ t. let last : list_all (is_lower l) (take (suc i) ys) ≡ false = rest ∙ t in
    by_test (is_lower l y) (λ u. simp (u, last, t) refl) (λ u. simp (u, t) refl))

-- all orders from a place on are of higher locates if the one there is
pub higher_from : (l : ℕ) (line : List Arrived) (i : ℕ) (x : Arrived) → IsInOrder comes_before line → slice_get line i ≡ Some x → list_all (is_higher l) (drop i line) ≡ is_higher l x
higher_from l [] i x h here = absurd (let no_one : ⊥ = cc in no_one)
higher_from l (y ∷ ys) zero x h here =
    let it : y ≡ x = cc in
    subst (λ z. (is_higher l y && list_all (is_higher l) ys) ≡ is_higher l z) it
    (by_test (is_higher l y)
    (λ t. let rest = all_pass (is_higher l) ys (All-weaker_rec (λ z. comes_before z y ≡ false) (λ z. is_higher l z ≡ true) (λ z k. higher_chain l y z t k) ys h.0) in simp (t, rest) refl)
    (λ t. simp t refl))
higher_from l (y ∷ ys) (suc i) x h here = higher_from l ys i x h.1 here

-- there are no orders from the end on
pub higher_end : (l : ℕ) (line : List Arrived) (i : ℕ) → slice_get line i ≡ None → list_all (is_higher l) (drop i line) ≡ true
higher_end l [] zero none = refl
higher_end l [] (suc i) none = refl
higher_end l (y ∷ ys) zero none = absurd (let no_one : ⊥ = cc in no_one)
higher_end l (y ∷ ys) (suc i) none = higher_end l ys i none

none_lower : (l : ℕ) (xs : List Arrived) → list_all (is_lower l) xs ≡ true → filter (is_of_locate l) xs ≡ []
none_lower l [] all = refl
none_lower l (x ∷ xs) all =
    by_test (is_lower l x)
    (λ t. let rest : list_all (is_lower l) xs ≡ true = simp t at all in
    let other : is_of_locate l x ≡ false = grind (arith, nat_tests) in simp other (none_lower l xs rest))
    (λ t. let no : false ≡ true = simp t at all in absurd (false≢true no))

none_higher : (l : ℕ) (xs : List Arrived) → list_all (is_higher l) xs ≡ true → filter (is_of_locate l) xs ≡ []
none_higher l [] all = refl
none_higher l (x ∷ xs) all =
    by_test (is_higher l x)
    (λ t. let rest : list_all (is_higher l) xs ≡ true = simp t at all in
    let other : is_of_locate l x ≡ false = grind (arith, nat_tests) in simp other (none_higher l xs rest))
    (λ t. let no : false ≡ true = simp t at all in absurd (false≢true no))

front_in_order : (xs ys : List Arrived) → IsInOrder comes_before (xs ++ ys) → IsInOrder comes_before xs
front_in_order [] ys h = tt
front_in_order (x ∷ xs) ys h = (All-left_rec (λ z. comes_before z x ≡ false) xs ys h.0, front_in_order xs ys h.1)

back_in_order : (xs ys : List Arrived) → IsInOrder comes_before (xs ++ ys) → IsInOrder comes_before ys
back_in_order [] ys h = h
back_in_order (x ∷ xs) ys h = back_in_order xs ys h.1

pub part_in_order : (i n : ℕ) (line : List Arrived) → IsInOrder comes_before line → IsInOrder comes_before (take n (drop i line))
part_in_order i n line h =
    let rest : IsInOrder comes_before (drop i line) = back_in_order (take i line) (drop i line) (subst (IsInOrder comes_before) (sym (take-append-drop i line)) h) in
    front_in_order (take n (drop i line)) (drop n (drop i line)) (subst (IsInOrder comes_before) (sym (take-append-drop n (drop i line))) rest)

-- between orders of lower locates and orders of higher ones are all orders of a locate
pub part_all : (l : ℕ) (line : List Arrived) (i j : ℕ) → i ≤ j → list_all (is_lower l) (take i line) ≡ true → list_all (is_higher l) (drop j line) ≡ true
    → filter (is_of_locate l) (take (j - i) (drop i line)) ≡ filter (is_of_locate l) line
part_all l line i j le lower higher =
    let rest = drop i line in let n = j - i in
    let sum : i + n ≡ j = omega arith in
    let behind : filter (is_of_locate l) (drop n rest) ≡ [] = ap (filter (is_of_locate l)) (drop-drop n i line ∙ ap (λ k. drop k line) sum) ∙ none_higher l (drop j line) higher in
    sym (append-nil (filter (is_of_locate l) (take n rest)))
    ∙ ap (λ t. filter (is_of_locate l) (take n rest) ++ t) (sym behind)
    ∙ sym (filter-append (is_of_locate l) (take n rest) (drop n rest))
    ∙ ap (filter (is_of_locate l)) (take-append-drop n rest)
    ∙ ap (λ t. t ++ filter (is_of_locate l) rest) (sym (none_lower l (take i line) lower))
    ∙ sym (filter-append (is_of_locate l) (take i line) rest)
    ∙ ap (filter (is_of_locate l)) (take-append-drop i line)

pub part_within : (line : List Arrived) (i j : ℕ) → i ≤ j → j ≤ length line → i + length (take (j - i) (drop i line)) ≤ length line
part_within line i j le within =
    let rest = length-drop i line in
    let part = length-take-le (j - i) (drop i line) (omega (arith, rest)) in omega (arith, part)

find_within : (p q : Arrived → Bool) → ((x : Arrived) → p x ≡ true → q x ≡ true) → (xs : List Arrived) → find p (filter q xs) ≡ find p xs
find_within p q h [] = refl
find_within p q h (x ∷ xs) =
    let rest = find_within p q h xs in
    by_test (p x)
    (λ e. let f = h x e in simp (f, e) refl)
    (λ e. by_test (q x) (λ f. simp (f, e) rest) (λ f. simp (f, e) rest))

-- a wanted order is of the wanted locate
wanted_at : (w : Wanted) (x : Arrived) → wants w x ≡ true → is_of_locate (locate_of w) x ≡ true
wanted_at (In l) x e = e
wanted_at (Next l s last) x e = by_test (is_in l x.order) (λ t. t) (λ t. let no : false ≡ true = simp t at e in absurd (false≢true no))
wanted_at (After y) x e = by_test (is_in y.order.locate x.order) (λ t. t) (λ t. let no : false ≡ true = simp t at e in absurd (false≢true no))

-- the first wanted order of a part is that of the line
pub same_found : (w : Wanted) (part line : List Arrived) → filter (is_of_locate (locate_of w)) part ≡ filter (is_of_locate (locate_of w)) line → find (wants w) part ≡ find (wants w) line
same_found w part line e =
    sym (find_within (wants w) (is_of_locate (locate_of w)) (wanted_at w) part)
    ∙ ap (find (wants w)) e
    ∙ find_within (wants w) (is_of_locate (locate_of w)) (wanted_at w) line

level_at : (l : ℕ) (s : Side) (p : ℕ) (x : Arrived) → at_level l s p x ≡ true → is_of_locate l x ≡ true
level_at l s p x e = by_test (is_in l x.order) (λ t. t) (λ t. let no : false ≡ true = simp t at e in absurd (false≢true no))

-- the total of a price in a part is that in the line
pub same_total : (l : ℕ) (s : Side) (p : ℕ) (part line : List Arrived) → filter (is_of_locate l) part ≡ filter (is_of_locate l) line
    → level_total (map its_order part) l s p ≡ level_total (map its_order line) l s p
same_total l s p part line e =
    sym (total_shown l s p part)
    ∙ ap (λ (ys : List Arrived). (sum_by (λ (x : Arrived). x.order.shares) ys, length ys))
    (sym (filter_within (at_level l s p) (is_of_locate l) (level_at l s p) part) ∙ ap (filter (at_level l s p)) e ∙ filter_within (at_level l s p) (is_of_locate l) (level_at l s p) line)
    ∙ total_shown l s p line

-- the line, if there is one, is the sorted list
pub line_is : (xs : List Arrived) (laid : Option (List Arrived)) (line : List Arrived) → IsLineOr xs laid → laid ≡ Some line → line ≡ in_order comes_before xs
line_is xs laid line is e = subst (IsLineOr xs) e is
