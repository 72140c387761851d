-- One line of levels: the position of a price, and the effect of a change.
use Rattle.std.proofs.Common.{◌≡◌, ℕ, zero, suc, ◌≤◌, ◌<◌, true, false, not, cond, eqb, List, [], ◌∷◌, length, get_or, insert, remove, Option, Some, None, IsSome, option_map, refl, sym, ap, ◌∙◌, subst, arith, one-add, inl, inr}
use Rattle.std.specs.List.{AllByRecursion, position_or_len, slice_get}
use Rattle.std.specs.List.Sorted.{IsPartitionedBy, IsPartitionPoint}
use Rattle.std.proofs.lemmas.Bool.{false≢true, cases_eq}
use Rattle.std.proofs.lemmas.Bool.Decides.{nat_tests}
use Rattle.std.proofs.Math.Dec.{ltb}
use Rattle.std.proofs.lemmas.List.Sums.{position_or_len_is}
use Rattle.std.proofs.lemmas.Option.{slice_get_read, slice_get_past}
use Rattle.itch_codec.specs.declared.orders.Side.{Side}
use Rattle.itch_codec.specs.declared.orders.Side.TheVariants.{Buy, Sell}
use Rattle.itch_book.specs.declared.level_lines.Level.{Level}
use Rattle.itch_book.specs.Orders.{is_better, is_worse}
use Rattle.itch_book.specs.Indexed.{IsNextOr}
use Rattle.itch_book.specs.SideLevels.{queue_in, IsRising}
use Rattle.itch_book.proofs.Lists.{by_test, All-weaker_rec}

-- a better price is a different price
pub better_apart : (s : Side) (p q : ℕ) → is_better s p q ≡ true → eqb p q ≡ false
better_apart Buy p q h = grind (arith, nat_tests)
better_apart Sell p q h = grind (arith, nat_tests)

pub better_once : (s : Side) (p q : ℕ) → is_better s p q ≡ true → is_better s q p ≡ false
better_once Buy p q h = grind (arith, nat_tests)
better_once Sell p q h = grind (arith, nat_tests)

pub better_self : (s : Side) (p : ℕ) → is_better s p p ≡ false
better_self Buy p = grind (arith, nat_tests)
better_self Sell p = grind (arith, nat_tests)

pub better_chain : (s : Side) (p q r : ℕ) → is_better s p q ≡ true → is_better s q r ≡ true → is_better s p r ≡ true
better_chain Buy p q r h k = grind (arith, nat_tests)
better_chain Sell p q r h k = grind (arith, nat_tests)

-- a price that is not better is worse or equal
pub better_else : (s : Side) (p q : ℕ) → is_better s p q ≡ false → eqb p q ≡ false → is_better s q p ≡ true
better_else Buy p q h k = grind (arith, nat_tests)
better_else Sell p q h k = grind (arith, nat_tests)

same_price : (p q : ℕ) → eqb p q ≡ true → p ≡ q
same_price p q h = grind (arith, nat_tests)

own_price : (p : ℕ) → eqb p p ≡ true
own_price p = grind (arith, nat_tests)

flips : (p q : ℕ) → eqb p q ≡ eqb q p
flips p q = grind (arith, nat_tests)

none_some : {X : Type 0} {P : Type 0} {x : X} → None ≡ Some x → P
none_some h = absurd (let no_one : ⊥ = cc in no_one)

-- a price that is worse than all levels has no queue
pub all_better : (s : Side) (p : ℕ) (xs : List Level) → AllByRecursion (λ (y : Level). is_better s y.price p ≡ true) xs → queue_in xs p ≡ None
all_better s p [] h = refl
all_better s p (x ∷ xs) h = let e = flips p x.price ∙ better_apart s x.price p h.0 in simp e (all_better s p xs h.1)

better_all : (s : Side) (p q : ℕ) (xs : List Level) → is_better s p q ≡ true → AllByRecursion (λ (y : Level). is_better s y.price p ≡ true) xs → AllByRecursion (λ (y : Level). is_better s y.price q ≡ true) xs
better_all s p q xs h = All-weaker_rec (λ (y : Level). is_better s y.price p ≡ true) (λ (y : Level). is_better s y.price q ≡ true) (λ y k. better_chain s y.price p q k h) xs

-- a level of the line is better than those before it
better_at : (s : Side) (x : Level) (xs : List Level) (j : ℕ) (d : Level) → AllByRecursion (λ (y : Level). is_better s y.price x.price ≡ true) xs → j < length xs → is_better s (get_or xs j d).price x.price ≡ true
better_at s x [] j d h l = absurd (omega arith)
better_at s x (y ∷ ys) zero d h l = h.0
better_at s x (y ∷ ys) (suc j) d h l = better_at s x ys j d h.1 (omega arith)

places_better : (s : Side) (xs : List Level) (i j : ℕ) (d : Level) → IsRising s xs → i < j → j < length xs → is_better s (get_or xs j d).price (get_or xs i d).price ≡ true
places_better s [] i j d h l k = absurd (omega arith)
places_better s (x ∷ xs) i zero d h l k = absurd (omega arith)
places_better s (x ∷ xs) zero (suc j) d h l k = better_at s x xs j d h.0 (omega arith)
places_better s (x ∷ xs) (suc i) (suc j) d h l k = places_better s xs i j d h.1 (omega arith) (omega arith)

-- worse levels come first
pub parted : (s : Side) (p : ℕ) (xs : List Level) → IsRising s xs → IsPartitionedBy (λ (x : Level). is_better s p x.price) xs
parted s p xs h i j d le within e = elim (cases_eq i j) [
  | inl same ↦ rw same e
  | inr differ ↦ better_chain s p (get_or xs j d).price (get_or xs i d).price e (places_better s xs i j d h (omega arith) within)
]

-- and the position of the price is where they end
pub place_is : (s : Side) (p : ℕ) (xs : List Level) (i : ℕ) (d : Level) → i ≤ length xs → IsPartitionPoint (λ (x : Level). is_better s p x.price ≡ true) (λ (x : Level). is_better s p x.price ≡ false) xs i
    → i ≡ position_or_len (λ (x : Level). not (is_better s p x.price)) xs
place_is s p xs i d within point =
    sym (position_or_len_is (λ (x : Level). not (is_better s p x.price)) xs i d within
    (λ k lt. let e = point.0 k d (omega arith) lt in simp e refl)
    (λ lt. let e = point.1 i d (omega arith) lt in simp e refl))

-- the queue of a level, if it has this price
abbrev queue_if : ℕ → Option Level → Option ℕ
queue_if p None = None
queue_if p (Some x) = cond (eqb p x.price) (Some x.queue) None

found_at : (s : Side) (p : ℕ) (xs : List Level) → IsRising s xs → queue_in xs p ≡ queue_if p (slice_get xs (position_or_len (λ (x : Level). not (is_better s p x.price)) xs))
found_at s p [] h = refl
found_at s p (x ∷ xs) h =
    let rest = found_at s p xs h.1 in
    by_test (is_better s p x.price)
    (λ e. let f = better_apart s p x.price e in simp (e, f, one-add) rest)
    (λ e. by_test (eqb p x.price)
    (λ f. simp (e, f) refl)
    (λ f. let none = all_better s p xs (better_all s x.price p xs (better_else s p x.price e f) h.0) in simp (e, f) none))

module _ (s : Side) (p : ℕ) (xs : List Level) (h : IsRising s xs) (i : ℕ) (place : i ≡ position_or_len (λ (x : Level). not (is_better s p x.price)) xs) where
  pub hit : (x : Level) → slice_get xs i ≡ Some x → x.price ≡ p → queue_in xs p ≡ Some x.queue
  hit x here same = found_at s p xs h ∙ ap (λ n. queue_if p (slice_get xs n)) (sym place) ∙ ap (queue_if p) here ∙ (let e = own_price x.price in subst (λ q. queue_if q (Some x) ≡ Some x.queue) same (simp e refl))

  pub miss : (x : Level) → slice_get xs i ≡ Some x → eqb p x.price ≡ false → queue_in xs p ≡ None
  miss x here other = found_at s p xs h ∙ ap (λ n. queue_if p (slice_get xs n)) (sym place) ∙ ap (queue_if p) here ∙ simp other refl

  pub past : slice_get xs i ≡ None → queue_in xs p ≡ None
  past here = found_at s p xs h ∙ ap (λ n. queue_if p (slice_get xs n)) (sym place) ∙ ap (queue_if p) here

pub read_level : (xs : List Level) (i : ℕ) (x : Level) → true ≡ ltb i (length xs) → x ≡ get_or xs i x → slice_get xs i ≡ Some x
read_level xs i x e read = let lt : i < length xs = grind (arith, nat_tests) in slice_get_read xs (length xs) i x refl lt read

pub read_past : (xs : List Level) (i : ℕ) → false ≡ ltb i (length xs) → slice_get xs i ≡ None
read_past xs i e = let le : length xs ≤ i = grind (arith, nat_tests) in slice_get_past xs i le

pub within : (xs : List Level) (i : ℕ) → true ≡ ltb i (length xs) → i < length xs
within xs i e = grind (arith, nat_tests)

-- inserting a level at its position
put_all : (s : Side) (q : ℕ) (xs : List Level) (i : ℕ) (x : Level) → is_better s x.price q ≡ true → AllByRecursion (λ (y : Level). is_better s y.price q ≡ true) xs → AllByRecursion (λ (y : Level). is_better s y.price q ≡ true) (insert xs i x)
put_all s q [] zero x h k = (h, tt)
put_all s q [] (suc i) x h k = (h, tt)
put_all s q (y ∷ ys) zero x h k = (h, k)
put_all s q (y ∷ ys) (suc i) x h k = (k.0, put_all s q ys i x h k.1)

new_head : (p : ℕ) (y : Level) (ys : List Level) → queue_in (y ∷ ys) p ≡ None → (eqb p y.price ≡ false) × (queue_in ys p ≡ None)
new_head p y ys h = by_test (eqb p y.price)
    (λ e. let no : Some y.queue ≡ None = simp e at h in none_some (sym no))
    (λ e. (e, simp e at h))

put_rises : (s : Side) (x : Level) (xs : List Level) → IsRising s xs → queue_in xs x.price ≡ None → IsRising s (insert xs (position_or_len (λ (y : Level). not (is_better s x.price y.price)) xs) x)
put_rises s x [] h new = (tt, tt)
put_rises s x (y ∷ ys) h new =
    let apart = new_head x.price y ys new in
    by_test (is_better s x.price y.price)
    (λ e. let rest = put_rises s x ys h.1 apart.1 in
    let all = put_all s y.price ys (position_or_len (λ (z : Level). not (is_better s x.price z.price)) ys) x e h.0 in
    simp (e, one-add) (all, rest))
    (λ e. let up = better_else s x.price y.price e apart.0 in simp e ((up, better_all s y.price x.price ys up h.0), h))

pub put_rising : (s : Side) (x : Level) (xs : List Level) (i : ℕ) → IsRising s xs → queue_in xs x.price ≡ None → i ≡ position_or_len (λ (y : Level). not (is_better s x.price y.price)) xs → IsRising s (insert xs i x)
put_rising s x xs i h new place = subst (λ n. IsRising s (insert xs n x)) (sym place) (put_rises s x xs h new)

pub put_queues : (x : Level) (xs : List Level) (i : ℕ) → queue_in xs x.price ≡ None → (p : ℕ) → queue_in (insert xs i x) p ≡ cond (eqb x.price p) (Some x.queue) (queue_in xs p)
put_queues x [] zero new p = ap (λ b. cond b (Some x.queue) None) (flips p x.price)
put_queues x [] (suc i) new p = ap (λ b. cond b (Some x.queue) None) (flips p x.price)
put_queues x (y ∷ ys) zero new p = ap (λ b. cond b (Some x.queue) (queue_in (y ∷ ys) p)) (flips p x.price)
put_queues x (y ∷ ys) (suc i) new p =
    let apart = new_head x.price y ys new in
    let rest = put_queues x ys i apart.1 p in
    by_test (eqb p y.price)
    (λ e. let f : eqb x.price p ≡ false = subst (λ q. eqb x.price q ≡ false) (sym (same_price p y.price e)) apart.0 in simp (e, f) refl)
    (λ e. simp e rest)

-- removing a level from its position
cut_all : (P : Level → Type 0) (xs : List Level) (i : ℕ) → AllByRecursion P xs → AllByRecursion P (remove xs i)
cut_all P [] zero h = tt
cut_all P [] (suc i) h = tt
cut_all P (y ∷ ys) zero h = h.1
cut_all P (y ∷ ys) (suc i) h = (h.0, cut_all P ys i h.1)

pub cut_rising : (s : Side) (xs : List Level) (i : ℕ) → IsRising s xs → IsRising s (remove xs i)
cut_rising s [] zero h = tt
cut_rising s [] (suc i) h = tt
cut_rising s (y ∷ ys) zero h = h.1
cut_rising s (y ∷ ys) (suc i) h = (cut_all (λ (z : Level). is_better s z.price y.price ≡ true) ys i h.0, cut_rising s ys i h.1)

pub cut_queues : (s : Side) (xs : List Level) (i : ℕ) (d : Level) → IsRising s xs → i < length xs → (p : ℕ) → queue_in (remove xs i) p ≡ cond (eqb (get_or xs i d).price p) None (queue_in xs p)
cut_queues s [] i d h l p = absurd (omega arith)
cut_queues s (y ∷ ys) zero d h l p =
    by_test (eqb y.price p)
    (λ e. let none = all_better s p ys (subst (λ q. AllByRecursion (λ (z : Level). is_better s z.price q ≡ true) ys) (same_price y.price p e) h.0) in simp e none)
    (λ e. let f = flips p y.price ∙ e in simp (e, f) refl)
cut_queues s (y ∷ ys) (suc i) d h l p =
    let rest = cut_queues s ys i d h.1 (omega arith) p in
    let up = better_at s y ys i d h.0 (omega arith) in
    by_test (eqb p y.price)
    (λ e. let f : eqb (get_or ys i d).price p ≡ false = subst (λ q. eqb (get_or ys i d).price q ≡ false) (sym (same_price p y.price e)) (better_apart s (get_or ys i d).price y.price up) in simp (e, f) refl)
    (λ e. simp e rest)

-- the best level that is worse than the last price
abbrev pair_of : Level → ℕ × ℕ
pair_of x = (x.price, x.queue)

abbrev last_or : Option Level → Level → Level
last_or None x = x
last_or (Some y) x = y

abbrev best_in : Side → Option ℕ → List Level → Option Level
best_in s last [] = None
best_in s last (x ∷ xs) = cond (is_worse s last x.price) (Some (last_or (best_in s last xs) x)) None

-- if a level is not worse than the last price, neither are those after it
stays : (s : Side) (last : Option ℕ) (p q : ℕ) → is_worse s last p ≡ false → is_better s q p ≡ true → is_worse s last q ≡ false
stays s None p q h k = absurd (false≢true (sym h))
stays s (Some l) p q h k = by_test (is_better s l q) (λ e. absurd (false≢true (sym h ∙ better_chain s l q p e k))) (λ e. e)

none_worse : (s : Side) (last : Option ℕ) (xs : List Level) → AllByRecursion (λ (y : Level). is_worse s last y.price ≡ false) xs → (p : ℕ) → is_worse s last p ≡ true → queue_in xs p ≡ None
none_worse s last [] h p w = refl
none_worse s last (x ∷ xs) h p w =
    let rest = none_worse s last xs h.1 p w in
    by_test (eqb p x.price)
    (λ e. absurd (false≢true (sym h.0 ∙ subst (λ q. is_worse s last q ≡ true) (same_price p x.price e) w)))
    (λ e. simp e rest)

some_is : (o : Option ℕ) → IsSome o → o ≡ None → ⊥
some_is None h e = absurd (false≢true h)
some_is (Some x) h e = none_some (sym e)

best_next : (s : Side) (last : Option ℕ) (xs : List Level) → IsRising s xs → IsNextOr (queue_in xs) s last (option_map pair_of (best_in s last xs))
best_next s last [] h = λ p small w. refl
best_next s last (x ∷ xs) h =
    by_test (is_worse s last x.price)
    (λ e. by (best_in s last xs) e (best_next s last xs h.1) refl)
    (λ e. let all : AllByRecursion (λ (y : Level). is_worse s last y.price ≡ false) (x ∷ xs) =
    (e, All-weaker_rec (λ (y : Level). is_better s y.price x.price ≡ true) (λ (y : Level). is_worse s last y.price ≡ false) (λ y k. stays s last x.price y.price e k) xs h.0) in
    subst (λ b. IsNextOr (queue_in (x ∷ xs)) s last (option_map pair_of (cond b (Some (last_or (best_in s last xs) x)) None))) (sym e) (λ p small w. none_worse s last (x ∷ xs) all p w))
  where
    by : (o : Option Level) → is_worse s last x.price ≡ true → IsNextOr (queue_in xs) s last (option_map pair_of o) → best_in s last xs ≡ o → IsNextOr (queue_in (x ∷ xs)) s last (option_map pair_of (best_in s last (x ∷ xs)))
    by None e next is =
        subst (λ b. IsNextOr (queue_in (x ∷ xs)) s last (option_map pair_of (cond b (Some (last_or (best_in s last xs) x)) None))) (sym e)
        (subst (λ o. IsNextOr (queue_in (x ∷ xs)) s last (option_map pair_of (Some (last_or o x)))) (sym is)
        (record {
          here = let f = own_price x.price in simp f refl;
          worse = e;
          best = λ p small w some. by_test (eqb p x.price)
              (λ f. subst (λ q. is_better s q x.price ≡ false) (sym (same_price p x.price f)) (better_self s x.price))
              (λ f. absurd (some_is (queue_in (x ∷ xs) p) some (simp f (next p small w))));
        }))
    by (Some y) e next is =
        let up : is_better s y.price x.price ≡ true = better_found xs y.price y.queue h.0 next.here in
        let other = better_apart s y.price x.price up in
        subst (λ b. IsNextOr (queue_in (x ∷ xs)) s last (option_map pair_of (cond b (Some (last_or (best_in s last xs) x)) None))) (sym e)
        (subst (λ o. IsNextOr (queue_in (x ∷ xs)) s last (option_map pair_of (Some (last_or o x)))) (sym is)
        (record {
          here = simp other next.here;
          worse = next.worse;
          best = λ p small w some. by_test (eqb p x.price)
              (λ f. subst (λ q. is_better s q y.price ≡ false) (sym (same_price p x.price f)) (better_once s y.price x.price up))
              (λ f. next.best p small w (subst IsSome (let same : queue_in (x ∷ xs) p ≡ queue_in xs p = simp f refl in same) some));
        }))
      where
        better_found : (ys : List Level) (p q : ℕ) → AllByRecursion (λ (z : Level). is_better s z.price x.price ≡ true) ys → queue_in ys p ≡ Some q → is_better s p x.price ≡ true
        better_found [] p q all found = none_some found
        better_found (z ∷ zs) p q all found =
            by_test (eqb p z.price)
            (λ f. subst (λ n. is_better s n x.price ≡ true) (sym (same_price p z.price f)) all.0)
            (λ f. better_found zs p q all.1 (simp f at found))

-- its position is before the end
best_none : (s : Side) (last : Option ℕ) (xs : List Level) → position_or_len (λ (x : Level). not (is_worse s last x.price)) xs ≡ 0 → best_in s last xs ≡ None
best_none s last [] end = refl
best_none s last (x ∷ xs) end = by_test (is_worse s last x.price)
    (λ e. let no : suc (position_or_len (λ (y : Level). not (is_worse s last y.price)) xs) ≡ 0 = simp (e, one-add) at end in absurd (let no_one : ⊥ = omega arith in no_one))
    (λ e. simp e refl)

best_some : (s : Side) (last : Option ℕ) (xs : List Level) (n : ℕ) (d : Level) → position_or_len (λ (x : Level). not (is_worse s last x.price)) xs ≡ suc n → best_in s last xs ≡ Some (get_or xs n d)
best_some s last [] n d end = absurd (let no_one : ⊥ = omega arith in no_one)
best_some s last (x ∷ xs) n d end = by_test (is_worse s last x.price)
    (λ e. let after : suc (position_or_len (λ (y : Level). not (is_worse s last y.price)) xs) ≡ suc n = simp (e, one-add) at end in
    by_place n (omega (arith, after)) e (λ m here. best_some s last xs m d here))
    (λ e. let no : 0 ≡ suc n = simp e at end in absurd (let no_one : ⊥ = omega arith in no_one))
  where
    by_place : (m : ℕ) → position_or_len (λ (y : Level). not (is_worse s last y.price)) xs ≡ m → is_worse s last x.price ≡ true
        → ((k : ℕ) → position_or_len (λ (y : Level). not (is_worse s last y.price)) xs ≡ suc k → best_in s last xs ≡ Some (get_or xs k d)) → best_in s last (x ∷ xs) ≡ Some (get_or (x ∷ xs) m d)
    by_place zero here e rest = let none = best_none s last xs here in simp e (ap (λ o. Some (last_or o x)) none)
    by_place (suc m) here e rest = let some = rest m here in simp e (ap (λ o. Some (last_or o x)) some)

pub next_none : (s : Side) (last : Option ℕ) (xs : List Level) → IsRising s xs → position_or_len (λ (x : Level). not (is_worse s last x.price)) xs ≡ 0 → IsNextOr (queue_in xs) s last None
next_none s last xs h end = subst (λ o. IsNextOr (queue_in xs) s last (option_map pair_of o)) (best_none s last xs end) (best_next s last xs h)

pub next_some : (s : Side) (last : Option ℕ) (xs : List Level) (n : ℕ) (d : Level) → IsRising s xs → position_or_len (λ (x : Level). not (is_worse s last x.price)) xs ≡ suc n → IsNextOr (queue_in xs) s last (Some ((get_or xs n d).price, (get_or xs n d).queue))
next_some s last xs n d h end = subst (λ o. IsNextOr (queue_in xs) s last (option_map pair_of o)) (best_some s last xs n d end) (best_next s last xs h)

-- without a last price, all levels count as worse
pub all_worse : (s : Side) (xs : List Level) → length xs ≡ position_or_len (λ (x : Level). not (is_worse s None x.price)) xs
all_worse s [] = refl
all_worse s (x ∷ xs) = let rest = all_worse s xs in omega (arith, rest)

-- removing a price without a queue
pub none_cut : (xs : List Level) (price : ℕ) → queue_in xs price ≡ None → (p : ℕ) → queue_in xs p ≡ cond (eqb price p) None (queue_in xs p)
none_cut xs price none p = by_test (eqb price p)
    (λ e. subst (λ n. queue_in xs n ≡ cond (eqb price n) None (queue_in xs n)) (same_price price p e) (none ∙ (let own = own_price price in simp own refl)))
    (λ e. simp e refl)
