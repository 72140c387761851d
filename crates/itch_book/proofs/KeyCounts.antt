-- The number of keys that have a link after an insertion or a removal.
use Rattle.std.proofs.Common.{◌≡◌, ℕ, ◌+◌, ◌-◌, ◌≤◌, true, false, cond, eqb, ◌||◌, List, [], ◌∷◌, length, Option, Some, None, is_some, refl, sym, ap, ◌∙◌, subst, arith}
use Rattle.std.specs.List.{AllByRecursion, list_any, IsDistinct}
use Rattle.std.specs.Map.{update}
use Rattle.std.proofs.lemmas.Bool.{false≢true}
use Rattle.itch_book.specs.Table.{IsCount}
use Rattle.itch_book.proofs.Lists.{by_test}
use Rattle.itch_book.proofs.LinkLemmas.{eqb_itself, eqb_is, eqb_turned}

-- the list without the first occurrence of this key
abbrev drop_key : ℕ → List ℕ → List ℕ
drop_key k [] = []
drop_key k (y ∷ ys) = cond (eqb k y) ys (y ∷ drop_key k ys)

no_keys : IsDistinct eqb []
unfolding IsDistinct
no_keys = tt

one_more : (k : ℕ) (ys : List ℕ) → AllByRecursion (λ y. eqb k y ≡ false) ys → IsDistinct eqb ys → IsDistinct eqb (k ∷ ys)
unfolding IsDistinct
one_more k ys h d = (h, d)

head_apart : (k : ℕ) (ys : List ℕ) → IsDistinct eqb (k ∷ ys) → AllByRecursion (λ y. eqb k y ≡ false) ys
unfolding IsDistinct
head_apart k ys d = d.0

tail_distinct : (k : ℕ) (ys : List ℕ) → IsDistinct eqb (k ∷ ys) → IsDistinct eqb ys
unfolding IsDistinct
tail_distinct k ys d = d.1

not_among : (k : ℕ) (ys : List ℕ) → list_any (eqb k) ys ≡ false → AllByRecursion (λ y. eqb k y ≡ false) ys
not_among k [] h = tt
not_among k (y ∷ ys) h = by_test (eqb k y)
    (λ e. let yes : true ≡ false = simp e at h in absurd (false≢true (sym yes)))
    (λ e. (e, not_among k ys (simp e at h)))

none_among : (k : ℕ) (ys : List ℕ) → AllByRecursion (λ y. eqb k y ≡ false) ys → list_any (eqb k) ys ≡ false
none_among k [] h = refl
none_among k (y ∷ ys) h = let e = h.0 in simp e (none_among k ys h.1)

drop_long : (k : ℕ) (ys : List ℕ) → list_any (eqb k) ys ≡ true → length (drop_key k ys) + 1 ≡ length ys
drop_long k [] h = absurd (false≢true h)
drop_long k (y ∷ ys) h = by_test (eqb k y)
    (λ e. simp e (omega arith))
    (λ e. let rest : list_any (eqb k) ys ≡ true = simp e at h in let r = drop_long k ys rest in simp e (omega arith))

drop_apart : (p k : ℕ) (ys : List ℕ) → AllByRecursion (λ y. eqb p y ≡ false) ys → AllByRecursion (λ y. eqb p y ≡ false) (drop_key k ys)
drop_apart p k [] h = tt
drop_apart p k (y ∷ ys) h = by_test (eqb k y) (λ e. simp e h.1) (λ e. simp e (h.0, drop_apart p k ys h.1))

drop_distinct : (k : ℕ) (ys : List ℕ) → IsDistinct eqb ys → IsDistinct eqb (drop_key k ys)
drop_distinct k [] d = d
drop_distinct k (y ∷ ys) d = by_test (eqb k y)
    (λ e. simp e (tail_distinct y ys d))
    (λ e. simp e (one_more y (drop_key k ys) (drop_apart y k ys (head_apart y ys d)) (drop_distinct k ys (tail_distinct y ys d))))

drop_among : (k q : ℕ) (ys : List ℕ) → IsDistinct eqb ys → list_any (eqb q) (drop_key k ys) ≡ cond (eqb k q) false (list_any (eqb q) ys)
drop_among k q [] d = by_test (eqb k q) (λ e. simp e refl) (λ e. simp e refl)
drop_among k q (y ∷ ys) d = by_test (eqb k y)
    (λ e. by_test (eqb k q)
    (λ t. let same : y ≡ q = sym (eqb_is k y e) ∙ eqb_is k q t in
    simp (e, t) (none_among q ys (subst (λ n. AllByRecursion (λ z. eqb n z ≡ false) ys) same (head_apart y ys d))))
    (λ t. let s : eqb q y ≡ false = subst (λ n. eqb q n ≡ false) (eqb_is k y e) (eqb_turned k q t) in simp (e, t, s) refl))
    (λ e. let rest = drop_among k q ys (tail_distinct y ys d) in by_test (eqb k q)
    (λ t. let s : eqb q y ≡ false = subst (λ n. eqb n y ≡ false) (eqb_is k q t) e in simp (e, s) rest)
    (λ t. let left : list_any (eqb q) (drop_key k ys) ≡ list_any (eqb q) ys = rest ∙ ap (λ b. cond b false (list_any (eqb q) ys)) t in
    simp (e, t) (ap (λ b. eqb q y || b) left)))

-- no key has a link
pub count_none : (f : ℕ → Option ℕ) → ((k : ℕ) → f k ≡ None) → IsCount f 0
count_none f none = record { keys = []; distinct = no_keys; long = refl; known = λ k. ap is_some (none k) }

-- the keys with a link are the same
pub count_same : (f g : ℕ → Option ℕ) (n : ℕ) → IsCount f n → ((q : ℕ) → is_some (g q) ≡ is_some (f q)) → IsCount g n
count_same f g n is same = record { keys = is.keys; distinct = is.distinct; long = is.long; known = λ q. same q ∙ is.known q }

pub count_set : (f g : ℕ → Option ℕ) (k w v n : ℕ) → IsCount f n → f k ≡ Some w → ((q : ℕ) → g q ≡ update eqb f k (Some v) q) → IsCount g n
count_set f g k w v n is there puts = count_same f g n is (λ q. ap is_some (puts q) ∙ by_test (eqb k q)
    (λ e. let known : is_some (f q) ≡ true = ap is_some (subst (λ m. f m ≡ Some w) (eqb_is k q e) there) in simp (e, known) refl)
    (λ e. simp e refl))

-- a new key has a link
pub count_more : (f g : ℕ → Option ℕ) (k v n : ℕ) → IsCount f n → f k ≡ None → ((q : ℕ) → g q ≡ update eqb f k (Some v) q) → IsCount g (n + 1)
count_more f g k v n is new puts = record {
  keys = k ∷ is.keys;
  distinct = one_more k is.keys (not_among k is.keys (sym (is.known k) ∙ ap is_some new)) is.distinct;
  long = let l = is.long in omega arith;
  known = λ q. ap is_some (puts q) ∙ by_test (eqb k q)
      (λ e. let s : eqb q k ≡ true = subst (λ m. eqb m k ≡ true) (eqb_is k q e) (eqb_itself k) in simp (e, s) refl)
      (λ e. let s : eqb q k ≡ false = eqb_turned k q e in simp (e, s) (is.known q));
}

-- a key had a link, which was removed
some_among : (ys : List ℕ) (k : ℕ) → list_any (eqb k) ys ≡ true → 1 ≤ length ys
some_among [] k h = absurd (false≢true h)
some_among (y ∷ ys) k h = omega arith

pub count_some : (f : ℕ → Option ℕ) (k w n : ℕ) → IsCount f n → f k ≡ Some w → 1 ≤ n
count_some f k w n is there = let some = some_among is.keys k (sym (is.known k) ∙ ap is_some there) in let l = is.long in omega arith

pub count_fewer : (f g : ℕ → Option ℕ) (k w n : ℕ) → IsCount f n → f k ≡ Some w → ((q : ℕ) → g q ≡ update eqb f k None q) → IsCount g (n - 1)
count_fewer f g k w n is there gone = record {
  keys = drop_key k is.keys;
  distinct = drop_distinct k is.keys is.distinct;
  long = let l = is.long in let d = drop_long k is.keys (sym (is.known k) ∙ ap is_some there) in omega arith;
  known = λ q. ap is_some (gone q) ∙ by_test (eqb k q)
      (λ e. let among = drop_among k q is.keys is.distinct ∙ ap (λ b. cond b false (list_any (eqb q) is.keys)) e in simp e (sym among))
      (λ e. let among = drop_among k q is.keys is.distinct ∙ ap (λ b. cond b false (list_any (eqb q) is.keys)) e in simp e (is.known q ∙ sym among));
}
