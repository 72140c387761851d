-- Reading lists after a write, and counting their links.
use Rattle.std.proofs.Common.{◌≡◌, ℕ, zero, suc, ◌+◌, ◌/◌, ◌%◌, ◌<◌, true, false, cond, eqb, List, [], ◌∷◌, length, set, get_or, Option, Some, None, is_some, refl, sym, ap, ◌∙◌, subst, arith}
use Rattle.std.specs.List.{count_by}
use Rattle.std.proofs.lemmas.Bool.{false≢true}
use Rattle.std.proofs.lemmas.Bool.Decides.{nat_tests}
use Rattle.std.proofs.lemmas.List.Sums.{sum_by-cons, sum_by-set}
use Rattle.std.proofs.lemmas.List.{get_or-set_same, get_or-set_other}
use Rattle.itch_book.specs.Pages.{one_if}
use Rattle.itch_book.proofs.Lists.{by_test}
use Rattle.itch_book.proofs.LinkLemmas.{eqb_itself, eqb_is, eqb_turned}

pub set_read : {X : Type 0} (xs : List X) (o j : ℕ) (x d : X) → o < length xs → get_or (set xs o x) j d ≡ cond (eqb o j) x (get_or xs j d)
set_read {X} xs o j x d h =
    by_test (eqb o j)
    (λ e. let is : o ≡ j = eqb_is o j e in simp e (subst (λ i. get_or (set xs o x) i d ≡ x) is (get_or-set_same xs o x d h)))
    (λ e. let turned = eqb_turned o j e in let ne : (j ≡ o → ⊥) = λ (s : j ≡ o). false≢true (sym turned ∙ subst (λ i. eqb j i ≡ true) s (eqb_itself j)) in
    simp e (get_or-set_other xs o j x d ne))

-- the links of all keys after one link was written
pub at_key_written : (f g : ℕ → List (Option ℕ)) (key : ℕ) (link : Option ℕ)
    → ((o : ℕ) → o < 128 → get_or (g (key / 128)) o None ≡ cond (eqb (key % 128) o) link (get_or (f (key / 128)) o None))
    → ((n : ℕ) → eqb (key / 128) n ≡ false → g n ≡ f n)
    → (k : ℕ) → get_or (g (k / 128)) (k % 128) None ≡ cond (eqb key k) link (get_or (f (k / 128)) (k % 128) None)
at_key_written f g key link here others k =
    by_test (eqb (key / 128) (k / 128))
    (λ e. let is : key / 128 ≡ k / 128 = eqb_is (key / 128) (k / 128) e in
    let small : k % 128 < 128 = omega arith in
    let same : eqb (key % 128) (k % 128) ≡ eqb key k = tests_agree key k is in
    subst (λ n. get_or (g n) (k % 128) None ≡ cond (eqb key k) link (get_or (f n) (k % 128) None)) is
    (here (k % 128) small ∙ ap (λ b. cond b link (get_or (f (key / 128)) (k % 128) None)) same))
    (λ e. let apart : eqb key k ≡ false = apart_keys key k e in
    ap (λ (xs : List (Option ℕ)). get_or xs (k % 128) None) (others (k / 128) e) ∙ ap (λ b. cond b link (get_or (f (k / 128)) (k % 128) None)) (sym apart))
  where
    tests_agree : (a b : ℕ) → a / 128 ≡ b / 128 → eqb (a % 128) (b % 128) ≡ eqb a b
    tests_agree a b h = grind (arith, nat_tests)

    apart_keys : (a b : ℕ) → eqb (a / 128) (b / 128) ≡ false → eqb a b ≡ false
    apart_keys a b h = by_test (eqb a b) (λ e. absurd (false≢true (sym h ∙ subst (λ m. eqb (a / 128) (m / 128) ≡ true) (eqb_is a b e) (eqb_itself (a / 128))))) (λ e. e)

one_is : (o : Option ℕ) → cond (is_some o) 1 0 ≡ one_if o
one_is None = refl
one_is (Some x) = refl

-- setting a link changes the count by the new and the old link
pub count_set : (xs : List (Option ℕ)) (o : ℕ) (link : Option ℕ) → o < length xs → count_by is_some (set xs o link) + one_if (get_or xs o None) ≡ count_by is_some xs + one_if link
count_set xs o link h =
    let s = sum_by-set (λ (x : Option ℕ). cond (is_some x) 1 0) xs o link None h in
    let a = one_is (get_or xs o None) in let b = one_is link in omega arith

-- there is no link if none is counted
pub none_counted : (xs : List (Option ℕ)) (o : ℕ) → count_by is_some xs ≡ 0 → get_or xs o None ≡ None
none_counted [] o h = refl
none_counted (Some x ∷ xs) o h = absurd (let s = sum_by-cons (λ (y : Option ℕ). cond (is_some y) 1 0) (Some x) xs in omega arith)
none_counted (None ∷ xs) zero h = refl
none_counted (None ∷ xs) (suc o) h = none_counted xs o (let s = sum_by-cons (λ (y : Option ℕ). cond (is_some y) 1 0) None xs in omega arith)
