-- A sum in which each number of a list counts once.
use Rattle.std.proofs.Common.{◌≡◌, ℕ, ◌+◌, ◌≤◌, ◌||◌, ◌==◌, Bool, true, false, if◌then◌else◌, List, [], ◌∷◌, map, Option, None, Some, refl, sym, ap, ◌∙◌, arith}
use Rattle.std.proofs.lemmas.Bool.{eqb-true}
use Rattle.itch_live.specs.SnapshotClients.{is_at}

pub is_at_true : (number : ℕ) → is_at (Some number) number ≡ true
is_at_true number = grind arith

pub at_number : (o : Option ℕ) (number : ℕ) → is_at o number ≡ true → o ≡ Some number
at_number None number h = absurd (cc)
at_number (Some next) number h = ap Some (eqb-true next number h)

or_true : (b : Bool) → (b || true) ≡ true
or_true true = refl
or_true false = refl

unequal : (m n : ℕ) → (m ≡ n → ⊥) → (m == n) ≡ false
unequal m n apart = by_test (m == n) refl where
  by_test : (b : Bool) → (m == n) ≡ b → (m == n) ≡ false
  by_test true h = absurd (apart (eqb-true m n h))
  by_test false h = h

-- a number is among these
abbrev pub is_in : List (Option ℕ) → ℕ → Bool
is_in [] n = false
is_in (o ∷ os) n = is_at o n || is_in os n

pub in_rest : (o : Option ℕ) (os : List (Option ℕ)) (n : ℕ) → is_in os n ≡ true → is_in (o ∷ os) n ≡ true
in_rest o os n there = ap (λ b. is_at o n || b) there ∙ or_true (is_at o n)

pub in_first : (n : ℕ) (os : List (Option ℕ)) → is_in (Some n ∷ os) n ≡ true
in_first n os = ap (λ b. b || is_in os n) (is_at_true n)

-- the share of a number before these: nothing, if it is among them
abbrev pub own : (ℕ → ℕ) → Option ℕ → List (Option ℕ) → ℕ
own f None os = 0
own f (Some n) os = if is_in os n then 0 else f n

-- each number counts once
abbrev pub total : (ℕ → ℕ) → List (Option ℕ) → ℕ
total f [] = 0
total f (o ∷ os) = own f o os + total f os

-- only the numbers in the list matter
pub total_same : (f g : ℕ → ℕ) (os : List (Option ℕ)) → ((n : ℕ) → is_in os n ≡ true → f n ≡ g n) → total f os ≡ total g os
total_same f g [] all = refl
total_same f g (None ∷ os) all = let rest = total_same f g os all in omega (arith, rest)
total_same f g (Some n ∷ os) all =
    let rest = total_same f g os (λ m there. all m (in_rest (Some n) os m there)) in
    let first : own f (Some n) os ≡ own g (Some n) os = ap (λ v. if is_in os n then 0 else v) (all n (in_first n os)) in
    omega (arith, rest, first)

-- without one number --------------------------------------------------------

abbrev pub without : ℕ → Option ℕ → Option ℕ
without n o = if is_at o n then None else o

pub without_itself : (n : ℕ) → without n (Some n) ≡ None
without_itself n = ap (λ b. if b then None else Some n) (is_at_true n)

-- the others are still in the list
other_in : (n m : ℕ) (os : List (Option ℕ)) → (m ≡ n → ⊥) → is_in (map (without n) os) m ≡ is_in os m
other_in n m [] apart = refl
other_in n m (None ∷ os) apart = other_in n m os apart
other_in n m (Some k ∷ os) apart = by_test (k == n) refl (other_in n m os apart) where
  by_test : (b : Bool) → (k == n) ≡ b → is_in (map (without n) os) m ≡ is_in os m
      → (is_at (if b then None else Some k) m || is_in (map (without n) os) m) ≡ (is_at (Some k) m || is_in os m)
  by_test true same rest = rest ∙ ap (λ b. b || is_in os m) (sym (unequal k m (λ h. apart (sym h ∙ eqb-true k n same))))
  by_test false other rest = ap (λ b. is_at (Some k) m || b) rest

-- the total is the total of the others, plus the share of this number if it is in the list
pub split : (f : ℕ → ℕ) (n : ℕ) (os : List (Option ℕ)) → total f os ≡ total f (map (without n) os) + (if is_in os n then f n else 0)
split f n [] = omega arith
split f n (None ∷ os) = let rest = split f n os in omega (arith, rest)
split f n (Some k ∷ os) = by_test (k == n) refl (split f n os) where
  once : (b : Bool) → (if b then 0 else f n) + (if b then f n else 0) ≡ f n
  once true = omega arith
  once false = omega arith

  by_test : (b : Bool) → (k == n) ≡ b → total f os ≡ total f (map (without n) os) + (if is_in os n then f n else 0)
      → own f (Some k) os + total f os ≡ own f (if b then None else Some k) (map (without n) os) + total f (map (without n) os) + (if b || is_in os n then f n else 0)
  by_test true same rest =
      let first : own f (Some k) os ≡ own f (Some n) os = ap (λ j. own f (Some j) os) (eqb-true k n same) in
      let one = once (is_in os n) in
      omega (arith, first, rest, one)
  by_test false other rest =
      let first : own f (Some k) (map (without n) os) ≡ own f (Some k) os = ap (λ b. if b then 0 else f k) (other_in n k os (λ h. apart h)) in
      omega (arith, first, rest) where
        apart : k ≡ n → ⊥
        apart h = never (sym (ap (λ j. is_at (Some j) n) h ∙ is_at_true n) ∙ other) where
          never : true ≡ false → ⊥
          never e = cc

at_most : (b : Bool) (v : ℕ) → (if b then v else 0) ≤ v
at_most true v = omega arith
at_most false v = omega arith

-- if the others are the same, the total grows by at most the share of this number
pub one_more : (f : ℕ → ℕ) (n : ℕ) (old new : List (Option ℕ)) → map (without n) new ≡ map (without n) old → total f new ≤ total f old + f n
one_more f n old new same =
    let before = split f n old in
    let after = split f n new in
    let others = ap (total f) same in
    let most = at_most (is_in new n) (f n) in
    omega (arith, before, after, others, most)

-- and it does not grow if the number was in the list
pub none_more : (f : ℕ → ℕ) (n : ℕ) (old new : List (Option ℕ)) → map (without n) new ≡ map (without n) old → is_in old n ≡ true → total f new ≤ total f old
none_more f n old new same there =
    let before = split f n old ∙ ap (λ b. total f (map (without n) old) + (if b then f n else 0)) there in
    let after = split f n new in
    let others = ap (total f) same in
    let most = at_most (is_in new n) (f n) in
    omega (arith, before, after, others, most)
