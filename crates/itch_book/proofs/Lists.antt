-- Properties of all elements of a list, by recursion, and the elements that a filter keeps.
use Rattle.std.proofs.Common.{◌≡◌, ◌≤◌, Bool, true, false, List, [], ◌∷◌, ◌++◌, map, length, filter, find, Option, Some, None, IsSome, refl, ap, ◌∙◌, arith}
use Rattle.std.specs.List.{AllByRecursion}
use Rattle.std.proofs.lemmas.Bool.{cond_both}

-- a condition is true or false
pub by_test : {P : Type 0} (b : Bool) → (b ≡ true → P) → (b ≡ false → P) → P
by_test true when_true when_false = when_true refl
by_test false when_true when_false = when_false refl

pub All-append_rec : {X : Type 0} (P : X → Type 0) (xs ys : List X) → AllByRecursion P xs → AllByRecursion P ys → AllByRecursion P (xs ++ ys)
All-append_rec P [] ys h k = k
All-append_rec P (x ∷ xs) ys h k = (h.0, All-append_rec P xs ys h.1 k)

pub All-left_rec : {X : Type 0} (P : X → Type 0) (xs ys : List X) → AllByRecursion P (xs ++ ys) → AllByRecursion P xs
All-left_rec P [] ys h = tt
All-left_rec P (x ∷ xs) ys h = (h.0, All-left_rec P xs ys h.1)

pub All-right_rec : {X : Type 0} (P : X → Type 0) (xs ys : List X) → AllByRecursion P (xs ++ ys) → AllByRecursion P ys
All-right_rec P [] ys h = h
All-right_rec P (x ∷ xs) ys h = All-right_rec P xs ys h.1

pub All-filter_rec : {X : Type 0} (P : X → Type 0) (p : X → Bool) (xs : List X) → AllByRecursion P xs → AllByRecursion P (filter p xs)
All-filter_rec P p [] h = tt
All-filter_rec P p (x ∷ xs) h =
    cond_both (p x) (x ∷ filter p xs) (filter p xs) (AllByRecursion P) (λ e. (h.0, All-filter_rec P p xs h.1)) (λ e. All-filter_rec P p xs h.1)

pub All-map_rec : {X Y : Type 0} (P : Y → Type 0) (f : X → Y) (xs : List X) → AllByRecursion (λ x. P (f x)) xs → AllByRecursion P (map f xs)
All-map_rec P f [] h = tt
All-map_rec P f (x ∷ xs) h = (h.0, All-map_rec P f xs h.1)

pub All-weaker_rec : {X : Type 0} (P Q : X → Type 0) → ((x : X) → P x → Q x) → (xs : List X) → AllByRecursion P xs → AllByRecursion Q xs
All-weaker_rec P Q step [] h = tt
All-weaker_rec P Q step (x ∷ xs) h = (step x h.0, All-weaker_rec P Q step xs h.1)

pub All-both_rec : {X : Type 0} (P Q : X → Type 0) (xs : List X) → AllByRecursion P xs → AllByRecursion Q xs → AllByRecursion (λ x. P x × Q x) xs
All-both_rec P Q [] h k = tt
All-both_rec P Q (x ∷ xs) h k = ((h.0, k.0), All-both_rec P Q xs h.1 k.1)

-- the elements that a filter keeps meet its condition
pub passes_filter : {X : Type 0} (p : X → Bool) (xs : List X) → AllByRecursion (λ x. p x ≡ true) (filter p xs)
passes_filter p [] = tt
passes_filter p (x ∷ xs) =
    cond_both (p x) (x ∷ filter p xs) (filter p xs) (AllByRecursion (λ x. p x ≡ true)) (λ e. (e, passes_filter p xs)) (λ e. passes_filter p xs)

pub filter_none : {X : Type 0} (p : X → Bool) (xs : List X) → AllByRecursion (λ x. p x ≡ false) xs → filter p xs ≡ []
filter_none p [] h = refl
filter_none p (x ∷ xs) h = simp (h.0) (filter_none p xs h.1)

pub filter_all : {X : Type 0} (p : X → Bool) (xs : List X) → AllByRecursion (λ x. p x ≡ true) xs → filter p xs ≡ xs
filter_all p [] h = refl
filter_all p (x ∷ xs) h = simp (h.0) (ap (λ t. x ∷ t) (filter_all p xs h.1))

-- a filter after a weaker one
pub filter_within : {X : Type 0} (p q : X → Bool) → ((x : X) → p x ≡ true → q x ≡ true) → (xs : List X) → filter p (filter q xs) ≡ filter p xs
filter_within p q h [] = refl
filter_within p q h (x ∷ xs) =
    let rest = filter_within p q h xs in
    by_test (p x)
    (λ e. let f = h x e in simp (f, e) (ap (λ t. x ∷ t) rest))
    (λ e. by_test (q x) (λ f. simp (f, e) rest) (λ f. simp (f, e) rest))

pub filter_swap : {X : Type 0} (p q : X → Bool) (xs : List X) → filter p (filter q xs) ≡ filter q (filter p xs)
filter_swap p q [] = refl
filter_swap p q (x ∷ xs) =
    let rest = filter_swap p q xs in
    by_test (p x)
    (λ e. by_test (q x) (λ f. simp (e, f) (ap (λ t. x ∷ t) rest)) (λ f. simp (e, f) rest))
    (λ e. by_test (q x) (λ f. simp (e, f) rest) (λ f. simp (e, f) rest))

pub filter_twice : {X : Type 0} (p : X → Bool) (xs : List X) → filter p (filter p xs) ≡ filter p xs
filter_twice p xs = filter_all p (filter p xs) (passes_filter p xs)

-- a filter by a condition that a change does not affect
pub filter-map : {X Y : Type 0} (p : Y → Bool) (q : X → Bool) (f : X → Y) → ((x : X) → p (f x) ≡ q x) → (xs : List X) → filter p (map f xs) ≡ map f (filter q xs)
filter-map p q f h [] = refl
filter-map p q f h (x ∷ xs) =
    let rest = filter-map p q f h xs in
    by_test (q x) (λ e. let d = h x ∙ e in simp (d, e) (ap (λ t. f x ∷ t) rest)) (λ e. let d = h x ∙ e in simp (d, e) rest)

pub length_filter_le : {X : Type 0} (p : X → Bool) (xs : List X) → length (filter p xs) ≤ length xs
length_filter_le p [] = omega arith
length_filter_le p (x ∷ xs) =
    let rest = length_filter_le p xs in
    cond_both (p x) (x ∷ filter p xs) (filter p xs) (λ t. length t ≤ length (x ∷ xs)) (λ e. omega arith) (λ e. omega arith)

-- an element that is not in a list is not in a filtered list
pub absent_in_filter : {X : Type 0} (p q : X → Bool) (xs : List X) → find p xs ≡ None → find p (filter q xs) ≡ None
absent_in_filter p q [] h = refl
absent_in_filter p q (x ∷ xs) h =
    by_test (p x)
    (λ e. let some : Some x ≡ None = simp e at h in absurd (let no_one : ⊥ = cc in no_one))
    (λ e. let less : find p xs ≡ None = simp e at h in by_test (q x) (λ f. simp (f, e) (absent_in_filter p q xs less)) (λ f. simp f (absent_in_filter p q xs less)))

-- a match meets the condition
pub found_passes : {X : Type 0} (p : X → Bool) (xs : List X) (x : X) → find p xs ≡ Some x → p x ≡ true
found_passes p [] x h = absurd (let no_one : ⊥ = cc in no_one)
found_passes p (y ∷ ys) x h =
    by_test (p y)
    (λ e. let same : Some y ≡ Some x = simp e at h in let this : y ≡ x = cc in rw (← this) e)
    (λ e. let less : find p ys ≡ Some x = simp e at h in found_passes p ys x less)

pub All-found_rec : {X : Type 0} (P : X → Type 0) (p : X → Bool) (xs : List X) (x : X) → AllByRecursion P xs → find p xs ≡ Some x → P x
All-found_rec P p [] x all h = absurd (let no_one : ⊥ = cc in no_one)
All-found_rec P p (y ∷ ys) x all h =
    by_test (p y)
    (λ e. let same : Some y ≡ Some x = simp e at h in let this : y ≡ x = cc in rw (← this) (all.0))
    (λ e. let less : find p ys ≡ Some x = simp e at h in All-found_rec P p ys x all.1 less)

-- the value of a non-empty option
pub some_of : {X : Type 0} (o : Option X) → IsSome o → (x : X) × (o ≡ Some x)
some_of None h = absurd (let no_one : ⊥ = cc in no_one)
some_of (Some x) h = (x, refl)
