-- The first number with a value is unique, and exists if there is any number with a value.
use Rattle.std.proofs.Common.{◌≡◌, ℕ, ◌<◌, ◌⊎◌, zero, suc, Option, None, Some, refl, sym, ◌∙◌, subst, inl, inr, arith}
use Rattle.std.proofs.lemmas.Bool.{cases_lt}
use Rattle.itch_market.specs.FirstPlaces.{IsFirst}

module _ {A : Type 0} (f : ℕ → Option A) where
  not_before : (n k : ℕ) (x y : A) → IsFirst f n x → IsFirst f k y → n < k → ⊥
  not_before n k x y p q early = let clash : None ≡ Some x = sym (q.before n early) ∙ p.here in cc

  pub first_place : (n k : ℕ) (x y : A) → IsFirst f n x → IsFirst f k y → n ≡ k
  first_place n k x y p q =
      elim (cases_lt n k) [
        | inl early ↦ absurd (not_before n k x y p q early)
        | inr late ↦ elim (cases_lt k n) [
          | inl early ↦ absurd (not_before k n y x q p early)
          | inr late_too ↦ omega arith
        ]
      ]

  pub first_value : (n k : ℕ) (x y : A) → IsFirst f n x → IsFirst f k y → x ≡ y
  first_value n k x y p q =
      let same : Some x ≡ Some y = sym p.here ∙ subst (λ j. f n ≡ f j) (first_place n k x y p q) refl ∙ q.here in cc

  -- no number below n has a value, or there is a first one
  abbrev Searched : ℕ → Type 0
  Searched n = ((i : ℕ) → i < n → f i ≡ None) ⊎ ((k : ℕ) × (x : A) × IsFirst f k x)

  searched_on : (n : ℕ) (o : Option A) → f n ≡ o → Searched n → Searched (suc n)
  searched_on n o is (inr found) = inr found
  searched_on n (Some x) is (inl none) = inr (n, x, record { here = is; before = none })
  searched_on n None is (inl none) = inl (λ i within. elim (cases_lt i n) [
    | inl early ↦ none i early
    | inr late ↦ let here : n ≡ i = omega arith in subst (λ j. f j ≡ None) here is
  ])

  searched : (n : ℕ) → Searched n
  searched zero = inl (λ i within. absurd (omega arith))
  searched (suc n) = searched_on n (f n) refl (searched n)

  pub first_is_there : (n : ℕ) (x : A) → f n ≡ Some x → (k : ℕ) × (y : A) × IsFirst f k y
  first_is_there n x decided = elim (searched n) [
    | inl none ↦ (n, x, record { here = decided; before = none })
    | inr found ↦ found
  ]
