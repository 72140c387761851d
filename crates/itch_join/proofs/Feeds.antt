-- The markets after the messages of a feed, up to its first bad position.
use Rattle.std.proofs.Common.{◌≡◌, ℕ, zero, suc, ◌+◌, ◌-◌, ◌<◌, ◌≤◌, Bool, true, false, cond, List, [], ◌∷◌, take, Option, Some, None, is_some, slice_get, refl, ap, ◌∙◌, subst, arith}
use Rattle.std.specs.List.{AllByRecursion}
use Rattle.itch_codec.specs.Fields.{AreBytes}
use Rattle.itch_market.specs.Content.{Content, empty}
use Rattle.itch_market.specs.GoodMarkets.{IsGood}
use Rattle.itch_market.proofs.GoodMarkets.{empty_good}
use Rattle.itch_join.specs.declared.fault.Cause.{Cause}
use Rattle.itch_join.specs.Rules.{Rules, AreLawful, after, run, first_bad, bad}

module _ (R : Rules) where
  pub positive : (m : Content) (F : List (List ℕ)) → 1 ≤ first_bad R m F
  positive m [] = omega arith
  positive m (q ∷ F) = by_test (is_some (R.refused m q)) where
    by_test : (b : Bool) → 1 ≤ cond b 1 (first_bad R (R.effect m q) F + 1)
    by_test true = omega arith
    by_test false = omega arith

  -- the first message is not bad if a later one is the first bad one, or none is
  pub first_fine : (m : Content) (q : List ℕ) (F : List (List ℕ)) (k : ℕ) → suc k + 1 ≤ first_bad R m (q ∷ F) → (is_some (R.refused m q) ≡ false) × (k + 1 ≤ first_bad R (R.effect m q) F)
  first_fine m q F k low = by_test (is_some (R.refused m q)) low where
    by_test : (b : Bool) → suc k + 1 ≤ cond b 1 (first_bad R (R.effect m q) F + 1) → (b ≡ false) × (k + 1 ≤ first_bad R (R.effect m q) F)
    by_test true h = absurd (omega arith)
    by_test false h = (refl, omega arith)

  pub none_there : (o : Option Cause) → is_some o ≡ false → o ≡ None
  none_there None h = refl
  none_there (Some c) h = cc

  after_next : (m : Content) (F : List (List ℕ)) (k : ℕ) (p : List ℕ) → slice_get F k ≡ Some p → after R m (take (suc k) F) ≡ R.effect (after R m (take k F)) p
  after_next m [] k p there = absurd (cc)
  after_next m (q ∷ F) zero p there = ap (R.effect m) (let e = there in cc)
  after_next m (q ∷ F) (suc k) p there = after_next (R.effect m q) F k p there

  more : (m : Content) (F : List (List ℕ)) (k : ℕ) (p : List ℕ) → k + 1 ≤ first_bad R m F → slice_get F k ≡ Some p → R.refused (after R m (take k F)) p ≡ None → k + 2 ≤ first_bad R m F
  more m [] k p low there none = absurd (cc)
  more m (q ∷ F) zero p low there none =
      let same : q ≡ p = let e = there in cc in
      let fine : is_some (R.refused m q) ≡ false = ap (λ x. is_some (R.refused m x)) same ∙ ap is_some none in
      let is : first_bad R m (q ∷ F) ≡ first_bad R (R.effect m q) F + 1 = ap (λ b. cond b 1 (first_bad R (R.effect m q) F + 1)) fine in
      omega (arith, positive (R.effect m q) F)
  more m (q ∷ F) (suc k) p low there none =
      let fine = first_fine m q F k low in
      let is : first_bad R m (q ∷ F) ≡ first_bad R (R.effect m q) F + 1 = ap (λ b. cond b 1 (first_bad R (R.effect m q) F + 1)) fine.0 in
      let rest = more (R.effect m q) F k p fine.1 there none in
      omega arith

  here : (m : Content) (F : List (List ℕ)) (k : ℕ) (p : List ℕ) (c : Cause) → k + 1 ≤ first_bad R m F → slice_get F k ≡ Some p → R.refused (after R m (take k F)) p ≡ Some c → k + 1 ≡ first_bad R m F
  here m [] k p c low there some = absurd (cc)
  here m (q ∷ F) zero p c low there some =
      let same : q ≡ p = let e = there in cc in
      let wrong : is_some (R.refused m q) ≡ true = ap (λ x. is_some (R.refused m x)) same ∙ ap is_some some in
      let is : first_bad R m (q ∷ F) ≡ 1 = ap (λ b. cond b 1 (first_bad R (R.effect m q) F + 1)) wrong in
      omega arith
  here m (q ∷ F) (suc k) p c low there some =
      let fine = first_fine m q F k low in
      let is : first_bad R m (q ∷ F) ≡ first_bad R (R.effect m q) F + 1 = ap (λ b. cond b 1 (first_bad R (R.effect m q) F + 1)) fine.0 in
      let rest = here (R.effect m q) F k p c fine.1 there some in
      omega arith

  pub good : AreLawful R → (m : Content) (F : List (List ℕ)) (k : ℕ) → IsGood m → AllByRecursion AreBytes F → k + 1 ≤ first_bad R m F → IsGood (after R m (take k F))
  good lawful m F zero is bytes low = is
  good lawful m [] (suc k) is bytes low = is
  good lawful m (q ∷ F) (suc k) is bytes low =
      let fine = first_fine m q F k low in
      good lawful (R.effect m q) F k (lawful.effect_good m q is bytes.0 (none_there (R.refused m q) fine.0)) bytes.1 fine.1

  -- the same for positions, from 1 on ----------------------------------------------

  -- the market before a position
  abbrev pub market_at : List (List ℕ) → ℕ → Content
  market_at F n = run R (take (n - 1) F)

  pub market_next : (F : List (List ℕ)) (n : ℕ) (p : List ℕ) → 0 < n → slice_get F (n - 1) ≡ Some p → market_at F (n + 1) ≡ R.effect (market_at F n) p
  market_next F n p some there = let e : (n + 1) - 1 ≡ suc (n - 1) = omega arith in ap (λ i. run R (take i F)) e ∙ after_next empty F (n - 1) p there

  pub bad_next : (F : List (List ℕ)) (n : ℕ) (p : List ℕ) → 0 < n → n ≤ bad R F → slice_get F (n - 1) ≡ Some p → R.refused (market_at F n) p ≡ None → n + 1 ≤ bad R F
  bad_next F n p some low there none = let h = more empty F (n - 1) p (omega arith) there none in omega arith

  pub bad_here : (F : List (List ℕ)) (n : ℕ) (p : List ℕ) (c : Cause) → 0 < n → n ≤ bad R F → slice_get F (n - 1) ≡ Some p → R.refused (market_at F n) p ≡ Some c → n ≡ bad R F
  bad_here F n p c some low there is = let h = here empty F (n - 1) p c (omega arith) there is in omega arith

  pub market_good : AreLawful R → (F : List (List ℕ)) (n : ℕ) → AllByRecursion AreBytes F → 0 < n → n ≤ bad R F → IsGood (market_at F n)
  market_good lawful F n bytes some low = good lawful empty F (n - 1) empty_good bytes (omega arith)

pub bytes_at : (F : List (List ℕ)) (k : ℕ) (p : List ℕ) → AllByRecursion AreBytes F → slice_get F k ≡ Some p → AreBytes p
bytes_at [] k p bytes there = absurd (cc)
bytes_at (q ∷ F) zero p bytes there = let same : q ≡ p = let e = there in cc in subst AreBytes same bytes.0
bytes_at (q ∷ F) (suc k) p bytes there = bytes_at F k p bytes.1 there
