-- Applying preserves the properties of a joiner's front.
use Rattle.std.proofs.Common.{◌≡◌, ◌≢◌, ℕ, ◌+◌, ◌-◌, ◌<◌, ◌≤◌, Bool, true, false, cond, List, [], ◌∷◌, Option, Some, None, is_some, slice_get, Result, refl, sym, ap, ◌∙◌, subst, arith, eqb, inl, inr}
use Rattle.std.specs.List.{AllByRecursion}
use Rattle.std.specs.FinMap as map
use Rattle.std.proofs.lemmas.Bool.Decides.{nat_tests}
use Rattle.std.proofs.lemmas.Bool.{cases_lt}
use Rattle.itch_codec.specs.Fields.{AreBytes}
use Rattle.itch_market.specs.Content.{laid}
use Rattle.itch_market.specs.GoodMarkets.{IsGood}
use Rattle.itch_market.specs.SameMarkets.{Same}
use Rattle.itch_market.proofs.GoodMarkets.{laid_good}
use Rattle.itch_market.proofs.SameMarkets.{laid_is_same, same_chain}
use Rattle.itch_join.specs.declared.state.Stopped.{Stopped}
use Rattle.itch_join.specs.Rules.{Rules, AreLawful, bad}
use Rattle.itch_join.specs.States.{Wait}
use Rattle.itch_join.specs.Applying.{Front, advanced, at_hand, EndsBy, Applies}
use Rattle.itch_join.proofs.Maps.{get-remove}
use Rattle.itch_join.proofs.Feeds.{market_at, market_next, bad_next, market_good, bytes_at}

-- a map after a key was removed
pub record IsLeft (w : Wait) (k i : ℕ) (p : List ℕ) : Type 0 where
  pub there : map.get w i ≡ Some p
  pub other : i ≢ k

pub left : (w : Wait) (k i : ℕ) (p : List ℕ) → map.get (map.remove w k) i ≡ Some p → IsLeft w k i p
left w k i p h = by_key (eqb i k) refl (sym (get-remove w k i) ∙ h) where
  by_key : (b : Bool) → eqb i k ≡ b → cond b None (map.get w i) ≡ Some p → IsLeft w k i p
  by_key true e none = absurd (cc)
  by_key false e there = record { there = there; other = grind (arith, nat_tests) }

pub stays : (w : Wait) (k i : ℕ) → i ≢ k → map.get (map.remove w k) i ≡ map.get w i
stays w k i other = let off : eqb i k ≡ false = grind (arith, nat_tests) in get-remove w k i ∙ ap (λ b. cond b None (map.get w i)) off

pub some_is : {A : Type 0} (o : Option A) → is_some o ≡ true → (x : A) × (o ≡ Some x)
some_is None h = absurd (cc)
some_is (Some x) h = (x, refl)

pub record Going (R : Rules) (feed : List (List ℕ)) (taken : ℕ → Bool) (first from : ℕ) (a : Front) : Type 0 where
  pub bytes : (i : ℕ) (p : List ℕ) → map.get a.wait i ≡ Some p → slice_get feed (i - 1) ≡ Some p
  pub low : (i : ℕ) (p : List ℕ) → map.get a.wait i ≡ Some p → a.next ≤ i
  pub was_taken : (i : ℕ) (p : List ℕ) → map.get a.wait i ≡ Some p → taken i ≡ true
  pub before : (i : ℕ) → first ≤ i → i < a.next → taken i ≡ true
  pub kept : (i : ℕ) → from ≤ i → taken i ≡ true → is_some (map.get a.wait i) ≡ true
  pub positive : 0 < first
  pub from_first : first ≤ a.next
  pub to_bad : a.next ≤ bad R feed
  pub good : IsGood a.market
  pub market : Same a.market (market_at R feed a.next)

module _ (R : Rules) (lawful : AreLawful R) (feed : List (List ℕ)) (bytes : AllByRecursion AreBytes feed) where
  -- one message is applied
  pub move : (taken : ℕ → Bool) (first from : ℕ) (a : Front) (p : List ℕ) → Going R feed taken first from a → from ≤ a.next + 1 → slice_get feed (a.next - 1) ≡ Some p
      → taken a.next ≡ true → R.refused a.market p ≡ None → Going R feed taken first (a.next + 1) (advanced R a p)
  move taken first from a p g near there was none =
      let some : 0 < a.next = omega (arith, g.positive, g.from_first) in
      let fine : IsGood (market_at R feed a.next) = market_good R lawful feed a.next bytes some g.to_bad in
      let none_too : R.refused (market_at R feed a.next) p ≡ None = sym (lawful.refused_same a.market (market_at R feed a.next) p g.good fine g.market) ∙ none in
      let are : AreBytes p = bytes_at feed (a.next - 1) p bytes there in
      let good_next : IsGood (R.effect a.market p) = lawful.effect_good a.market p g.good are none in
      record {
        bytes = λ i q h. g.bytes i q (left a.wait a.next i q h).there;
        low = λ i q h. let l = left a.wait a.next i q h in let k = g.low i q l.there in let o = l.other in omega arith;
        was_taken = λ i q h. g.was_taken i q (left a.wait a.next i q h).there;
        before = λ i after under. elim (cases_lt i a.next) [
          | inl less ↦ g.before i after less
          | inr not_less ↦ let same : a.next ≡ i = omega arith in subst (λ k. taken k ≡ true) same was
        ];
        kept = λ i after is. let other : i ≢ a.next = omega arith in ap is_some (stays a.wait a.next i other) ∙ g.kept i (omega arith) is;
        positive = g.positive;
        from_first = let k = g.from_first in omega arith;
        to_bad = bad_next R feed a.next p some g.to_bad there none_too;
        good = laid_good (R.effect a.market p) good_next;
        market =
            same_chain (laid (R.effect a.market p)) (R.effect a.market p) (market_at R feed (a.next + 1)) (laid_is_same (R.effect a.market p) good_next)
            (subst (Same (R.effect a.market p)) (sym (market_next R feed a.next p some there)) (lawful.effect_same a.market (market_at R feed a.next) p g.good fine are g.market none));
      }

  -- the end of applying
  pub record Ended (taken : ℕ → Bool) (first : ℕ) (ending : Result (Unit {0}) Stopped) (b : Front) : Type 0 where
    pub going : Going R feed taken first b.next b
    pub ends : EndsBy R b.market (at_hand b) ending

  -- all waiting messages are applied
  pub go_on : (taken : ℕ → Bool) (first : ℕ) (a b : Front) (ps : List (List ℕ)) (ending : Result (Unit {0}) Stopped) → Going R feed taken first a.next a
      → Applies R a (at_hand a) ps ending b → Ended taken first ending b
  go_on taken first a b [] ending g (ends, is) =
      subst (λ (f : Front). Ended taken first ending f) (sym is) (record { going = g; ends = ends })
  go_on taken first a b (p ∷ ps) ending g (there, none, rest) =
      go_on taken first (advanced R a p) b ps ending
      (move taken first a.next a p g (omega arith) (g.bytes a.next p there) (g.was_taken a.next p there) none) rest
