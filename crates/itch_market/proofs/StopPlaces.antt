-- The place where a replay of a day file stops: a payload, one payload beyond the maximum, or the end of all payloads.
use Rattle.std.proofs.Common.{◌≡◌, ℕ, ◌-◌, ◌^◌, ◌<◌, ◌≤◌, ◌⊎◌, nat_lt, min, List, length, None, Some, refl, sym, ◌∙◌, inl, inr, arith}
use Rattle.std.proofs.lemmas.Bool.{cases_lt}
use Rattle.std.proofs.lemmas.Bool.Decides.{nat_tests}
use Rattle.itch_market.specs.declared.stop.Stop.{Stop}
use Rattle.itch_market.specs.declared.stop.Stop.TheVariants.{TooManyMessages}
use Rattle.itch_market.specs.Content.{Content}
use Rattle.itch_market.specs.FirstPlaces.{IsFirst}
use Rattle.itch_market.specs.Stops.{cause_at, end_of, last_stop, stop_at}
use Rattle.itch_market.proofs.ReplayStops.{chosen, passed_over, stop_after, stop_before}

module _ (m : Content) (ps : List (List ℕ)) (rest : List ℕ) (k : ℕ) (why : Stop) (first : IsFirst (stop_at (10 ^ 19 - 1) m ps rest) k why) where
  not_later : min (10 ^ 19 - 1) (length ps) < k → ⊥
  not_later later =
      let clash : None ≡ Some (last_stop (10 ^ 19 - 1) ps rest) =
      sym (first.before (min (10 ^ 19 - 1) (length ps)) later) ∙ stop_after (10 ^ 19 - 1) m ps rest (min (10 ^ 19 - 1) (length ps)) refl in
      let no : ⊥ = cc in no

  -- it is not after the last one
  pub no_later : k ≤ min (10 ^ 19 - 1) (length ps)
  no_later = elim (cases_lt (min (10 ^ 19 - 1) (length ps)) k) [
    | inl later ↦ absurd (not_later later)
    | inr early ↦ early
  ]

  -- the payloads before it are taken
  pub none_before : (i : ℕ) → i < k → cause_at m ps i ≡ None
  none_before i early = let low = no_later in sym (stop_before (10 ^ 19 - 1) m ps rest i (omega arith)) ∙ first.before i early

  abbrev pub AtPayload : Type 0
  AtPayload = (k < length ps) × (k < 10 ^ 19 - 1) × (cause_at m ps k ≡ Some why)

  abbrev pub AtMost : Type 0
  AtMost = (k < length ps) × (k ≡ 10 ^ 19 - 1) × (why ≡ TooManyMessages)

  abbrev pub AtEnd : Type 0
  AtEnd = (k ≡ length ps) × (why ≡ end_of rest)

  at_last : k ≡ min (10 ^ 19 - 1) (length ps) → (10 ^ 19 - 1 < length ps) ⊎ (length ps ≤ 10 ^ 19 - 1) → AtPayload ⊎ (AtMost ⊎ AtEnd)
  at_last here many =
      let there : Some (last_stop (10 ^ 19 - 1) ps rest) ≡ Some why = sym (stop_after (10 ^ 19 - 1) m ps rest k here) ∙ first.here in
      let is : last_stop (10 ^ 19 - 1) ps rest ≡ why = cc in
      elim many [
        | inl more ↦ inr (inl (omega arith, omega arith, sym is ∙ chosen (nat_lt (10 ^ 19 - 1) (length ps)) TooManyMessages (end_of rest) (grind (arith, nat_tests))))
        | inr few ↦ inr (inr (omega arith, sym is ∙ passed_over (nat_lt (10 ^ 19 - 1) (length ps)) TooManyMessages (end_of rest) (grind (arith, nat_tests))))
      ]

  pub place : AtPayload ⊎ (AtMost ⊎ AtEnd)
  place = elim (cases_lt k (min (10 ^ 19 - 1) (length ps))) [
    | inl early ↦ inl (omega arith, omega arith, sym (stop_before (10 ^ 19 - 1) m ps rest k early) ∙ first.here)
    | inr late ↦ let low = no_later in at_last (omega arith) (cases_lt (10 ^ 19 - 1) (length ps))
  ]
