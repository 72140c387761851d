-- The rules of every market are lawful.
use Rattle.std.proofs.Common.{◌≡◌, Bool, List, ℕ, Option, Some, None, refl, sym, ap, ◌∙◌, subst}
use Rattle.std.specs.Option.{option_map}
use Rattle.itch_codec.specs.declared.fault.CodecFault.{CodecFault}
use Rattle.itch_codec.specs.Fields.{AreBytes}
use Rattle.itch_codec.specs.Messages.{fault, message_of}
use Rattle.itch_codec.specs.Widths.{IsMessage}
use Rattle.itch_codec.proofs.Spelling.{IsMessage-Spells, Spells-message_of}
use Rattle.itch_market.specs.declared.refusal.Refusal.{Refusal}
use Rattle.itch_market.specs.Content.{Content}
use Rattle.itch_market.specs.Reasons.{reason}
use Rattle.itch_market.proofs.GoodMarkets.{effect_good}
use Rattle.itch_market.proofs.SameMarkets.{reason_same, effect_same}
use Rattle.itch_join.specs.declared.fault.Cause.TheVariants as cause
use Rattle.itch_book.proofs.Lists.{by_test}
use Rattle.itch_market.specs.GoodMarkets.{IsGood}
use Rattle.itch_market.specs.SameMarkets.{Same}
use Rattle.itch_snapshot.specs.TakenMessages.{is_skipped}
use Rattle.itch_join.specs.Rules.{Rules, refused_by, market_rules, rules_of, AreLawful}
use Rattle.itch_join.proofs.SkippedMessages.{refused_here, effect_here, refused_skipped, effect_skipped}

pub faultless : (m : Content) (p : List ℕ) (f : Option CodecFault) → refused_by f m p ≡ None → f ≡ None
faultless m p None h = refl
faultless m p (Some f) h = cc

no_rule : (r : Option Refusal) → option_map cause.Rule r ≡ None → r ≡ None
no_rule None h = refl
no_rule (Some r) h = cc

pub reasonless : (m : Content) (p : List ℕ) (f : Option CodecFault) → refused_by f m p ≡ None → reason m (message_of p) ≡ None
reasonless m p None h = no_rule (reason m (message_of p)) h
reasonless m p (Some f) h = cc

fits : (m : Content) (p : List ℕ) → AreBytes p → refused_by (fault p) m p ≡ None → IsMessage (message_of p)
fits m p bytes h = IsMessage-Spells (message_of p) p bytes (Spells-message_of p (faultless m p (fault p) h))

same_reason : (m n : Content) (p : List ℕ) (f : Option CodecFault) → reason m (message_of p) ≡ reason n (message_of p) → refused_by f m p ≡ refused_by f n p
same_reason m n p None h = ap (option_map cause.Rule) h
same_reason m n p (Some f) h = refl

pub market_lawful : AreLawful market_rules
market_lawful = record {
  refused_same = λ m n p good fine same. same_reason m n p (fault p) (reason_same m n (message_of p) good fine same);
  effect_same = λ m n p good fine bytes same none. effect_same m n (message_of p) good fine (fits m p bytes none) (reasonless m p (fault p) none) same;
  effect_good = λ m p good bytes none. effect_good m (message_of p) good (fits m p bytes none) (reasonless m p (fault p) none);
}

-- so are the rules in which only some locates are wanted
module _ (wanted : ℕ → Bool) where
  abbrev R : Rules
  R = rules_of wanted

  refused_alike : (m n : Content) (p : List ℕ) → IsGood m → IsGood n → Same m n → R.refused m p ≡ R.refused n p
  refused_alike m n p good fine same =
      by_test (is_skipped wanted p)
      (λ skip. refused_skipped wanted m p skip ∙ sym (refused_skipped wanted n p skip))
      (λ stays. refused_here wanted m p stays ∙ market_lawful.refused_same m n p good fine same ∙ sym (refused_here wanted n p stays))

  effect_alike : (m n : Content) (p : List ℕ) → IsGood m → IsGood n → AreBytes p → Same m n → R.refused m p ≡ None → Same (R.effect m p) (R.effect n p)
  effect_alike m n p good fine bytes same none =
      by_test (is_skipped wanted p)
      (λ skip. subst (λ k. Same k (R.effect n p)) (sym (effect_skipped wanted m p skip)) (subst (Same m) (sym (effect_skipped wanted n p skip)) same))
      (λ stays.
      subst (λ k. Same k (R.effect n p)) (sym (effect_here wanted m p stays))
      (subst (Same (market_rules.effect m p)) (sym (effect_here wanted n p stays))
      (market_lawful.effect_same m n p good fine bytes same (sym (refused_here wanted m p stays) ∙ none))))

  stays_good : (m : Content) (p : List ℕ) → IsGood m → AreBytes p → R.refused m p ≡ None → IsGood (R.effect m p)
  stays_good m p good bytes none =
      by_test (is_skipped wanted p)
      (λ skip. subst IsGood (sym (effect_skipped wanted m p skip)) good)
      (λ stays. subst IsGood (sym (effect_here wanted m p stays)) (market_lawful.effect_good m p good bytes (sym (refused_here wanted m p stays) ∙ none)))

  pub only_lawful : AreLawful (rules_of wanted)
  only_lawful = record { refused_same = refused_alike; effect_same = effect_alike; effect_good = stays_good }
