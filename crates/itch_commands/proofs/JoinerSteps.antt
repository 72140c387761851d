-- The effect of one message on a joiner without waiting messages.
use Rattle.std.proofs.Common.{◌≡◌, ℕ, Bool, true, false, cond, List, Option, Some, None, Result, Ok, Err, refl, sym, ap, ◌∙◌, subst, inl, inr}
use Rattle.std.specs.Option.{option_map}
use Rattle.itch_codec.specs.declared.fault.CodecFault.{CodecFault}
use Rattle.itch_codec.specs.Fields.{AreBytes}
use Rattle.itch_book.proofs.Lists.{by_test}
use Rattle.itch_codec.specs.Messages.{fault, message_of}
use Rattle.itch_codec.proofs.Spelling.{IsMessage-Spells, Spells-message_of}
use Rattle.itch_market.specs.declared.refusal.Refusal.{Refusal}
use Rattle.itch_market.specs.declared.refusal.Refusal.TheVariants as why
use Rattle.itch_market.specs.declared.refused.Refused.TheVariants as refused
use Rattle.itch_market.specs.declared.stop.Stop.{Stop}
use Rattle.itch_market.specs.declared.stop.Stop.TheVariants as stop
use Rattle.itch_market.specs.Content.{Content, laid}
use Rattle.itch_market.specs.Effects.{effect, takes_memory}
use Rattle.itch_market.specs.Reasons.{reason}
use Rattle.itch_market.specs.Replays.{IsRefusal, Refuses, TakesOne}
use Rattle.itch_market.specs.Stops.{cause_by}
use Rattle.itch_snapshot.specs.TakenMessages.{is_skipped}
use Rattle.itch_join.specs.declared.fault.Cause.{Cause}
use Rattle.itch_join.specs.declared.fault.Cause.TheVariants as cause
use Rattle.itch_join.specs.Rules.{Rules, refused_by, market_rules, rules_of}
use Rattle.itch_join.proofs.LawfulRules.{faultless, reasonless}
use Rattle.itch_join.proofs.SkippedMessages.{refused_here, effect_here, memory_here, effect_skipped}
use Rattle.itch_join.specs.Takings.{IsRefusedFor}
use Rattle.itch_join.proofs.Takings.{stays}
use Rattle.itch_snapshot.specs.AsRead.{as_read}
use Rattle.itch_snapshot.proofs.AsRead.{idle_taken, read_skipped, read_stays}

-- the reason for a refusal, for a joiner and for a replay -------------------------

module _ (m : Content) (p : List ℕ) where
  no_rule : (r : Option Refusal) → option_map cause.Rule r ≡ None → option_map stop.Rule r ≡ None
  no_rule None h = refl
  no_rule (Some r) h = cc

  no_cause : (f : Option CodecFault) → refused_by f m p ≡ None → cause_by f m p ≡ None
  no_cause None h = no_rule (reason m (message_of p)) h
  no_cause (Some f) h = cc

  one_taken : AreBytes p → refused_by (fault p) m p ≡ None → TakesOne m p (Ok tt) (laid (effect m (message_of p)))
  one_taken bytes none = (no_cause (fault p) none, IsMessage-Spells (message_of p) p bytes (Spells-message_of p (faultless m p (fault p) none)), refl)

  is_fault : (f : Option CodecFault) (g : CodecFault) → refused_by f m p ≡ Some (cause.Codec g) → f ≡ Some g
  is_fault (Some f) g h = cc
  is_fault None g h = absurd (by_reason (reason m (message_of p)) h) where
    by_reason : (r : Option Refusal) → option_map cause.Rule r ≡ Some (cause.Codec g) → ⊥
    by_reason None h = cc
    by_reason (Some r) h = cc

  one_faulty : (g : CodecFault) → refused_by (fault p) m p ≡ Some (cause.Codec g) → TakesOne m p (Err (stop.Codec g)) m
  one_faulty g h = (refl, is_fault (fault p) g h)

  refusal_by : (f : Option CodecFault) (r : Refusal) → refused_by f m p ≡ Some (cause.Rule r)
      → (f ≡ None) × IsRefusal (reason m (message_of p)) (takes_memory m (message_of p)) r
  refusal_by (Some f) r h = absurd (let no_one : ⊥ = cc in no_one)
  refusal_by None r h = (refl, by_reason (reason m (message_of p)) h) where
    by_reason : (o : Option Refusal) → option_map cause.Rule o ≡ Some (cause.Rule r) → IsRefusal o (takes_memory m (message_of p)) r
    by_reason None h = absurd (let no_one : ⊥ = cc in no_one)
    by_reason (Some q) h = cc

  one_refused : (r : Refusal) → refused_by (fault p) m p ≡ Some (cause.Rule r) → TakesOne m p (Err (stop.Rule r)) m
  one_refused r h = let refusal = refusal_by (fault p) r h in (refl, refusal)

  one_unmade : refused_by (fault p) m p ≡ None → takes_memory m (message_of p) ≡ true → TakesOne m p (Err (stop.Rule why.OutOfMemory)) m
  one_unmade none memory = (
    refl,
    (
      faultless m p (fault p) none,
      subst (λ r. IsRefusal r (takes_memory m (message_of p)) why.OutOfMemory) (sym (reasonless m p (fault p) none))
          (refl, memory),
    ),
  )

none_there : (b : Bool) (o : Option (List ℕ)) → o ≡ None → cond b o None ≡ None
none_there true o none = none
none_there false o none = refl

-- the same for a joiner that is restricted to some locates -------------------------

module _ (wanted : ℕ → Bool) where
  abbrev R : Rules
  R = rules_of wanted

  module _ (m : Content) (p : List ℕ) where
    refused_as : (c : Cause) (result : Result (Unit {0}) Stop) → (refused_by (fault p) m p ≡ Some c → TakesOne m p result m) → R.refused m p ≡ Some c → TakesOne m (as_read wanted p) result m
    refused_as c result here some =
        let wants = stays wanted m p c some in
        subst (λ q. TakesOne m q result m) (sym (read_stays wanted p wants)) (here (sym (refused_here wanted m p wants) ∙ some))

    pub taken_as : AreBytes p → R.refused m p ≡ None → TakesOne m (as_read wanted p) (Ok tt) (laid (R.effect m p))
    taken_as bytes none =
        by_test (is_skipped wanted p)
        (λ skip.
        subst (λ q. TakesOne m q (Ok tt) (laid (R.effect m p))) (sym (read_skipped wanted p skip)) (idle_taken m (R.effect m p) (effect_skipped wanted m p skip)))
        (λ wants.
        subst (λ q. TakesOne m q (Ok tt) (laid (R.effect m p))) (sym (read_stays wanted p wants))
        (subst (λ n. TakesOne m p (Ok tt) (laid n)) (sym (effect_here wanted m p wants)) (one_taken m p bytes (sym (refused_here wanted m p wants) ∙ none))))

    unmade_as : R.refused m p ≡ None → R.takes_memory m p ≡ true → TakesOne m (as_read wanted p) (Err (stop.Rule why.OutOfMemory)) m
    unmade_as none memory =
        by_test (is_skipped wanted p)
        (λ skip. absurd (let no : false ≡ true = sym (ap (λ b. cond b false (market_rules.takes_memory m p)) skip) ∙ memory in let no_one : ⊥ = cc in no_one))
        (λ wants.
        subst (λ q. TakesOne m q (Err (stop.Rule why.OutOfMemory)) m) (sym (read_stays wanted p wants))
        (one_unmade m p (sym (refused_here wanted m p wants) ∙ none) (sym (memory_here wanted m p wants) ∙ memory)))

    pub faulty_as : (f : CodecFault) → R.refused m p ≡ Some (cause.Codec f) → fault (as_read wanted p) ≡ Some f
    faulty_as f some = (refused_as (cause.Codec f) (Err (stop.Codec f)) (one_faulty m p f) some).1

    pub denied_as : (r : Refusal) → IsRefusedFor (rules_of wanted) m p (refused.Rule r) → Refuses m (as_read wanted p) r
    denied_as r (inl some) = (refused_as (cause.Rule r) (Err (stop.Rule r)) (one_refused m p r) some).1
    denied_as r (inr (memory, none, takes)) = subst (Refuses m (as_read wanted p)) (sym memory) (unmade_as none takes).1
