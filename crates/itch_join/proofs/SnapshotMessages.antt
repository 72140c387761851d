-- A message of a snapshot, as its reader takes it, and as a joiner does.
use Rattle.std.proofs.Common.{◌≡◌, ◌≢◌, ℕ, ◌+◌, ◌-◌, ◌^◌, ◌==◌, Bool, true, false, cond, List, Option, Some, None, is_some, Result, Ok, Err, refl, sym, ap, ◌∙◌, subst}
use Rattle.std.specs.Option.{option_map}
use Rattle.itch_codec.specs.Messages.{fault, message_of}
use Rattle.itch_market.specs.declared.refusal.Refusal.{Refusal}
use Rattle.itch_market.specs.declared.refusal.Refusal.TheVariants.{UnknownLocate, StockMismatch, ZeroShares, DuplicateRef, UnknownRef, LocateMismatch, TooManyShares, UnexpectedEnd, OutOfMemory}
use Rattle.itch_market.specs.Content.{Content, laid}
use Rattle.itch_market.specs.Reasons.{reason}
use Rattle.itch_market.specs.Effects as market
use Rattle.itch_market.specs.Replays.{IsRefusal}
use Rattle.itch_market.proofs.Causes.{no_fault, no_reason}
use Rattle.itch_market.proofs.RuleReasons.{reason_is_rule}
use Rattle.itch_snapshot.proofs.FileLemmas.{unrefused_number}
use Rattle.itch_snapshot.specs.declared.fault.SnapFault.{SnapFault}
use Rattle.itch_snapshot.specs.declared.fault.SnapFault.TheVariants.{NoEnd, Frame, Codec, Rule, AfterEnd, TooManyMessages}
use Rattle.itch_snapshot.specs.declared.reader.SnapshotStage.{SnapshotStage}
use Rattle.itch_snapshot.specs.declared.reader.SnapshotStage.TheVariants as stage
use Rattle.itch_book.proofs.Lists.{by_test}
use Rattle.itch_snapshot.specs.TakenMessages.{Load, LoadsOnly, TakesAtOnly, TakesNextOnly, AppliesUnless, closing_number, number_by, is_full, is_skipped}
use Rattle.itch_snapshot.specs.TakenMessages as loads
use Rattle.itch_join.specs.declared.fault.Cause.{Cause}
use Rattle.itch_join.specs.declared.fault.Cause.TheVariants as cause
use Rattle.itch_join.specs.declared.fault.JoinFault.{JoinFault}
use Rattle.itch_join.specs.declared.fault.JoinFault.TheVariants as join
use Rattle.itch_join.specs.declared.outcome.Snap.{Snap}
use Rattle.itch_join.specs.declared.outcome.Snap.TheVariants as snap
use Rattle.itch_join.specs.Positions.{Position}
use Rattle.itch_join.specs.Rules.{Rules, refused_by, rules_of}
use Rattle.itch_snapshot.proofs.SkippedMessages.{faulty_stays, skipped_number}
use Rattle.itch_join.proofs.SkippedMessages.{refused_here, effect_here, memory_here, refused_skipped, effect_skipped}
use Rattle.itch_join.specs.States.{HalfRead, Reading, Broken, State}
use Rattle.itch_join.specs.Steps.{SnapshotCase, SnapTakes, SnapFails, SnapBroken, payload_case, half_case, unjoined_case, unhalted_case, snapshot_case, SnapshotBy}
use Rattle.itch_join.specs.HalfReads.{Breaks, broken_by, join_fault_of, half_at, half_of, IsOpenAt, IsOpen}

-- positions and states -------------------------------------------------------

room : (taken : ℕ) (l k : SnapshotCase) → is_full taken ≡ false → cond (taken == 10 ^ 19 - 1) l k ≡ k
room taken l k free = ap (λ b. cond b l k) free

full : (taken : ℕ) (l k : SnapshotCase) → is_full taken ≡ true → cond (taken == 10 ^ 19 - 1) l k ≡ l
full taken l k is = ap (λ b. cond b l k) is

reading : (l k : ℕ) (m n : Content) → l ≡ k → m ≡ n → Reading l m ≡ Reading k n
reading l k m n one two = λ i. Reading (one i) (two i)

half_there : (s : State) (h k : HalfRead) → h ≡ k → ◌≡◌ {A = State} (record s { half = h }) (record s { half = k })
half_there s h k e = ap (λ (x : HalfRead). let t : State = record s { half = x } in t) e

at_stage : (old new : Load) (st : SnapshotStage) → new.stage ≡ st → half_of new ≡ half_at st new
at_stage old new st is = ap (λ t. half_at t new) is

-- the reason of a rule is returned, and breaks the snapshot
record IsReported (place : ℕ) (why : Refusal) : Type 0 where
  answer : join_fault_of (Rule place why) ≡ join.BadSnapshot place (cause.Rule why)
  stage : loads.broken_by (Rule place why) ≡ stage.Broken (Rule place why)

reported : (place : ℕ) (why : Refusal) → why ≢ OutOfMemory → IsReported place why
reported place UnknownLocate other = record { answer = refl; stage = refl }
reported place StockMismatch other = record { answer = refl; stage = refl }
reported place ZeroShares other = record { answer = refl; stage = refl }
reported place DuplicateRef other = record { answer = refl; stage = refl }
reported place UnknownRef other = record { answer = refl; stage = refl }
reported place LocateMismatch other = record { answer = refl; stage = refl }
reported place (TooManyShares remain) other = record { answer = refl; stage = refl }
reported place UnexpectedEnd other = record { answer = refl; stage = refl }
reported place OutOfMemory other = absurd (other refl)

-- the case of a message -----------------------------------------------------

module _ (wanted : ℕ → Bool) where
  abbrev R : Rules
  R = rules_of wanted

  pub case_here : (s : State) (taken : ℕ) (m : Content) (p : List ℕ) (number : Option ℕ) (refused : Option Cause) → s.halt ≡ None → is_some s.joined ≡ false → s.half ≡ Reading taken m
      → closing_number p ≡ number → R.refused m p ≡ refused → snapshot_case R s p ≡ payload_case taken m number refused
  case_here s taken m p number refused none apart half says refuses =
      ap (λ o. unhalted_case o (unjoined_case s.joined (half_case R s.half p))) none
      ∙ by_joined s.joined apart
      ∙ ap (λ h. half_case R h p) half
      ∙ ap (λ n. payload_case taken m n (R.refused m p)) says
      ∙ ap (payload_case taken m number) refuses
    where
      by_joined : (o : Option Position) → is_some o ≡ false → unjoined_case o (half_case R s.half p) ≡ half_case R s.half p
      by_joined None e = refl
      by_joined (Some j) e = cc

  case_broken : (s : State) (place : ℕ) (why : Cause) (p : List ℕ) → s.halt ≡ None → is_some s.joined ≡ false → s.half ≡ Broken place why → snapshot_case R s p ≡ SnapBroken place why
  case_broken s place why p none apart half =
      ap (λ o. unhalted_case o (unjoined_case s.joined (half_case R s.half p))) none
      ∙ by_joined s.joined apart
      ∙ ap (λ h. half_case R h p) half
    where
      by_joined : (o : Option Position) → is_some o ≡ false → unjoined_case o (half_case R s.half p) ≡ half_case R s.half p
      by_joined None e = refl
      by_joined (Some j) e = cc

  at_case : (s : State) (p : List ℕ) (l : SnapshotCase) (answer : Result Snap JoinFault) (now : State) → snapshot_case R s p ≡ l → SnapshotBy R s p l answer now → SnapshotBy R s p (snapshot_case R s p) answer now
  at_case s p l answer now kind h = subst (λ k. SnapshotBy R s p k answer now) (sym kind) h

  -- a message that was taken
  took_at : (st : SnapshotStage) (s : State) (old new : Load) (p : List ℕ) → s.halt ≡ None → is_some s.joined ≡ false → s.half ≡ half_at st old → laid old.market ≡ old.market → TakesAtOnly wanted st old p (Ok None) new
      → SnapshotBy R s p (snapshot_case R s p) (Ok snap.More) (record s { half = half_of new })
  took_at stage.Taking s old new p none apart half in_order ((free, acts), counted, goes) =
      by_test (is_skipped wanted p)
      (λ skip.
      taken_so (skipped_number wanted p skip) (refused_skipped wanted m p skip)
      (subst (λ b. AppliesUnless b m p new.market) skip acts ∙ sym in_order ∙ ap laid (sym (effect_skipped wanted m p skip))))
      (λ stays.
      let (clean, fits, left) = subst (λ b. AppliesUnless b m p new.market) stays acts in
      let faultless = no_fault m p clean in
      taken_so
      (ap (λ f. number_by f p) faultless ∙ unrefused_number m (message_of p) (no_reason m p clean))
      (refused_here wanted m p stays ∙ ap (λ f. refused_by f m p) faultless ∙ ap (option_map cause.Rule) (no_reason m p clean))
      (left ∙ ap laid (sym (effect_here wanted m p stays))))
    where
      m : Content
      m = old.market

      taken_so : closing_number p ≡ None → R.refused old.market p ≡ None → new.market ≡ laid (R.effect old.market p)
          → SnapshotBy R s p (snapshot_case R s p) (Ok snap.More) (record s { half = half_of new })
      taken_so says refuses left =
          at_case s p (SnapTakes old.taken old.market) (Ok snap.More) _
          (case_here s old.taken old.market p None None none apart half says refuses ∙ room old.taken _ _ free)
          (refl, half_there s (half_of new) (Reading (old.taken + 1) (laid (R.effect old.market p))) (at_stage old new stage.Taking goes ∙ reading _ _ _ _ counted left))
  took_at (stage.Broken fault) s old new p none apart half in_order (answer, same) = absurd (let e = answer in cc)
  took_at (stage.Closed next) s old new p none apart half in_order (answer, same) = absurd (let e = answer in cc)

  pub took : (s : State) (old new : Load) (p : List ℕ) → s.halt ≡ None → is_some s.joined ≡ false → s.half ≡ half_of old → laid old.market ≡ old.market → LoadsOnly wanted old p (Ok None) new
      → SnapshotBy R s p (snapshot_case R s p) (Ok snap.More) (record s { half = half_of new })
  took s old new p none apart half in_order h = took_at old.stage s old new p none apart half in_order h

  -- a message that was not taken ------------------------------------------------

  fails_case : (s : State) (p : List ℕ) (place : ℕ) (why : Cause) (l : ℕ) (answer : JoinFault) (h : HalfRead) → snapshot_case R s p ≡ SnapFails l why → place ≡ l → answer ≡ join.BadSnapshot place why → h ≡ Broken place why
      → SnapshotBy R s p (snapshot_case R s p) (Err answer) (record s { half = h })
  fails_case s p place why l answer h kind here is half =
      at_case s p (SnapFails l why) (Err answer) _ kind
      (ap Err (is ∙ ap (λ n. join.BadSnapshot n why) here), half_there s h (Broken l why) (half ∙ ap (λ n. Broken n why) here))

  failed_taking : (f : SnapFault) (s : State) (old new : Load) (p : List ℕ) → s.halt ≡ None → is_some s.joined ≡ false → s.half ≡ Reading old.taken old.market
      → TakesNextOnly wanted old.taken old.market p (Err f) new.market → new.taken ≡ old.taken → new.stage ≡ loads.broken_by f
      → SnapshotBy R s p (snapshot_case R s p) (Err (join_fault_of f)) (record s { half = half_of new })
  failed_taking (Codec place f) s old new p none apart half (free, here, (same, is)) counted goes =
      fails_case s p place (cause.Codec f) (old.taken + 1) _ (half_of new)
      (case_here s old.taken old.market p None (Some (cause.Codec f)) none apart half (ap (λ o. number_by o p) is) (refused_here wanted old.market p (faulty_stays wanted p f is) ∙ ap (λ o. refused_by o old.market p) is) ∙ room old.taken _ _ free)
      here refl (at_stage old new (stage.Broken (Codec place f)) goes)
  failed_taking (Rule place why) s old new p none apart half (stays, (free, here, says, (same, (clean, refusal)))) counted goes =
      by_reason (reason m (message_of p)) refl refusal
    where
      m : Content
      m = old.market

      by_reason : (r : Option Refusal) → reason old.market (message_of p) ≡ r → IsRefusal r (market.takes_memory old.market (message_of p)) why
          → SnapshotBy R s p (snapshot_case R s p) (Err (join_fault_of (Rule place why))) (record s { half = half_of new })
      by_reason None is (memory, takes) =
          at_case s p (SnapTakes old.taken old.market) _ _
          (case_here s old.taken old.market p None None none apart half says (refused_here wanted old.market p stays ∙ ap (λ o. refused_by o old.market p) clean ∙ ap (option_map cause.Rule) is) ∙ room old.taken _ _ free) (
            ap (λ w. join_fault_of (Rule place w)) memory,
            memory_here wanted old.market p stays ∙ takes,
            half_there s (half_of new) s.half
                (at_stage old new stage.Taking (goes ∙ ap (λ w. loads.broken_by (Rule place w)) memory) ∙ reading _ _ _ _ counted same ∙ sym half),
          )
      by_reason (Some r) is reason_is =
          let other : why ≢ OutOfMemory = λ e. reason_is_rule old.market (message_of p) (is ∙ ap Some (sym reason_is ∙ e)) in
          let t = reported place why other in
          fails_case s p place (cause.Rule why) (old.taken + 1) _ (half_of new)
          (case_here s old.taken old.market p None (Some (cause.Rule why)) none apart half says
          (refused_here wanted old.market p stays ∙ ap (λ o. refused_by o old.market p) clean ∙ ap (option_map cause.Rule) (is ∙ ap Some (sym reason_is))) ∙ room old.taken _ _ free)
          here t.answer (at_stage old new (stage.Broken (Rule place why)) (goes ∙ t.stage))
  failed_taking TooManyMessages s old new p none apart half (many, says, same) counted goes =
      fails_case s p (10 ^ 19) cause.TooMany (10 ^ 19) _ (half_of new)
      (case_here s old.taken old.market p None _ none apart half says refl ∙ full old.taken _ _ many)
      refl refl (at_stage old new (stage.Broken TooManyMessages) goes)
  failed_taking NoEnd s old new p none apart half h counted goes = absurd h
  failed_taking (Frame f) s old new p none apart half h counted goes = absurd h
  failed_taking AfterEnd s old new p none apart half h counted goes = absurd h

  broken_case : (s : State) (p : List ℕ) (place : ℕ) (why : Cause) (answer : JoinFault) (h : HalfRead) → s.halt ≡ None → is_some s.joined ≡ false → s.half ≡ Broken place why → answer ≡ join.BadSnapshot place why → h ≡ s.half
      → SnapshotBy R s p (snapshot_case R s p) (Err answer) (record s { half = h })
  broken_case s p place why answer h none apart half is same =
      at_case s p (SnapBroken place why) (Err answer) _ (case_broken s place why p none apart half) (ap Err is, half_there s h s.half same)

  failed_broken : (f : SnapFault) (s : State) (p : List ℕ) (h : HalfRead) → Breaks f → s.halt ≡ None → is_some s.joined ≡ false → s.half ≡ broken_by f → h ≡ s.half
      → SnapshotBy R s p (snapshot_case R s p) (Err (join_fault_of f)) (record s { half = h })
  failed_broken (Codec place f) s p h breaks none apart half same = broken_case s p place (cause.Codec f) _ h none apart half refl same
  failed_broken (Rule place why) s p h breaks none apart half same = broken_case s p place (cause.Rule why) _ h none apart half (reported place why breaks).answer same
  failed_broken TooManyMessages s p h breaks none apart half same = broken_case s p (10 ^ 19) cause.TooMany _ h none apart half refl same
  failed_broken NoEnd s p h breaks none apart half same = absurd breaks
  failed_broken (Frame f) s p h breaks none apart half same = absurd breaks
  failed_broken AfterEnd s p h breaks none apart half same = absurd breaks

  failed_at : (st : SnapshotStage) (f : SnapFault) (s : State) (old new : Load) (p : List ℕ) → old.stage ≡ st → IsOpenAt st → s.halt ≡ None → is_some s.joined ≡ false → s.half ≡ half_at st old → TakesAtOnly wanted st old p (Err f) new
      → SnapshotBy R s p (snapshot_case R s p) (Err (join_fault_of f)) (record s { half = half_of new })
  failed_at stage.Taking f s old new p is opened none apart half (next, counted, goes) = failed_taking f s old new p none apart half next counted goes
  failed_at (stage.Broken broke) f s old new p is opened none apart half (answer, same) =
      let e : f ≡ broke = let a = answer in cc in
      subst (λ g. SnapshotBy R s p (snapshot_case R s p) (Err (join_fault_of g)) (record s { half = half_of new })) (sym e)
      (failed_broken broke s p (half_of new) opened none apart half (ap half_of same ∙ at_stage old old (stage.Broken broke) is ∙ sym half))
  failed_at (stage.Closed next) f s old new p is opened none apart half h = absurd opened

  pub failed : (f : SnapFault) (s : State) (old new : Load) (p : List ℕ) → IsOpen old → s.halt ≡ None → is_some s.joined ≡ false → s.half ≡ half_of old → LoadsOnly wanted old p (Err f) new
      → SnapshotBy R s p (snapshot_case R s p) (Err (join_fault_of f)) (record s { half = half_of new })
  failed f s old new p opened none apart half h = failed_at old.stage f s old new p refl opened none apart half h
