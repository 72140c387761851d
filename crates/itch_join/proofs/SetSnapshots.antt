-- A joiner that is restricted to a set may start from complete snapshots, and from those restricted to the set.
use Rattle.std.proofs.Common.{◌≡◌, ℕ, ◌+◌, ◌-◌, ◌^◌, ◌==◌, ◌<◌, ◌≤◌, Bool, true, false, cond, List, [], ◌∷◌, map, length, take, Option, Some, None, refl, sym, ap, ◌∙◌, subst, arith}
use Rattle.std.specs.List.{AllByRecursion}
use Rattle.std.proofs.lemmas.Bool.Decides.{nat_tests}
use Rattle.itch_codec.specs.declared.message.Message.{Message}
use Rattle.itch_codec.specs.declared.message.Message.TheVariants as is
use Rattle.itch_codec.specs.Fields.{AreBytes}
use Rattle.itch_codec.specs.Messages.{fault, message_of, spelling}
use Rattle.itch_codec.proofs.Spelling.{IsMessage-Spells, Spells-message_of}
use Rattle.itch_market.specs.Content.{Content, empty, laid}
use Rattle.itch_market.specs.GoodMarkets.{IsGood}
use Rattle.itch_market.specs.Reasons.{reason}
use Rattle.itch_market.specs.Effects.{effect}
use Rattle.itch_market.specs.Runs as runs
use Rattle.itch_market.specs.Runs.{AreMessages, FollowsFrom}
use Rattle.itch_market.specs.SameMarkets.{Same}
use Rattle.itch_market.specs.Partial.{kept, only}
use Rattle.itch_market.proofs.Partials.{kept_follows, kept_leaves, only_good}
use Rattle.itch_market.proofs.GoodMarkets.{effect_good, empty_good, laid_good, after_good}
use Rattle.itch_market.proofs.LaidMarkets.{reason-laid, effect-laid}
use Rattle.itch_market.proofs.SameMarkets.{laid_is_same, laid_same, same_back, same_chain}
use Rattle.itch_snapshot.specs.Snapshot.{snap}
use Rattle.itch_snapshot.specs.TakenMessages.{closing_number}
use Rattle.itch_snapshot.proofs.PartialSnapshots.{snap_only}
use Rattle.itch_snapshot.proofs.OneSnapshot.{snap_same, same_snap}
use Rattle.itch_snapshot.proofs.Sizes.{short_snap}
use Rattle.itch_join.specs.declared.fault.Cause.{Cause}
use Rattle.itch_join.specs.declared.fault.Cause.TheVariants as cause
use Rattle.itch_join.specs.Rules.{Rules, run, bad, market_rules, rules_of}
use Rattle.itch_join.specs.States.{Reading, Broken, unread}
use Rattle.itch_join.specs.Steps.{SnapFails, SnapEnds, half_case, payload_case, message_case}
use Rattle.itch_join.specs.Deliveries.{IsOfFeed}
use Rattle.itch_join.specs.Premise.{half_next, half_after, half_of_snapshot}
use Rattle.itch_join.proofs.Feeds.{good}
use Rattle.itch_join.proofs.LawfulRules.{market_lawful, faultless, reasonless}
use Rattle.itch_join.proofs.Premises.{laid_empty, take_short, reads_on, ends_so, meets}
use Rattle.itch_join.proofs.RestrictedFeeds.{led, restricted}

-- markets that are the same remain so after the restriction
pub same_only : (wanted : ℕ → Bool) (m n : Content) → IsGood m → IsGood n → Same m n → Same (only wanted m) (only wanted n)
same_only wanted m n good fine same =
    same_snap (only wanted m) (only wanted n) (only_good wanted m good) (only_good wanted n fine)
    (snap_only wanted m ∙ ap (kept wanted) (snap_same m n same) ∙ sym (snap_only wanted n))

-- the effect of a snapshot of the feed's first messages on a joiner of the set: of the complete snapshot, and of the restricted one
pub record StartsSet (wanted : ℕ → Bool) (feed : List (List ℕ)) (k : ℕ) : Type 0 where
  pub whole : half_case (rules_of wanted) (half_of_snapshot (rules_of wanted) (run market_rules (take k feed))) (spelling (is.End (k + 1))) ≡ SnapEnds (k + 1) (laid (only wanted (run market_rules (take k feed))))
  pub part : half_case (rules_of wanted) (half_of_snapshot (rules_of wanted) (only wanted (run market_rules (take k feed)))) (spelling (is.End (k + 1))) ≡ SnapEnds (k + 1) (laid (only wanted (run market_rules (take k feed))))
  pub fits : IsOfFeed (rules_of wanted) feed (SnapEnds (k + 1) (laid (only wanted (run market_rules (take k feed)))))

pub starts_set : (wanted : ℕ → Bool) (feed : List (List ℕ)) (k : ℕ) → AllByRecursion AreBytes feed → k < bad market_rules feed → k < 10 ^ 19 → StartsSet wanted feed k
starts_set wanted feed k bytes low few =
    let R = rules_of wanted in
    let M = run market_rules (take k feed) in
    let fine : IsGood M = good market_rules market_lawful empty feed k empty_good bytes (omega arith) in
    let l = led empty feed k bytes (omega arith) in
    let short : length (snap M) ≤ k =
    let h = short_snap (map message_of (take k feed)) l.fit l.follows in let t = take_short k feed in let e = ap (λ m. length (snap m)) l.left in omega arith in
    let cut = restricted wanted feed k bytes low in
    let one = meets wanted feed k bytes cut.0 few in
    record {
      whole = ends_so wanted M k fine short few;
      part = subst (λ m. half_case R (half_of_snapshot R m) (spelling (is.End (k + 1))) ≡ SnapEnds (k + 1) (laid m)) cut.1 one.kind;
      fits = subst (λ m. IsOfFeed R feed (SnapEnds (k + 1) (laid m))) cut.1 one.fits;
    }

-- any snapshot ------------------------------------------------------------------

-- a broken snapshot remains broken
stays_broken : (R : Rules) (ps : List (List ℕ)) (place : ℕ) (why : Cause) (t : ℕ) (n : Content) → half_after R (Broken place why) ps ≡ Reading t n → ⊥
stays_broken R [] place why t n h = cc
stays_broken R (p ∷ ps) place why t n h = stays_broken R ps place why t n h

-- Messages of a snapshot were taken by the rules of markets, and have led from one market to another.
record AreTaken (m : Content) (ps : List (List ℕ)) (taken t : ℕ) (n : Content) : Type 0 where
  clean : AllByRecursion (λ p. fault p ≡ None) ps
  fit : AreMessages (map message_of ps)
  follows : FollowsFrom m (map message_of ps)
  count : t ≡ taken + length ps
  room : t ≤ 10 ^ 19 - 1
  left : n ≡ laid (runs.after m (map message_of ps))

all_taken : (ps : List (List ℕ)) (taken : ℕ) (m : Content) (t : ℕ) (n : Content) → IsGood m → taken ≤ 10 ^ 19 - 1 → AllByRecursion AreBytes ps → AllByRecursion (λ p. closing_number p ≡ None) ps
    → half_after market_rules (Reading taken (laid m)) ps ≡ Reading t n → AreTaken m ps taken t n
all_taken [] taken m t n fine low bytes unended h =
    let e : taken ≡ t = cc in let f : laid m ≡ n = cc in
    record { clean = tt; fit = tt; follows = tt; count = omega arith; room = omega arith; left = sym f }
all_taken (p ∷ ps) taken m t n fine low bytes unended h =
    by_case (market_rules.refused (laid m) p) refl (taken == 10 ^ 19 - 1) refl
    (λ fine next rest. all_taken ps (taken + 1) (effect m (message_of p)) t n fine next bytes.1 unended.1 rest)
    (sym (ap (λ o. half_after market_rules (half_next market_rules (Reading taken (laid m)) p (payload_case taken (laid m) o (market_rules.refused (laid m) p))) ps) unended.0) ∙ h)
  where
    by_case : (o : Option Cause) → market_rules.refused (laid m) p ≡ o → (b : Bool) → (taken == 10 ^ 19 - 1) ≡ b
        → (IsGood (effect m (message_of p)) → taken + 1 ≤ 10 ^ 19 - 1 → half_after market_rules (Reading (taken + 1) (laid (effect m (message_of p)))) ps ≡ Reading t n
        → AreTaken (effect m (message_of p)) ps (taken + 1) t n)
        → half_after market_rules (half_next market_rules (Reading taken (laid m)) p (cond b (SnapFails (10 ^ 19) cause.TooMany) (message_case taken (laid m) o))) ps ≡ Reading t n
        → AreTaken m (p ∷ ps) taken t n
    by_case o e true full more h = absurd (stays_broken market_rules ps (10 ^ 19) cause.TooMany t n h)
    by_case (Some why) e false free more h = absurd (stays_broken market_rules ps (taken + 1) why t n h)
    by_case None e false free more h =
        let x = message_of p in
        let clean = faultless (laid m) p (fault p) e in
        let none : reason m x ≡ None = sym (reason-laid m x fine) ∙ reasonless (laid m) p (fault p) e in
        let fits = IsMessage-Spells x p bytes.0 (Spells-message_of p clean) in
        let next : taken + 1 ≤ 10 ^ 19 - 1 = grind (arith, nat_tests) in
        let rest = more (effect_good m x fine fits none) next (ap (λ y. half_after market_rules (Reading (taken + 1) y) ps) (sym (effect-laid m x fine)) ∙ h) in
        record { clean = (clean, rest.clean); fit = (fits, rest.fit); follows = (none, rest.follows); count = let c = rest.count in omega arith; room = rest.room; left = rest.left }

module _ (wanted : ℕ → Bool) (ps : List (List ℕ)) (t : ℕ) (n : Content) (bytes : AllByRecursion AreBytes ps) (unended : AllByRecursion (λ p. closing_number p ≡ None) ps)
    (read : half_after market_rules unread ps ≡ Reading t n) where
  abbrev ms : List Message
  ms = map message_of ps

  taken : AreTaken empty ps 0 t n
  taken = all_taken ps 0 empty t n empty_good (omega arith) bytes unended (ap (λ m. half_after market_rules (Reading 0 m) ps) laid_empty ∙ read)

  run_is_good : IsGood (runs.run ms)
  run_is_good = after_good empty ms empty_good taken.fit taken.follows

  is_good : IsGood n
  is_good = subst IsGood (sym taken.left) (laid_good (runs.run ms) run_is_good)

  same_run : Same (runs.run ms) n
  same_run = subst (Same (runs.run ms)) (sym taken.left) (same_back (laid (runs.run ms)) (runs.run ms) (laid_is_same (runs.run ms) run_is_good))

  pub reads_cut : half_after (rules_of wanted) unread ps ≡ Reading t (laid (only wanted n))
  reads_cut =
      let k = taken in
      ap (λ m. half_after (rules_of wanted) (Reading 0 m) ps) (sym laid_empty)
      ∙ reads_on wanted ps 0 empty empty_good k.clean k.fit (kept_follows wanted ms k.fit k.follows) (omega (arith, k.count, k.room))
      ∙ ap (λ m. Reading (0 + length ps) (laid m)) (kept_leaves wanted ms k.fit k.follows)
      ∙ ap (Reading (0 + length ps)) (laid_same (only wanted (runs.run ms)) (only wanted n) (same_only wanted (runs.run ms) n run_is_good is_good same_run))
      ∙ ap (λ i. Reading i (laid (only wanted n))) (sym k.count)

  pub fits_cut : (feed : List (List ℕ)) (next : ℕ) → AllByRecursion AreBytes feed → IsOfFeed market_rules feed (SnapEnds next n) → IsOfFeed (rules_of wanted) feed (SnapEnds next (laid (only wanted n)))
  fits_cut feed next of_bytes (some, low, same) =
      let M = run market_rules (take (next - 1) feed) in
      let fine : IsGood M = good market_rules market_lawful empty feed (next - 1) empty_good of_bytes (omega arith) in
      let cut = restricted wanted feed (next - 1) of_bytes (omega arith) in
      let part = laid_is_same (only wanted n) (only_good wanted n is_good) in (
        some,
        omega (arith, cut.0),
        subst (Same (laid (only wanted n))) (sym cut.1)
            (same_chain (laid (only wanted n)) (only wanted n) (only wanted M) part (same_only wanted n M is_good fine same)),
      )
