-- The snapshot of a feed's first messages meets the premise on snapshots of the feed.
use Rattle.std.proofs.Common.{◌≡◌, ℕ, zero, suc, ◌+◌, ◌-◌, ◌^◌, ◌==◌, ◌<◌, ◌≤◌, Bool, true, false, not, cond, List, [], ◌∷◌, map, length, take, Some, None, refl, sym, ap, ap₂, ◌∙◌, subst, arith}
use Rattle.std.specs.Option.{option_map}
use Rattle.std.specs.List.{AllByRecursion}
use Rattle.std.proofs.lemmas.Bool.Decides.{nat_tests}
use Rattle.std.proofs.lemmas.List.{length-map}
use Rattle.itch_codec.specs.declared.message.Message.{Message}
use Rattle.itch_codec.specs.declared.message.Message.TheVariants as is
use Rattle.itch_codec.specs.Fields.{AreBytes}
use Rattle.itch_codec.specs.Messages.{fault, message_of, spelling}
use Rattle.itch_codec.specs.Widths.{IsMessage}
use Rattle.itch_codec.proofs.Spelling.{message_of-spelling, fault-spelling, IsMessage-Spells, Spells-message_of}
use Rattle.itch_book.specs.declared.order.Order.{Order}
use Rattle.itch_book.specs.Orders as book
use Rattle.itch_book.proofs.Lists.{by_test, length_filter_le}
use Rattle.itch_book.proofs.OrderLemmas.{lay_fit}
use Rattle.itch_market.specs.Content.{Content, empty, laid}
use Rattle.itch_market.specs.GoodMarkets.{IsGood}
use Rattle.itch_market.specs.Effects.{effect}
use Rattle.itch_market.specs.Runs as runs
use Rattle.itch_market.specs.Runs.{AreMessages, FollowsFrom}
use Rattle.itch_market.specs.SameMarkets.{Same}
use Rattle.itch_market.specs.Partial.{skips, kept, only}
use Rattle.itch_market.proofs.Partials.{kept_message, kept_leaves, only_good}
use Rattle.itch_market.proofs.GoodMarkets.{effect_good, empty_good}
use Rattle.itch_market.proofs.LaidMarkets.{reason-laid, effect-laid, laid_twice}
use Rattle.itch_market.proofs.SameMarkets.{laid_is_same}
use Rattle.itch_snapshot.specs.Snapshot.{snap}
use Rattle.itch_snapshot.specs.TakenMessages.{closing_number, number_by, number_in, is_skipped}
use Rattle.itch_snapshot.proofs.PartialSnapshots.{snap_only}
use Rattle.itch_snapshot.proofs.SnapshotReplays.{snap_leads}
use Rattle.itch_snapshot.proofs.Sizes.{short_snap}
use Rattle.itch_snapshot.proofs.SpelledMessages.{snap_messages}
use Rattle.itch_join.specs.declared.fault.Cause.TheVariants as cause
use Rattle.itch_join.specs.Rules.{Rules, run, after, first_bad, bad, refused_by, market_rules, rules_of}
use Rattle.itch_join.specs.States.{Reading}
use Rattle.itch_join.specs.Steps.{SnapEnds, SnapTakes, payload_case, half_case}
use Rattle.itch_join.specs.Deliveries.{IsOfFeed}
use Rattle.itch_join.specs.Premise.{half_next, half_after, half_of_snapshot}
use Rattle.itch_join.proofs.Feeds.{first_fine, none_there, good}
use Rattle.itch_join.proofs.LawfulRules.{only_lawful, faultless, reasonless}
use Rattle.itch_snapshot.proofs.SkippedMessages.{skipped_faultless, faultless_skips, skipped_number}
use Rattle.itch_join.proofs.SkippedMessages.{refused_here, effect_here, refused_skipped, effect_skipped, all_rules}
use Rattle.itch_snapshot.proofs.FileLemmas.{unrefused_number}

pub take_short : (k : ℕ) (F : List (List ℕ)) → length (map message_of (take k F)) ≤ k
take_short zero F = omega arith
take_short (suc k) [] = omega arith
take_short (suc k) (q ∷ F) = let h = take_short k F in omega arith

pub laid_empty : laid empty ≡ empty
laid_empty = let none : book.lay [] ≡ [] = lay_fit [] tt in ap (λ (os : List Order). let m : Content = record empty { orders = os } in m) none

-- encoded messages are read back
read_back : (ms : List Message) → AreMessages ms → map message_of (map spelling ms) ≡ ms
read_back [] fit = refl
read_back (x ∷ xs) fit = ap₂ (λ y ys. y ∷ ys) (message_of-spelling x fit.0) (read_back xs fit.1)

are_clean : (ms : List Message) → AreMessages ms → AllByRecursion (λ p. fault p ≡ None) (map spelling ms)
are_clean [] fit = tt
are_clean (x ∷ xs) fit = (fault-spelling x fit.0, are_clean xs fit.1)

-- the snapshot of the first k messages ends as a snapshot of the feed
pub record EndsAsOne (R : Rules) (feed : List (List ℕ)) (k : ℕ) : Type 0 where
  pub kind : half_case R (half_of_snapshot R (run R (take k feed))) (spelling (is.End (k + 1))) ≡ SnapEnds (k + 1) (laid (run R (take k feed)))
  pub fits : IsOfFeed R feed (SnapEnds (k + 1) (laid (run R (take k feed))))

module _ (wanted : ℕ → Bool) where
  abbrev R : Rules
  R = rules_of wanted

  -- Of the first messages of a feed, those that are not skipped follow the order rules, and have the result that the joiner's rules state. A
  -- market with nothing at other locates remains one.
  record IsRun (m : Content) (ps : List (List ℕ)) : Type 0 where
    follows : FollowsFrom m (kept wanted (map message_of ps))
    fit : AreMessages (kept wanted (map message_of ps))
    left : after R m ps ≡ runs.after m (kept wanted (map message_of ps))
    within : only wanted m ≡ m → only wanted (after R m ps) ≡ after R m ps

  one_more : (m : Content) (q : List ℕ) (ps : List (List ℕ)) → AreBytes q → R.refused m q ≡ None → IsRun (R.effect m q) ps → IsRun m (q ∷ ps)
  one_more m q ps bytes none rest =
      let x = message_of q in
      let xs = map message_of ps in
      by_test (is_skipped wanted q)
      (λ skip.
      let out = sym (faultless_skips wanted q (skipped_faultless wanted q skip)) ∙ skip in
      let gone : kept wanted (x ∷ xs) ≡ kept wanted xs = ap (λ b. cond (not b) (x ∷ kept wanted xs) (kept wanted xs)) out in
      let effect_is = effect_skipped wanted m q skip in
      let r : IsRun m ps = subst (λ n. IsRun n ps) effect_is rest in
      record {
        follows = subst (FollowsFrom m) (sym gone) r.follows;
        fit = subst AreMessages (sym gone) r.fit;
        left = ap (λ n. after R n ps) effect_is ∙ r.left ∙ ap (runs.after m) (sym gone);
        within = λ same. ap (λ n. only wanted (after R n ps)) effect_is ∙ r.within same ∙ ap (λ n. after R n ps) (sym effect_is);
      })
      (λ stays.
      let refuses : refused_by (fault q) m q ≡ None = sym (refused_here wanted m q stays) ∙ none in
      let clean = faultless m q (fault q) refuses in
      let fine_rule = reasonless m q (fault q) refuses in
      let in_set = sym (faultless_skips wanted q clean) ∙ stays in
      let more : kept wanted (x ∷ xs) ≡ x ∷ kept wanted xs = ap (λ b. cond (not b) (x ∷ kept wanted xs) (kept wanted xs)) in_set in
      let effect_is = effect_here wanted m q stays in
      let r : IsRun (effect m x) ps = subst (λ n. IsRun n ps) effect_is rest in
      record {
        follows = subst (FollowsFrom m) (sym more) (fine_rule, r.follows);
        fit = subst AreMessages (sym more) (IsMessage-Spells x q bytes (Spells-message_of q clean), r.fit);
        left = ap (λ n. after R n ps) effect_is ∙ r.left ∙ ap (runs.after m) (sym more);
        within = λ same.
            let still : only wanted (effect m x) ≡ effect m x = sym (kept_message wanted m x fine_rule in_set).effect ∙ ap (λ n. effect n x) same in
            ap (λ n. only wanted (after R n ps)) effect_is ∙ r.within still ∙ ap (λ n. after R n ps) (sym effect_is);
      })

  is_run : (m : Content) (F : List (List ℕ)) (k : ℕ) → AllByRecursion AreBytes F → k + 1 ≤ first_bad R m F → IsRun m (take k F)
  is_run m F zero bytes low = record { follows = tt; fit = tt; left = refl; within = λ same. same }
  is_run m [] (suc k) bytes low = record { follows = tt; fit = tt; left = refl; within = λ same. same }
  is_run m (q ∷ F) (suc k) bytes low =
      let fine = first_fine R m q F k low in
      one_more m q (take k F) bytes.0 (none_there R (R.refused m q) fine.0) (is_run (R.effect m q) F k bytes.1 fine.1)

  -- one message of a snapshot is taken
  takes : (taken : ℕ) (m : Content) (p : List ℕ) → closing_number p ≡ None → R.refused m p ≡ None → taken + 1 ≤ 10 ^ 19 - 1 → half_case R (Reading taken m) p ≡ SnapTakes taken m
  takes taken m p says refuses room =
      let free : (taken == 10 ^ 19 - 1) ≡ false = grind (arith, nat_tests) in
      ap (λ n. payload_case taken m n (R.refused m p)) says
      ∙ ap (payload_case taken m None) refuses
      ∙ ap (λ b. cond b (payload_case (10 ^ 19 - 1) m None None) (SnapTakes taken m)) free

  -- a snapshot whose messages are taken, and in which skipped messages change nothing
  pub reads_on : (ps : List (List ℕ)) (taken : ℕ) (m : Content) → IsGood m → AllByRecursion (λ p. fault p ≡ None) ps → AreMessages (map message_of ps) → FollowsFrom m (kept wanted (map message_of ps))
      → taken + length ps ≤ 10 ^ 19 - 1 → half_after R (Reading taken (laid m)) ps ≡ Reading (taken + length ps) (laid (runs.after m (kept wanted (map message_of ps))))
  reads_on [] taken m fine clean fit follows room = ap (λ n. Reading n (laid m)) (omega arith)
  reads_on (p ∷ ps) taken m fine clean fit follows room =
      let x = message_of p in
      let xs = map message_of ps in
      let half = Reading taken (laid m) in
      by_test (is_skipped wanted p)
      (λ skip.
      let out = sym (faultless_skips wanted p clean.0) ∙ skip in
      let gone : kept wanted (x ∷ xs) ≡ kept wanted xs = ap (λ b. cond (not b) (x ∷ kept wanted xs) (kept wanted xs)) out in
      let kind = takes taken (laid m) p (skipped_number wanted p skip) (refused_skipped wanted (laid m) p skip) (omega arith) in
      let market_is : laid (R.effect (laid m) p) ≡ laid m = ap laid (effect_skipped wanted (laid m) p skip) ∙ laid_twice m in
      ap (λ l. half_after R (half_next R half p l) ps) kind
      ∙ ap (λ n. half_after R (Reading (taken + 1) n) ps) market_is
      ∙ reads_on ps (taken + 1) m fine clean.1 fit.1 (subst (FollowsFrom m) gone follows) (omega arith)
      ∙ ap (λ ms. Reading (taken + 1 + length ps) (laid (runs.after m ms))) (sym gone)
      ∙ ap (λ n. Reading n (laid (runs.after m (kept wanted (x ∷ xs))))) (omega arith))
      (λ stays.
      let in_set = sym (faultless_skips wanted p clean.0) ∙ stays in
      let more : kept wanted (x ∷ xs) ≡ x ∷ kept wanted xs = ap (λ b. cond (not b) (x ∷ kept wanted xs) (kept wanted xs)) in_set in
      let both = subst (FollowsFrom m) more follows in
      let says : closing_number p ≡ None = ap (λ f. number_by f p) clean.0 ∙ unrefused_number m x both.0 in
      let refuses : R.refused (laid m) p ≡ None =
      refused_here wanted (laid m) p stays ∙ ap (λ f. refused_by f (laid m) p) clean.0 ∙ ap (option_map cause.Rule) (reason-laid m x fine ∙ both.0) in
      let kind = takes taken (laid m) p says refuses (omega arith) in
      let market_is : laid (R.effect (laid m) p) ≡ laid (effect m x) = ap laid (effect_here wanted (laid m) p stays) ∙ effect-laid m x fine in
      ap (λ l. half_after R (half_next R half p l) ps) kind
      ∙ ap (λ n. half_after R (Reading (taken + 1) n) ps) market_is
      ∙ reads_on ps (taken + 1) (effect m x) (effect_good m x fine fit.0 both.0) clean.1 fit.1 both.1 (omega arith)
      ∙ ap (λ ms. Reading (taken + 1 + length ps) (laid (runs.after m ms))) (sym more)
      ∙ ap (λ n. Reading n (laid (runs.after m (kept wanted (x ∷ xs))))) (omega arith))

  -- the complete snapshot of a market, as a snapshot of the restricted market
  reads_snap : (m : Content) → IsGood m → length (snap m) ≤ 10 ^ 19 - 1 → half_of_snapshot R m ≡ Reading (length (snap m)) (laid (only wanted m))
  reads_snap m fine short =
      let ps = map spelling (snap m) in
      let fit = snap_messages m fine in
      let back = read_back (snap m) fit in
      let cut = snap_leads (only wanted m) (only_good wanted m fine) in
      let stay : kept wanted (map message_of ps) ≡ snap (only wanted m) = ap (kept wanted) back ∙ sym (snap_only wanted m) in
      let same_length = length-map (snap m) spelling in
      let many : 0 + length ps ≡ length (snap m) = omega arith in
      ap (λ n. half_after R (Reading 0 n) ps) (sym laid_empty)
      ∙ reads_on ps 0 empty empty_good (are_clean (snap m) fit) (subst AreMessages (sym back) fit) (subst (FollowsFrom empty) (sym stay) cut.follows) (omega arith)
      ∙ ap (λ ms. Reading (0 + length ps) (laid (runs.after empty ms))) stay
      ∙ ap (λ n. Reading (0 + length ps) (laid n)) cut.leaves ∙ ap (Reading (0 + length ps)) (laid_twice (only wanted m))
      ∙ ap (λ n. Reading n (laid (only wanted m))) many

  -- and its End of Snapshot
  pub ends_so : (m : Content) (k : ℕ) → IsGood m → length (snap m) ≤ k → k < 10 ^ 19 → half_case R (half_of_snapshot R m) (spelling (is.End (k + 1))) ≡ SnapEnds (k + 1) (laid (only wanted m))
  ends_so m k fine short few =
      let number : IsMessage (is.End (k + 1)) = record { low = omega arith; high = omega arith } in
      let p = spelling (is.End (k + 1)) in
      let says : closing_number p ≡ Some (k + 1) = ap (λ f. number_by f p) (fault-spelling (is.End (k + 1)) number) ∙ ap number_in (message_of-spelling (is.End (k + 1)) number) in
      let n = laid (only wanted m) in
      ap (λ h. half_case R h p) (reads_snap m fine (omega arith)) ∙ ap (λ o. payload_case (length (snap m)) n o (R.refused n p)) says

  pub meets : (feed : List (List ℕ)) (k : ℕ) → AllByRecursion AreBytes feed → k < bad R feed → k < 10 ^ 19 → EndsAsOne R feed k
  meets feed k bytes low few =
      let M = run R (take k feed) in
      let fine : IsGood M = good R (only_lawful wanted) empty feed k empty_good bytes (omega arith) in
      let ran = is_run empty feed k bytes (omega arith) in
      let ms = map message_of (take k feed) in
      let short : length (snap M) ≤ k = let h = short_snap (kept wanted ms) ran.fit ran.follows in let t = take_short k feed in let l = length_filter_le (λ x. not (skips wanted x)) ms in
      let e : length (snap M) ≡ length (snap (runs.run (kept wanted ms))) = ap (λ m. length (snap m)) ran.left in omega arith in
      let same : only wanted M ≡ M = ran.within (sym (kept_leaves wanted [] tt tt)) in
      record {
        kind = ends_so M k fine short few ∙ ap (λ m. SnapEnds (k + 1) (laid m)) same;
        fits = (omega arith, omega arith, let e : (k + 1) - 1 ≡ k = omega arith in subst (λ n. Same (laid M) (run R (take n feed))) (sym e) (laid_is_same M fine));
      }

-- the same for the complete market
pub meets_all : (feed : List (List ℕ)) (k : ℕ) → AllByRecursion AreBytes feed → k < bad market_rules feed → k < 10 ^ 19 → EndsAsOne market_rules feed k
meets_all feed k bytes low few =
    let every : rules_of (λ l. true) ≡ market_rules = all_rules (λ l. true) (λ l. refl) in
    subst (λ (R : Rules). EndsAsOne R feed k) every (meets (λ l. true) feed k bytes (subst (λ (R : Rules). k < bad R feed) (sym every) low) few)
