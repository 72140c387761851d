-- For the rules of markets, payloads as they are read with a set are like the payloads themselves for the rules of the set.
use Rattle.std.proofs.Common.{◌≡◌, ℕ, ◌+◌, ◌-◌, Bool, false, not, cond, List, [], ◌∷◌, ◌++◌, map, Option, None, is_some, refl, sym, ap, ap₂, ◌∙◌, subst}
use Rattle.std.specs.List.{AllByRecursion}
use Rattle.std.specs.Option.{option_map}
use Rattle.std.proofs.lemmas.List.{drop-map}
use Rattle.std.proofs.lemmas.List.Elements.{filter-append}
use Rattle.itch_book.proofs.Lists.{by_test, All-append_rec, All-filter_rec}
use Rattle.itch_codec.specs.declared.message.Message.{Message}
use Rattle.itch_codec.specs.Fields.{AreBytes}
use Rattle.itch_codec.specs.Messages.{fault, message_of, spelling}
use Rattle.itch_codec.specs.Widths.{IsMessage}
use Rattle.itch_codec.proofs.Spelling.{IsMessage-Spells, Spells-message_of}
use Rattle.itch_market.specs.Content.{Content, empty, laid}
use Rattle.itch_market.specs.Reasons.{reason}
use Rattle.itch_market.specs.Effects.{effect, takes_memory}
use Rattle.itch_market.specs.GoodMarkets.{IsGood}
use Rattle.itch_market.specs.Runs as runs
use Rattle.itch_market.specs.Runs.{AreMessages, FollowsFrom, Follows}
use Rattle.itch_market.specs.Partial.{skips, kept, only}
use Rattle.itch_market.specs.Replays.{NoCause}
use Rattle.itch_market.specs.SameMarkets.{Same}
use Rattle.itch_market.proofs.Causes.{none_follows, none_clean, follows_none}
use Rattle.itch_market.proofs.GoodMarkets.{after_good, laid_good}
use Rattle.itch_market.proofs.Partials.{kept_follows, kept_leaves, only_good}
use Rattle.itch_market.proofs.Runs.{after-append, follows-append, follows_rest}
use Rattle.itch_market.proofs.SameMarkets.{laid_is_same, same_back, same_chain, follows_same, after_same}
use Rattle.itch_snapshot.specs.Snapshot.{snap}
use Rattle.itch_snapshot.specs.TakenMessages.{is_skipped}
use Rattle.itch_snapshot.proofs.PartialSnapshots.{snap_only}
use Rattle.itch_snapshot.proofs.OneSnapshot.{snap_follows, run-snap, replayed_same}
use Rattle.itch_snapshot.proofs.SpelledMessages.{snap_messages}
use Rattle.itch_join.specs.declared.fault.Cause.{Cause}
use Rattle.itch_join.specs.declared.fault.Cause.TheVariants as cause
use Rattle.itch_join.specs.Rules as rules
use Rattle.itch_join.specs.Rules.{Rules, first_bad, refused_by, market_rules, rules_of}
use Rattle.itch_snapshot.proofs.SkippedMessages.{faultless_skips}
use Rattle.itch_join.proofs.SkippedMessages.{refused_here, effect_here, memory_here, refused_skipped, effect_skipped}
use Rattle.itch_join.proofs.SetSnapshots.{same_only}
use Rattle.itch_snapshot.specs.AsRead.{idle, as_read}
use Rattle.itch_commands.specs.Joining.{from_number}
use Rattle.itch_snapshot.proofs.AsRead.{idle_clean, idle_read, read_skipped, read_stays}

module _ (wanted : ℕ → Bool) where
  abbrev R : Rules
  R = rules_of wanted

  -- the same payloads as they are read
  abbrev pub seen : List (List ℕ) → List (List ℕ)
  seen ps = map (as_read wanted) ps

  -- for the rules -----------------------------------------------------------------

  pub refused_so : (m : Content) (p : List ℕ) → market_rules.refused m (as_read wanted p) ≡ R.refused m p
  refused_so m p =
      by_test (is_skipped wanted p)
      (λ skip.
      ap (market_rules.refused m) (read_skipped wanted p skip) ∙ ap (λ f. refused_by f m (spelling idle)) idle_clean ∙ ap (λ x. option_map cause.Rule (reason m x)) idle_read
      ∙ sym (refused_skipped wanted m p skip))
      (λ stays. ap (market_rules.refused m) (read_stays wanted p stays) ∙ sym (refused_here wanted m p stays))

  pub effect_so : (m : Content) (p : List ℕ) → market_rules.effect m (as_read wanted p) ≡ R.effect m p
  effect_so m p =
      by_test (is_skipped wanted p)
      (λ skip. ap (market_rules.effect m) (read_skipped wanted p skip) ∙ ap (effect m) idle_read ∙ sym (effect_skipped wanted m p skip))
      (λ stays. ap (market_rules.effect m) (read_stays wanted p stays) ∙ sym (effect_here wanted m p stays))

  pub memory_so : (m : Content) (p : List ℕ) → market_rules.takes_memory m (as_read wanted p) ≡ R.takes_memory m p
  memory_so m p =
      by_test (is_skipped wanted p)
      (λ skip. ap (market_rules.takes_memory m) (read_skipped wanted p skip) ∙ ap (takes_memory m) idle_read ∙ sym (ap (λ b. cond b false (market_rules.takes_memory m p)) skip))
      (λ stays. ap (market_rules.takes_memory m) (read_stays wanted p stays) ∙ sym (memory_here wanted m p stays))

  pub bad_so : (m : Content) (ps : List (List ℕ)) → first_bad market_rules m (seen ps) ≡ first_bad R m ps
  bad_so m [] = refl
  bad_so m (p ∷ ps) =
      ap₂ (λ (o : Option Cause) n. cond (is_some o) 1 (n + 1)) (refused_so m p) (ap (λ n. first_bad market_rules n (seen ps)) (effect_so m p) ∙ bad_so (R.effect m p) ps)

  pub after_so : (m : Content) (ps : List (List ℕ)) → runs.after m (map message_of (seen ps)) ≡ rules.after R m ps
  after_so m [] = refl
  after_so m (p ∷ ps) = ap (λ n. runs.after n (map message_of (seen ps))) (effect_so m p) ∙ after_so (R.effect m p) ps

  -- for runs ----------------------------------------------------------------------

  -- none is faulty, as they are read
  seen_clean : (ps : List (List ℕ)) → AllByRecursion (λ p. fault p ≡ None) ps → AllByRecursion (λ p. fault p ≡ None) (seen ps)
  seen_clean [] clean = tt
  seen_clean (p ∷ ps) clean = (
    by_test (is_skipped wanted p) (λ skip. ap fault (read_skipped wanted p skip) ∙ idle_clean) (λ stays. ap fault (read_stays wanted p stays) ∙ clean.0),
    seen_clean ps clean.1,
  )

  -- if those that are not skipped follow the order rules, all do as they are read, and leave the same market
  seen_follows : (n : Content) (ps : List (List ℕ)) → AllByRecursion (λ p. fault p ≡ None) ps → FollowsFrom n (kept wanted (map message_of ps))
      → FollowsFrom n (map message_of (seen ps)) × (runs.after n (map message_of (seen ps)) ≡ runs.after n (kept wanted (map message_of ps)))
  seen_follows n [] clean follows = (tt, refl)
  seen_follows n (p ∷ ps) clean follows =
      let x = message_of p in
      let xs = map message_of ps in
      by_test (is_skipped wanted p)
      (λ skip.
      let out = sym (faultless_skips wanted p clean.0) ∙ skip in
      let gone : kept wanted (x ∷ xs) ≡ kept wanted xs = ap (λ b. cond (not b) (x ∷ kept wanted xs) (kept wanted xs)) out in
      let is : message_of (as_read wanted p) ≡ idle = ap message_of (read_skipped wanted p skip) ∙ idle_read in
      let rest = seen_follows n ps clean.1 (subst (FollowsFrom n) gone follows) in (
        subst (λ y. FollowsFrom n (y ∷ map message_of (seen ps))) (sym is) (refl, rest.0),
        ap (λ y. runs.after n (y ∷ map message_of (seen ps))) is ∙ rest.1 ∙ ap (runs.after n) (sym gone),
      ))
      (λ stays.
      let in_set = sym (faultless_skips wanted p clean.0) ∙ stays in
      let more : kept wanted (x ∷ xs) ≡ x ∷ kept wanted xs = ap (λ b. cond (not b) (x ∷ kept wanted xs) (kept wanted xs)) in_set in
      let is : message_of (as_read wanted p) ≡ x = ap message_of (read_stays wanted p stays) in
      let both = subst (FollowsFrom n) more follows in
      let rest = seen_follows (effect n x) ps clean.1 both.1 in (
        subst (λ y. FollowsFrom n (y ∷ map message_of (seen ps))) (sym is) (both.0, rest.0),
        ap (λ y. runs.after n (y ∷ map message_of (seen ps))) is ∙ rest.1 ∙ ap (runs.after n) (sym more),
      ))

  messages : (ps : List (List ℕ)) → AllByRecursion AreBytes ps → AllByRecursion (λ p. fault p ≡ None) ps → AreMessages (map message_of ps)
  messages [] bytes clean = tt
  messages (p ∷ ps) bytes clean = (IsMessage-Spells (message_of p) p bytes.0 (Spells-message_of p clean.0), messages ps bytes.1 clean.1)

  -- Messages that follow the order rules in a market; those that are not skipped follow them in the restricted market, and leave the
  -- restriction of the market after all.
  record IsCut (m n : Content) (ms : List Message) : Type 0 where
    follows : FollowsFrom n (kept wanted ms)
    same : Same (runs.after n (kept wanted ms)) (only wanted (runs.after m ms))

  cut_from : (m n : Content) (ms : List Message) → IsGood m → IsGood n → Same n (only wanted m) → AreMessages ms → FollowsFrom m ms → IsCut m n ms
  cut_from m n ms good fine same fit follows =
      let start = snap m in
      let part = snap (only wanted m) in
      let rest = kept wanted ms in
      let part_good = only_good wanted m good in
      let laid_follows : FollowsFrom (runs.run start) ms =
      subst (λ k. FollowsFrom k ms) (sym (run-snap m good)) (follows_same m (laid m) ms good (laid_good m good) fit (same_back (laid m) m (laid_is_same m good)) follows) in
      let all_fit = All-append_rec IsMessage start ms (snap_messages m good) fit in
      let all_follow = follows-append empty start ms (snap_follows m good) laid_follows in
      let is : kept wanted (start ++ ms) ≡ part ++ rest = filter-append (λ x. not (skips wanted x)) start ms ∙ ap (λ xs. xs ++ rest) (sym (snap_only wanted m)) in
      let rest_fit = All-filter_rec IsMessage (λ x. not (skips wanted x)) ms fit in
      let rest_follows : FollowsFrom (runs.run part) rest = follows_rest empty part rest (subst Follows is (kept_follows wanted (start ++ ms) all_fit all_follow)) in
      let made : IsGood (runs.run part) = subst IsGood (sym (run-snap (only wanted m) part_good)) (laid_good (only wanted m) part_good) in
      let made_same : Same (runs.run part) n =
      same_chain (runs.run part) (only wanted m) n (replayed_same (only wanted m) part_good) (same_back n (only wanted m) same) in
      let goes = follows_same (runs.run part) n rest made fine rest_fit made_same rest_follows in
      let leaves : runs.after (runs.run part) rest ≡ only wanted (runs.after (laid m) ms) =
      sym (after-append empty part rest) ∙ ap runs.run (sym is) ∙ kept_leaves wanted (start ++ ms) all_fit all_follow
      ∙ ap (only wanted) (after-append empty start ms ∙ ap (λ k. runs.after k ms) (run-snap m good)) in
      let whole : Same (runs.after (laid m) ms) (runs.after m ms) =
      after_same (laid m) m ms (laid_good m good) good fit (laid_is_same m good) (subst (λ k. FollowsFrom k ms) (run-snap m good) laid_follows) in
      let ends_good = after_good m ms good fit follows in
      let laid_ends = after_good (laid m) ms (laid_good m good) fit (subst (λ k. FollowsFrom k ms) (run-snap m good) laid_follows) in
      record {
        follows = goes;
        same =
            same_chain (runs.after n rest) (runs.after (runs.run part) rest) (only wanted (runs.after m ms))
            (after_same n (runs.run part) rest fine made rest_fit (same_back (runs.run part) n made_same) goes)
            (subst (λ k. Same k (only wanted (runs.after m ms))) (sym leaves) (same_only wanted (runs.after (laid m) ms) (runs.after m ms) laid_ends ends_good whole));
      }

  -- a file's payloads
  pub file_follows : (ps : List (List ℕ)) → AllByRecursion AreBytes ps → NoCause empty ps → NoCause empty (seen ps)
  file_follows ps bytes none =
      let clean = none_clean empty ps none in
      let kept_follow = kept_follows wanted (map message_of ps) (messages ps bytes clean) (none_follows empty ps none) in
      follows_none empty (seen ps) (seen_clean ps clean) (seen_follows empty ps clean kept_follow).0

  pub file_leaves : (ps : List (List ℕ)) → AllByRecursion AreBytes ps → NoCause empty ps → runs.run (map message_of (seen ps)) ≡ only wanted (runs.run (map message_of ps))
  file_leaves ps bytes none =
      let clean = none_clean empty ps none in
      let fit = messages ps bytes clean in
      let follow = none_follows empty ps none in
      (seen_follows empty ps clean (kept_follows wanted (map message_of ps) fit follow)).1 ∙ kept_leaves wanted (map message_of ps) fit follow

  -- the payloads of a feed after a snapshot
  pub feed_follows : (m n : Content) (ps : List (List ℕ)) → IsGood m → IsGood n → Same n (only wanted m) → AllByRecursion AreBytes ps → NoCause m ps → NoCause n (seen ps)
  feed_follows m n ps good fine same bytes none =
      let clean = none_clean m ps none in
      let cut = cut_from m n (map message_of ps) good fine same (messages ps bytes clean) (none_follows m ps none) in
      follows_none n (seen ps) (seen_clean ps clean) (seen_follows n ps clean cut.follows).0

  pub feed_leaves : (m n : Content) (ps : List (List ℕ)) → IsGood m → IsGood n → Same n (only wanted m) → AllByRecursion AreBytes ps → NoCause m ps
      → Same (runs.after n (map message_of (seen ps))) (only wanted (runs.after m (map message_of ps)))
  feed_leaves m n ps good fine same bytes none =
      let clean = none_clean m ps none in
      let cut = cut_from m n (map message_of ps) good fine same (messages ps bytes clean) (none_follows m ps none) in
      subst (λ k. Same k (only wanted (runs.after m (map message_of ps)))) (sym (seen_follows n ps clean cut.follows).1) cut.same

  -- from a number on
  pub from_so : (before number : ℕ) (ps : List (List ℕ)) → from_number before number (seen ps) ≡ seen (from_number before number ps)
  from_so before number ps = drop-map (as_read wanted) (number - 1 - before) ps
