-- The market after a feed under the rules of some locates is the market after the feed, restricted to them.
use Rattle.std.proofs.Common.{◌≡◌, ℕ, zero, suc, ◌+◌, ◌<◌, ◌≤◌, Bool, not, cond, List, [], ◌∷◌, map, take, Option, None, is_some, refl, sym, ap, ◌∙◌, subst, arith}
use Rattle.std.specs.List.{AllByRecursion}
use Rattle.std.specs.Option.{option_map}
use Rattle.itch_join.specs.declared.fault.Cause.TheVariants as cause
use Rattle.itch_codec.specs.Fields.{AreBytes}
use Rattle.itch_codec.specs.Messages.{fault, message_of}
use Rattle.itch_codec.proofs.Spelling.{IsMessage-Spells, Spells-message_of}
use Rattle.itch_book.proofs.Lists.{by_test}
use Rattle.itch_market.specs.Content.{Content, empty}
use Rattle.itch_market.specs.Effects.{effect}
use Rattle.itch_market.specs.Runs as runs
use Rattle.itch_market.specs.Runs.{AreMessages, FollowsFrom}
use Rattle.itch_market.specs.Partial.{kept, only}
use Rattle.itch_market.proofs.Partials.{kept_leaves, kept_follows}
use Rattle.itch_snapshot.specs.TakenMessages.{is_skipped}
use Rattle.itch_join.specs.declared.fault.Cause.{Cause}
use Rattle.itch_join.specs.Rules.{Rules, run, after, first_bad, bad, refused_by, market_rules, rules_of}
use Rattle.itch_join.proofs.Feeds.{positive, first_fine, none_there}
use Rattle.itch_join.proofs.LawfulRules.{faultless, reasonless}
use Rattle.itch_snapshot.proofs.SkippedMessages.{faultless_skips}
use Rattle.itch_join.proofs.SkippedMessages.{refused_here, effect_here, refused_skipped, effect_skipped}

-- one more payload that is not refused
one_further : (R : Rules) (m : Content) (q : List ℕ) (F : List (List ℕ)) (k : ℕ) → R.refused m q ≡ None → k + 1 ≤ first_bad R (R.effect m q) F → suc k + 1 ≤ first_bad R m (q ∷ F)
one_further R m q F k none low =
    let is : first_bad R m (q ∷ F) ≡ first_bad R (R.effect m q) F + 1 = ap (λ (o : Option Cause). cond (is_some o) 1 (first_bad R (R.effect m q) F + 1)) none in
    omega arith

-- the first payloads of a feed, none of which is refused, as messages
pub record IsLed (m : Content) (ps : List (List ℕ)) : Type 0 where
  pub follows : FollowsFrom m (map message_of ps)
  pub fit : AreMessages (map message_of ps)
  pub left : after market_rules m ps ≡ runs.after m (map message_of ps)

pub led : (m : Content) (F : List (List ℕ)) (k : ℕ) → AllByRecursion AreBytes F → k + 1 ≤ first_bad market_rules m F → IsLed m (take k F)
led m F zero bytes low = record { follows = tt; fit = tt; left = refl }
led m [] (suc k) bytes low = record { follows = tt; fit = tt; left = refl }
led m (q ∷ F) (suc k) bytes low =
    let fine = first_fine market_rules m q F k low in
    let none : refused_by (fault q) m q ≡ None = none_there market_rules (market_rules.refused m q) fine.0 in
    let clean = faultless m q (fault q) none in
    let rest = led (effect m (message_of q)) F k bytes.1 fine.1 in
    record {
      follows = (reasonless m q (fault q) none, rest.follows);
      fit = (IsMessage-Spells (message_of q) q bytes.0 (Spells-message_of q clean), rest.fit);
      left = rest.left;
    }

module _ (wanted : ℕ → Bool) where
  abbrev R : Rules
  R = rules_of wanted

  -- n is a market in which those that are not skipped follow the order rules
  along : (m n : Content) (F : List (List ℕ)) (k : ℕ) → k + 1 ≤ first_bad market_rules m F → FollowsFrom n (kept wanted (map message_of (take k F)))
      → (k + 1 ≤ first_bad R n F) × (after R n (take k F) ≡ runs.after n (kept wanted (map message_of (take k F))))
  along m n F zero low follows = (positive R n F, refl)
  along m n [] (suc k) low follows = absurd (omega arith)
  along m n (q ∷ F) (suc k) low follows =
      let x = message_of q in
      let xs = map message_of (take k F) in
      let fine = first_fine market_rules m q F k low in
      let none : refused_by (fault q) m q ≡ None = none_there market_rules (market_rules.refused m q) fine.0 in
      let clean = faultless m q (fault q) none in
      by_test (is_skipped wanted q)
      (λ skip.
      let out = sym (faultless_skips wanted q clean) ∙ skip in
      let gone : kept wanted (x ∷ xs) ≡ kept wanted xs = ap (λ b. cond (not b) (x ∷ kept wanted xs) (kept wanted xs)) out in
      let effect_is = effect_skipped wanted n q skip in
      let rest = along (effect m x) n F k fine.1 (subst (FollowsFrom n) gone follows) in (
        one_further R n q F k (refused_skipped wanted n q skip) (subst (λ j. k + 1 ≤ first_bad R j F) (sym effect_is) rest.0),
        ap (λ j. after R j (take k F)) effect_is ∙ rest.1 ∙ ap (runs.after n) (sym gone),
      ))
      (λ stays.
      let in_set = sym (faultless_skips wanted q clean) ∙ stays in
      let more : kept wanted (x ∷ xs) ≡ x ∷ kept wanted xs = ap (λ b. cond (not b) (x ∷ kept wanted xs) (kept wanted xs)) in_set in
      let both = subst (FollowsFrom n) more follows in
      let effect_is = effect_here wanted n q stays in
      let refuses : R.refused n q ≡ None = refused_here wanted n q stays ∙ ap (λ f. refused_by f n q) clean ∙ ap (option_map cause.Rule) both.0 in
      let rest = along (effect m x) (effect n x) F k fine.1 both.1 in (
        one_further R n q F k refuses (subst (λ j. k + 1 ≤ first_bad R j F) (sym effect_is) rest.0),
        ap (λ j. after R j (take k F)) effect_is ∙ rest.1 ∙ ap (runs.after n) (sym more),
      ))

  -- no rule refuses more messages, and the market is the complete one, restricted
  pub restricted : (feed : List (List ℕ)) (k : ℕ) → AllByRecursion AreBytes feed → k < bad market_rules feed
      → (k < bad R feed) × (run R (take k feed) ≡ only wanted (run market_rules (take k feed)))
  restricted feed k bytes low =
      let l = led empty feed k bytes (omega arith) in
      let ms = map message_of (take k feed) in
      let here = along empty empty feed k (omega arith) (kept_follows wanted ms l.fit l.follows) in
      (omega (arith, here.0), here.1 ∙ kept_leaves wanted ms l.fit l.follows ∙ ap (only wanted) (sym l.left))
