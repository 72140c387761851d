-- The payloads that a joiner has taken of a feed that was read.
use Rattle.std.proofs.Common.{◌≡◌, ℕ, ◌+◌, ◌-◌, ◌<◌, max, nat_le, Bool, true, false, cond, List, [], ◌∷◌, map, length, drop, suc, None, Some, Ok, refl, sym, ap, ◌∙◌, subst, inl, inr, arith}
use Rattle.std.proofs.lemmas.Bool.Decides.{nat_tests}
use Rattle.std.proofs.lemmas.List.{drop_all}
use Rattle.itch_codec.specs.Messages.{message_of}
use Rattle.itch_day.specs.Sinks.{TakesAll}
use Rattle.itch_market.specs.Content.{Content, laid}
use Rattle.itch_market.specs.Effects.{effect}
use Rattle.itch_market.specs.GoodMarkets.{IsGood}
use Rattle.itch_market.specs.Runs.{after}
use Rattle.itch_market.specs.Replays.{NoCause, TakesOne}
use Rattle.itch_market.specs.Stops.{cause}
use Rattle.itch_market.specs.Wanted.{Wanted, has}
use Rattle.itch_market.proofs.AppliedMessages.{none_first}
use Rattle.itch_market.proofs.ReplayProgress.{taken_on}
use Rattle.itch_join.specs.Positions.{Position}
use Rattle.itch_join.specs.Rules.{rules_of}
use Rattle.itch_join.specs.States.{Joining}
use Rattle.itch_join.specs.Takings.{position_of, Passes, TakesNumbered}
use Rattle.itch_snapshot.specs.AsRead.{as_read}
use Rattle.itch_commands.specs.FeedParts.{beyond, mismatch_of}
use Rattle.itch_commands.specs.Joining.{Start, from_number, joined_market, joined_next}
use Rattle.itch_commands.specs.declared.feed_part.FeedPart.{FeedPart}
use Rattle.itch_commands.specs.declared.feed_part.FeedMismatch.TheVariants.{Gap}
use Rattle.itch_commands.proofs.JoinerSteps.{taken_as}

-- a feed that matches a snapshot does not begin after the next message
pub near : (part : FeedPart) (next : ℕ) → mismatch_of part next ≡ None → part.before < next
near part next none = by_test (nat_le next part.before) refl none where
  by_test : (b : Bool) → nat_le next part.before ≡ b → cond b (Some (Gap next part.before)) (beyond part.limit.after (next - 1)) ≡ None → part.before < next
  by_test true test none = absurd (let no_one : ⊥ = cc in no_one)
  by_test false test none = grind (arith, nat_tests)

-- A joiner has taken these payloads, given as they are read, after that many messages of the day, from this start.
pub record AreFed (before : ℕ) (start : Start) (payloads : List (List ℕ)) (j : Position) : Type 0 where
  pub none : NoCause start.0 (from_number before start.1 payloads)
  pub good : IsGood (joined_market before start payloads)
  pub market : j.market ≡ laid (joined_market before start payloads)
  pub next : j.next ≡ joined_next before start payloads

-- a payload below the snapshot's number has no effect
fed_below : (before : ℕ) (m : Content) (next : ℕ) (q : List ℕ) (qs : List (List ℕ)) (j : Position) → before + 1 < next → AreFed (before + 1) (m, next) qs j → AreFed before (m, next) (q ∷ qs) j
fed_below before m next q qs j below fed =
    let one : next - 1 - before ≡ suc (next - 1 - (before + 1)) = omega (arith, below) in
    let same : from_number before next (q ∷ qs) ≡ from_number (before + 1) next qs = ap (λ n. drop n (q ∷ qs)) one in
    let market : joined_market before (m, next) (q ∷ qs) ≡ joined_market (before + 1) (m, next) qs = ap (λ xs. after m (map message_of xs)) same in
    let onto : j.next ≡ max next (before + 1 + length qs + 1) = fed.next in
    record {
      none = subst (NoCause m) (sym same) fed.none;
      good = subst IsGood (sym market) fed.good;
      market = fed.market ∙ ap laid (sym market);
      next = omega (arith, onto, below);
    }

-- the next one is applied
fed_next : (before : ℕ) (m : Content) (next : ℕ) (q : List ℕ) (qs : List (List ℕ)) (j : Position) → next ≡ before + 1 → cause m q ≡ None
    → AreFed (before + 1) (effect m (message_of q), before + 1 + 1) qs j → AreFed before (m, next) (q ∷ qs) j
fed_next before m next q qs j here clean fed =
    let all : next - 1 - before ≡ 0 = omega (arith, here) in
    let rest : before + 1 + 1 - 1 - (before + 1) ≡ 0 = omega arith in
    let same : from_number before next (q ∷ qs) ≡ q ∷ qs = ap (λ n. drop n (q ∷ qs)) all in
    let others : from_number (before + 1) (before + 1 + 1) qs ≡ qs = ap (λ n. drop n qs) rest in
    let market : joined_market before (m, next) (q ∷ qs) ≡ joined_market (before + 1) (effect m (message_of q), before + 1 + 1) qs =
    ap (λ xs. after m (map message_of xs)) same ∙ ap (λ xs. after (effect m (message_of q)) (map message_of xs)) (sym others) in
    let onto : j.next ≡ max (before + 1 + 1) (before + 1 + length qs + 1) = fed.next in
    record {
      none = subst (NoCause m) (sym same) (none_first m q qs clean (subst (NoCause (effect m (message_of q))) others fed.none));
      good = subst IsGood (sym market) fed.good;
      market = fed.market ∙ ap laid (sym market);
      next = omega (arith, onto, here);
    }

module _ (set : Wanted) where
  abbrev read : List ℕ → List ℕ
  read = as_read (has set)

  -- the payloads that a joiner with this set takes, from a position whose market is this one laid out
  pub are_fed : (m : Content) (next before : ℕ) (ps : List (List ℕ)) (j k : Joining) → IsGood m → j.set ≡ set → Position.market (position_of j.state) ≡ laid m
      → Position.next (position_of j.state) ≡ next → before < next → TakesAll TakesNumbered j before ps k → AreFed before (m, next) (map read ps) (position_of k.state) × (k.set ≡ set)
  are_fed m next before [] j k good with_set there at low takes =
      let none : from_number before next [] ≡ [] = drop_all (next - 1 - before) [] (omega arith) in
      let same : joined_market before (m, next) [] ≡ m = ap (λ ps. after m (map message_of ps)) none in
      let here : position_of k.state ≡ position_of j.state = ap (λ (i : Joining). position_of i.state) takes in
      let onto : Position.next (position_of k.state) ≡ next = ap (λ (i : Position). i.next) here ∙ at in (
        record {
          none = subst (NoCause m) (sym none) (λ i within. absurd (omega arith));
          good = subst IsGood (sym same) good;
          market = ap (λ (i : Position). i.market) here ∙ there ∙ ap laid (sym same);
          next = omega (arith, onto, low);
        },
        ap (λ (i : Joining). i.set) takes ∙ with_set,
      )
  are_fed m next before (p ∷ ps) j k good with_set there at low (mid, takes, rest) =
      by_number takes.passes (λ m' next' fine here onto under. are_fed m' next' (before + 1) ps mid k fine (takes.set ∙ with_set) here onto under rest) where
        by_number : Passes (rules_of (has j.set)) (position_of j.state) (before + 1) p (position_of mid.state)
            → ((m' : Content) (next' : ℕ) → IsGood m' → Position.market (position_of mid.state) ≡ laid m' → Position.next (position_of mid.state) ≡ next' → before + 1 < next' → AreFed (before + 1) (m', next') (map read ps) (position_of k.state) × (k.set ≡ set))
            → AreFed before (m, next) (read p ∷ map read ps) (position_of k.state) × (k.set ≡ set)
        by_number (inl (below, same)) later =
            let under : before + 1 < next = omega (arith, below, at) in
            let (fed, kept) = later m next good (ap (λ (i : Position). i.market) same ∙ there) (ap (λ (i : Position). i.next) same ∙ at) under in
            (fed_below before m next (read p) (map read ps) (position_of k.state) under fed, kept)
        by_number (inr (here, applies, onto)) later =
            let took : TakesOne (Position.market (position_of j.state)) (read p) (Ok tt) (Position.market (position_of mid.state)) =
            subst (λ (s : Wanted). TakesOne (Position.market (position_of j.state)) (as_read (has s) p) (Ok tt) (Position.market (position_of mid.state))) with_set
            (subst (TakesOne (Position.market (position_of j.state)) (as_read (has j.set) p) (Ok tt)) (sym applies.1)
            (taken_as (has j.set) (Position.market (position_of j.state)) p takes.bytes applies.0)) in
            let (clean, left, fine) = taken_on m (Position.market (position_of j.state)) (Position.market (position_of mid.state)) (read p) good there took.0 took.1 took.2 in
            let (fed, kept) = later (effect m (message_of (read p))) (before + 1 + 1) fine left onto (omega arith) in
            (fed_next before m next (read p) (map read ps) (position_of k.state) (sym at ∙ here) clean fed, kept)
