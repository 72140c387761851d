-- The progress of a replay, and one more block.
use Rattle.std.proofs.Common.{◌≡◌, ℕ, ◌+◌, ◌-◌, ◌^◌, ◌≤◌, ◌<◌, ◌==◌, false, List, [], ◌∷◌, ◌++◌, map, length, Option, None, Ok, refl, sym, ap, subst, ◌∙◌, arith, length-append}
use Rattle.std.proofs.lemmas.Bool.Decides.{nat_tests}
use Rattle.std.proofs.KnownBytes.{Consumes-nil}
use Rattle.itch_codec.specs.Messages.{message_of}
use Rattle.itch_frame.specs.Blocks.{IsFull}
use Rattle.itch_frame.proofs.BlockLemmas.{consumed_more, each-push}
use Rattle.itch_market.specs.Content.{Content, laid}
use Rattle.itch_market.specs.Effects.{effect}
use Rattle.itch_market.specs.GoodMarkets.{IsGood}
use Rattle.itch_market.specs.Runs.{after}
use Rattle.itch_market.specs.Stops.{cause}
use Rattle.itch_market.specs.Replays.{Fits, Step, Takes}
use Rattle.itch_market.proofs.GoodMarkets.{effect_good}
use Rattle.itch_market.proofs.LaidMarkets.{effect-laid}
use Rattle.itch_market.proofs.Causes.{cause-laid, no_reason, none_more, after_more}

-- some payloads were taken, and the market after them is good
pub record Going (m : Content) (old new : Option (List ℕ)) (count : ℕ) (n : Content) : Type 0 where
  pub payloads : List (List ℕ)
  pub takes : Takes m old new payloads n
  pub good : IsGood (after m (map message_of payloads))
  pub counted : length payloads ≡ count
  pub few : count ≤ 10 ^ 19 - 1

-- none was taken at first
pub going_first : (m : Content) (bytes : Option (List ℕ)) → IsGood m → laid m ≡ m → Going m bytes bytes 0 m
going_first m bytes good in_place = record {
  payloads = [];
  takes = record { bytes = Consumes-nil bytes; full = tt; none = λ k within. absurd (omega arith); fits = tt; left = sym in_place };
  good = good;
  counted = refl;
  few = omega arith;
}

-- a payload taken in a laid market is taken in the market itself, which remains good
pub taken_on : (m n k : Content) (p : List ℕ) → IsGood m → n ≡ laid m → cause n p ≡ None → Fits p → k ≡ laid (effect n (message_of p))
    → (cause m p ≡ None) × (k ≡ laid (effect m (message_of p))) × IsGood (effect m (message_of p))
taken_on m n k p good is clean fits next =
    let took : cause m p ≡ None = sym (cause-laid m p good) ∙ ap (λ x. cause x p) (sym is) ∙ clean in (
      took,
      next ∙ ap (λ x. laid (effect x (message_of p))) is ∙ effect-laid m (message_of p) good,
      effect_good m (message_of p) good fits (no_reason m p took),
    )

-- fewer than the maximum
pub not_full : (count : ℕ) → count ≤ 10 ^ 19 - 1 → (count == 10 ^ 19 - 1) ≡ false → count < 10 ^ 19 - 1
not_full count few room = grind (arith, nat_tests)

-- then one more, unless the maximum is reached
pub going_on : (m : Content) (old mid new : Option (List ℕ)) (count : ℕ) (n k : Content) → Going m old mid count n → Step (count == 10 ^ 19 - 1) n mid new (Ok tt) k → Going m old new (count + 1) k
going_on m old mid new count n k going (p, off, room, (clean, fits, next)) =
    let ps = going.payloads in
    let so_far = after m (map message_of ps) in
    let (taken, after_it, still) = taken_on so_far n k p going.good going.takes.left clean fits next in
    record {
      payloads = ps ++ p ∷ [];
      takes = record {
        bytes = consumed_more old mid new ps p going.takes.bytes off.1;
        full = each-push IsFull ps p going.takes.full off.0;
        none = none_more m ps p going.takes.none taken;
        fits = each-push Fits ps p going.takes.fits fits;
        left = after_it ∙ ap laid (sym (after_more m ps p));
      };
      good = subst IsGood (sym (after_more m ps p)) still;
      counted = length-append ps (p ∷ []) ∙ ap (λ c. c + 1) going.counted;
      few = omega (arith, not_full count going.few room);
    }
