-- Messages of a day that a market takes one after another are applied to it.
use Rattle.std.proofs.Common.{◌≡◌, ℕ, ◌+◌, List, [], ◌∷◌, map, zero, suc, None, ◌∙◌, arith}
use Rattle.std.specs.List.{AllByRecursion}
use Rattle.itch_codec.specs.Messages.{message_of}
use Rattle.itch_day.specs.Sinks.{TakesAll}
use Rattle.itch_market.specs.Content.{Content, laid}
use Rattle.itch_market.specs.Effects.{effect}
use Rattle.itch_market.specs.GoodMarkets.{IsGood}
use Rattle.itch_market.specs.Runs.{after}
use Rattle.itch_market.specs.Stops.{cause}
use Rattle.itch_market.specs.Replays.{Fits, NoCause}
use Rattle.itch_market.specs.Takings.{TakesMessage}
use Rattle.itch_market.proofs.ReplayProgress.{taken_on}

-- these payloads were applied to a market, with this result
pub record AreApplied (m : Content) (ps : List (List ℕ)) (n : Content) : Type 0 where
  pub none : NoCause m ps
  pub fits : AllByRecursion Fits ps
  pub left : n ≡ laid (after m (map message_of ps))
  pub good : IsGood (after m (map message_of ps))

-- no payload has a cause if the first one has none, and none after it
pub none_first : (m : Content) (p : List ℕ) (ps : List (List ℕ)) → cause m p ≡ None → NoCause (effect m (message_of p)) ps → NoCause m (p ∷ ps)
none_first m p ps clean none zero within = clean
none_first m p ps clean none (suc k) within = none k (omega arith)

-- payloads that a market takes are applied
pub are_applied : (m n k : Content) (count : ℕ) (ps : List (List ℕ)) → IsGood m → n ≡ laid m → TakesAll TakesMessage n count ps k → AreApplied m ps k
are_applied m n k count [] good same takes = record { none = λ j within. absurd (omega arith); fits = tt; left = takes ∙ same; good = good }
are_applied m n k count (p ∷ ps) good same (next, (clean, fits, took), rest) =
    let (none, left, still) = taken_on m n next p good same clean fits took in
    let later = are_applied (effect m (message_of p)) next k (count + 1) ps still left rest in
    record { none = none_first m p ps none later.none; fits = (fits, later.fits); left = later.left; good = later.good }
