-- The effect of messages on markets, as a joiner uses it, and the market after a feed.
use Rattle.std.specs.Prelude.{◌≡◌, ℕ, ◌+◌, Bool, false, List, [], ◌∷◌, Option, Some, None, is_some, length, option_map, if◌then◌else◌}
use Rattle.itch_codec.specs.declared.fault.CodecFault.{CodecFault}
use Rattle.itch_codec.specs.Messages.{fault, message_of}
use Rattle.itch_codec.specs.Fields.{AreBytes}
use Rattle.itch_market.specs.Content.{Content, empty}
use Rattle.itch_market.specs.Reasons.{reason}
use Rattle.itch_market.specs.Effects as market
use Rattle.itch_market.specs.GoodMarkets.{IsGood}
use Rattle.itch_market.specs.SameMarkets.{Same}
use Rattle.itch_snapshot.specs.TakenMessages.{closing_number, is_skipped}
use Rattle.itch_join.specs.declared.fault.Cause.{Cause}
use Rattle.itch_join.specs.declared.fault.Cause.TheVariants as cause

-- the effect of the messages of payloads on markets
pub record Rules : Type 0 where
  -- the fault of a payload, or the reason of its message in a market
  pub refused : Content → List ℕ → Option Cause
  -- the effect of its message, if it is not refused
  pub effect : Content → List ℕ → Content
  -- whether its message takes memory
  pub takes_memory : Content → List ℕ → Bool
  -- the number in it, if it is End of Snapshot
  pub end_number : List ℕ → Option ℕ

-- Markets that are the same refuse the same messages for the same causes, and remain the same. A good market remains good.
pub record AreLawful (R : Rules) : Type 0 where
  pub refused_same : (m n : Content) (p : List ℕ) → IsGood m → IsGood n → Same m n → R.refused m p ≡ R.refused n p
  pub effect_same : (m n : Content) (p : List ℕ) → IsGood m → IsGood n → AreBytes p → Same m n → R.refused m p ≡ None → Same (R.effect m p) (R.effect n p)
  pub effect_good : (m : Content) (p : List ℕ) → IsGood m → AreBytes p → R.refused m p ≡ None → IsGood (R.effect m p)

-- the market after these payloads
abbrev pub after : Rules → Content → List (List ℕ) → Content
after R m [] = m
after R m (p ∷ ps) = after R (R.effect m p) ps

-- the market after these payloads, from the empty one
abbrev pub run : Rules → List (List ℕ) → Content
run R ps = after R empty ps

-- the first position, from 1, at which a payload is refused, or the position after the last
abbrev pub first_bad : Rules → Content → List (List ℕ) → ℕ
first_bad R m [] = 1
first_bad R m (p ∷ ps) = if is_some (R.refused m p) then 1 else first_bad R (R.effect m p) ps + 1

abbrev pub bad : Rules → List (List ℕ) → ℕ
bad R feed = first_bad R empty feed

-- no message of the feed is refused
abbrev pub IsLawfulFeed : Rules → List (List ℕ) → Type 0
IsLawfulFeed R feed = bad R feed ≡ length feed + 1

-- the rules of markets -----------------------------------------------------

-- the reason why a payload is refused: its fault, or the reason of its message
abbrev pub refused_by : Option CodecFault → Content → List ℕ → Option Cause
refused_by (Some f) m p = Some (cause.Codec f)
refused_by None m p = option_map cause.Rule (reason m (message_of p))

abbrev pub market_rules : Rules
market_rules = record {
  refused = λ m p. refused_by (fault p) m p;
  effect = λ m p. market.effect m (message_of p);
  takes_memory = λ m p. market.takes_memory m (message_of p);
  end_number = closing_number;
}

-- the rules if only some locates are wanted: a message that is skipped must be valid, but it has no reason and no effect
abbrev pub rules_of : (ℕ → Bool) → Rules
rules_of wanted = record {
  refused = λ m p. if is_skipped wanted p then None else market_rules.refused m p;
  effect = λ m p. if is_skipped wanted p then m else market_rules.effect m p;
  takes_memory = λ m p. if is_skipped wanted p then false else market_rules.takes_memory m p;
  end_number = closing_number;
}
