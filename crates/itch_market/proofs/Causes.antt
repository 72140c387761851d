-- The reason why a payload is not taken: in a laid market, and after other payloads.
use Rattle.std.proofs.Common.{◌≡◌, ℕ, ◌<◌, zero, suc, Bool, List, [], ◌∷◌, ◌++◌, map, length, Option, None, Some, refl, ap, subst, ◌∙◌, inl, inr, arith, length-append}
use Rattle.std.specs.Option.{option_map}
use Rattle.std.specs.List.{AllByRecursion}
use Rattle.std.proofs.lemmas.Bool.{cases_lt}
use Rattle.itch_codec.specs.declared.fault.CodecFault.{CodecFault}
use Rattle.itch_codec.specs.Messages.{fault, message_of}
use Rattle.itch_frame.specs.declared.fault.FrameFault.TheVariants.{Read, Truncated, Write, TooLong}
use Rattle.itch_market.specs.declared.refusal.Refusal.{Refusal}
use Rattle.itch_market.specs.declared.stop.Stop.{Stop}
use Rattle.itch_market.specs.declared.stop.Stop.TheVariants.{End, Frame, Codec, Rule, TooManyMessages}
use Rattle.itch_market.specs.Content.{Content, laid}
use Rattle.itch_market.specs.Reasons.{reason}
use Rattle.itch_market.specs.Effects.{effect, takes_memory}
use Rattle.itch_market.specs.GoodMarkets.{IsGood}
use Rattle.itch_market.specs.Runs.{after, FollowsFrom}
use Rattle.itch_market.specs.Stops.{cause_by, cause, cause_at}
use Rattle.itch_market.specs.Replays.{NoCause, IsRefusal, Refuses, Halts}
use Rattle.itch_market.proofs.LaidMarkets.{reason-laid, takes_memory-laid}

-- a laid market has the same reason for a payload
pub cause-laid : (m : Content) (p : List ℕ) → IsGood m → cause (laid m) p ≡ cause m p
cause-laid m p good = by_fault (fault p) where
  by_fault : (f : Option CodecFault) → cause_by f (laid m) p ≡ cause_by f m p
  by_fault (Some f) = refl
  by_fault None = ap (option_map Rule) (reason-laid m (message_of p) good)

pub refuses-laid : (m : Content) (p : List ℕ) (why : Refusal) → IsGood m → Refuses (laid m) p why → Refuses m p why
refuses-laid m p why good (clean, refusal) = (
  clean,
  subst (λ takes. IsRefusal (reason m (message_of p)) takes why) (takes_memory-laid m (message_of p))
      (subst (λ r. IsRefusal r (takes_memory (laid m) (message_of p)) why) (reason-laid m (message_of p) good) refusal),
)

pub halts-laid : (full : Bool) (m : Content) (old new : Option (List ℕ)) (stop : Stop) → IsGood m → Halts full (laid m) old new stop → Halts full m old new stop
halts-laid full m old new End good h = h
halts-laid full m old new (Frame (Truncated held)) good h = h
halts-laid full m old new (Frame (Read error)) good h = h
halts-laid full m old new (Frame (Write sent error)) good h = h
halts-laid full m old new (Frame TooLong) good h = h
halts-laid full m old new (Codec f) good h = h
halts-laid full m old new (Rule why) good (p, off, some, refuses) = (p, off, some, refuses-laid m p why good refuses)
halts-laid full m old new TooManyMessages good h = h

-- a payload that is taken has no fault and no reason
pub no_fault : (m : Content) (p : List ℕ) → cause m p ≡ None → fault p ≡ None
no_fault m p none = by_fault (fault p) none where
  by_fault : (f : Option CodecFault) → cause_by f m p ≡ None → f ≡ None
  by_fault (Some f) some = cc
  by_fault None none = refl

pub no_reason : (m : Content) (p : List ℕ) → cause m p ≡ None → reason m (message_of p) ≡ None
no_reason m p none = by_reason (reason m (message_of p)) (subst (λ f. cause_by f m p ≡ None) (no_fault m p none) none) where
  by_reason : (r : Option Refusal) → option_map Rule r ≡ None → r ≡ None
  by_reason (Some r) some = cc
  by_reason None none = refl

-- the payload after others is checked in the market after those
pub cause_after : (m : Content) (ps : List (List ℕ)) (p : List ℕ) (qs : List (List ℕ)) → cause_at m (ps ++ p ∷ qs) (length ps) ≡ cause (after m (map message_of ps)) p
cause_after m [] p qs = refl
cause_after m (q ∷ ps) p qs = cause_after (effect m (message_of q)) ps p qs

-- the payloads after it do not matter
pub cause_before : (m : Content) (ps qs : List (List ℕ)) (k : ℕ) → k < length ps → cause_at m (ps ++ qs) k ≡ cause_at m ps k
cause_before m [] qs k within = absurd (omega arith)
cause_before m (p ∷ ps) qs zero within = refl
cause_before m (p ∷ ps) qs (suc k) within = cause_before (effect m (message_of p)) ps qs k (omega arith)

-- one more payload that is taken
pub none_more : (m : Content) (ps : List (List ℕ)) (p : List ℕ) → NoCause m ps → cause (after m (map message_of ps)) p ≡ None → NoCause m (ps ++ p ∷ [])
none_more m ps p none clean k within =
    elim (cases_lt k (length ps)) [
      | inl before ↦ cause_before m ps (p ∷ []) k before ∙ none k before
      | inr following ↦ let last : k ≡ length ps = omega (arith, length-append ps (p ∷ [])) in ap (cause_at m (ps ++ p ∷ [])) last ∙ cause_after m ps p [] ∙ clean
    ]

-- the market after one more message
pub after_more : (m : Content) (ps : List (List ℕ)) (p : List ℕ) → after m (map message_of (ps ++ p ∷ [])) ≡ effect (after m (map message_of ps)) (message_of p)
after_more m [] p = refl
after_more m (q ∷ ps) p = after_more (effect m (message_of q)) ps p

-- messages of payloads that are all taken follow the order rules
pub none_follows : (m : Content) (ps : List (List ℕ)) → NoCause m ps → FollowsFrom m (map message_of ps)
none_follows m [] none = tt
none_follows m (p ∷ ps) none =
    (no_reason m p (none 0 (omega arith)), none_follows (effect m (message_of p)) ps (λ k within. none (suc k) (omega arith)))

-- and have no fault
pub none_clean : (m : Content) (ps : List (List ℕ)) → NoCause m ps → AllByRecursion (λ payload. fault payload ≡ None) ps
none_clean m [] none = tt
none_clean m (p ∷ ps) none = (no_fault m p (none 0 (omega arith)), none_clean (effect m (message_of p)) ps (λ k within. none (suc k) (omega arith)))

-- payloads without a fault, whose messages follow the order rules, are all taken
pub follows_none : (m : Content) (ps : List (List ℕ)) → AllByRecursion (λ payload. fault payload ≡ None) ps → FollowsFrom m (map message_of ps) → NoCause m ps
follows_none m [] clean follows k within = absurd (omega arith)
follows_none m (p ∷ ps) clean follows zero within = ap (λ f. cause_by f m p) clean.0 ∙ ap (option_map Rule) follows.0
follows_none m (p ∷ ps) clean follows (suc k) within = follows_none (effect m (message_of p)) ps clean.1 follows.1 k (omega arith)
