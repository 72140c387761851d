-- A market that is tracked: the change of a message, and changes with the same effect.
use Rattle.std.proofs.Common.{◌≡◌, ℕ, ◌+◌, ◌<◌, ◌≤◌, ◌⊎◌, List, [], ◌∷◌, length, Option, None, inl, inr, refl, sym, ap, subst, ◌∙◌, ◌↔◌, arith}
use Rattle.itch_codec.specs.Messages.{message_of}
use Rattle.itch_codec.specs.Widths.{IsMessage}
use Rattle.itch_codec.specs.declared.message.Message.{Message}
use Rattle.itch_frame.specs.Reading.{Reading}
use Rattle.itch_frame.specs.declared.fault.FrameFault.TheVariants.{Read, Truncated, Write, TooLong}
use Rattle.itch_frame.specs.declared.tally.Failures.{Failures}
use Rattle.itch_day.specs.Limits.{IsWithin}
use Rattle.itch_day.specs.Parts.{ReadsPart, StopsAt}
use Rattle.itch_day.specs.Sinks.{TakesAll}
use Rattle.itch_day.specs.declared.limit.Limit.{Limit}
use Rattle.itch_day.specs.declared.stop.PartStop.{PartStop as Part}
use Rattle.itch_day.specs.declared.stop.PartStop.TheVariants as part
use Rattle.itch_market.specs.Content.{Content, laid}
use Rattle.itch_market.specs.Effects.{effect}
use Rattle.itch_market.specs.GoodMarkets.{IsGood}
use Rattle.itch_market.specs.Plain.{nothing, plain}
use Rattle.itch_market.specs.Reasons.{reason}
use Rattle.itch_market.specs.SameMarkets.{Same}
use Rattle.itch_day.specs.Passing.{IsLeft}
use Rattle.itch_market.specs.Takings.{RefusesMessage, TakesMessage}
use Rattle.itch_market.specs.declared.refused.Refused.{Refused}
use Rattle.itch_market.proofs.Causes.{no_reason}
use Rattle.itch_market.proofs.GoodMarkets.{effect_good}
use Rattle.itch_day.proofs.PassedBlocks.{stop_held}
use Rattle.itch_market.proofs.PlainMessages.{plain_effect, plain_same}
use Rattle.itch_market.proofs.SameMarkets.{laid_is_same, same_back, same_chain}
use Rattle.itch_commands.specs.FirstDifferences.{limited_to}

-- the change of a step: none, or the effect of a message that is not refused
abbrev pub Changed : Content → Message → Content → Type 0
Changed m change n =
    ((change ≡ nothing) × (n ≡ m))
    ⊎ ((message : Message) × IsMessage message × (reason m message ≡ None) × (change ≡ plain m message) × (n ≡ laid (effect m message)))

module _ {T : Type 0} (market : T → Content) (change : T → Message) where
  -- a sink that notes the change of a message in its market
  abbrev pub Tracks : T → ℕ → List ℕ → T → Type 0
  Tracks s number payload t = TakesMessage (market s) number payload (market t) × (change t ≡ plain (market s) (message_of payload))

  abbrev pub Denies : T → ℕ → List ℕ → Refused → T → Type 0
  Denies s number payload why t = RefusesMessage (market s) number payload why (market t)

  market_all : (s t : T) (count : ℕ) (ps : List (List ℕ)) → TakesAll Tracks s count ps t → TakesAll TakesMessage (market s) count ps (market t)
  market_all s t count [] same = ap market same
  market_all s t count (p ∷ ps) (mid, (took, plainest), rest) = (market mid, took, market_all mid t (count + 1) ps rest)

  module _ {R : Type 0} (remaining : R → Option (List ℕ)) (failures : R → Failures) (limit : Limit) where
    market_stop : (count : ℕ) (r : Reading R) (s t : T) (stop : Part Refused) → StopsAt remaining Denies limit count r s stop t → StopsAt remaining RefusesMessage limit count r (market s) stop (market t)
    market_stop count r s t part.Full (same, all) = (ap market same, all)
    market_stop count r s t part.Late (same, before, late) = (ap market same, before, late)
    market_stop count r s t part.End (same, before, end) = (ap market same, before, end)
    market_stop count r s t (part.Frame (Truncated held)) (same, before, cut, is_held, open_end) = (ap market same, before, cut, is_held, open_end)
    market_stop count r s t (part.Frame (Read error)) (same, before, going) = (ap market same, before, going)
    market_stop count r s t (part.Frame (Write sent error)) never = absurd never
    market_stop count r s t (part.Frame TooLong) never = absurd never
    market_stop count r s t part.TooMany (same, before, many) = (ap market same, before, many)
    market_stop count r s t (part.Refused why) (before, (p, next, full, room, early, denies)) = (before, (p, next, full, room, early, denies))

    -- reading a part has the same effect on it as on the market
    pub market_part : (old new : Reading R) (before count : ℕ) (s t : T) (stop : Part Refused) → ReadsPart remaining failures Tracks Denies limit old new before count s stop t
        → ReadsPart remaining failures TakesMessage RefusesMessage limit old new before count (market s) stop (market t)
    market_part old new before count s t stop reads =
        let taken = reads.taken in
        record {
          payloads = reads.payloads;
          last = market reads.last;
          taken = record {
            bytes = taken.bytes;
            full = taken.full;
            early = taken.early;
            wanted = taken.wanted;
            taken = market_all s reads.last before reads.payloads taken.taken;
            counted = taken.counted;
          };
          stops = market_stop count new reads.last t stop reads.stops;
          leaves = reads.leaves;
          counts = reads.counts;
        }

    -- the block held when it stops is the one that was not taken
    pub tracked_held : (old new : Reading R) (before count : ℕ) (s t : T) (stop : Part Refused) → ReadsPart remaining failures Tracks Denies limit old new before count s stop t → IsLeft stop new
    tracked_held old new before count s t stop reads = stop_held remaining Denies limit new count reads.last t stop reads.stops

    -- one message was taken, and this is its change
    pub one_changed : (old new : Reading R) (count total : ℕ) (s t : T) → ReadsPart remaining failures Tracks Denies (limited_to (count + 1) limit) old new count total s part.Full t
        → Changed (market s) (change t) (market t)
    one_changed old new count total s t reads = one reads.payloads reads.taken.taken reads.taken.counted reads.taken.wanted reads.stops where
      one : (ps : List (List ℕ)) → TakesAll Tracks s count ps reads.last → total ≡ count + length ps → (0 < length ps → IsWithin (limited_to (count + 1) limit) total)
          → StopsAt remaining Denies (limited_to (count + 1) limit) total new reads.last part.Full t → Changed (market s) (change t) (market t)
      one [] takes counted wanted (same, (most, is, all)) = let more : most ≡ count + 1 = cc in absurd (omega (arith, counted, all, more))
      one (p ∷ []) (mid, ((clean, fits, next), plainest), last) counted wanted (same, all) =
          subst (λ x. Changed (market s) (change x) (market x)) (sym (same ∙ last)) (inr (message_of p, fits, no_reason (market s) p clean, plainest, next))
      one (p ∷ q ∷ ps) takes counted wanted stops = let few : total ≤ count + 1 = wanted (omega arith) in absurd (omega (arith, counted, few))

pub same_self : (m : Content) → Same m m
same_self m = record { event = refl; securities = refl; queues = λ locate side. refl }

-- markets with their orders in snapshot order are the same if and only if they are
pub laid_alike : (a b m n : Content) → IsGood a → IsGood b → m ≡ laid a → n ≡ laid b → Same m n ↔ Same a b
laid_alike a b m n good fine left right = (
  λ same. same_chain a (laid a) b (same_back (laid a) a (laid_is_same a good))
      (same_chain (laid a) (laid b) b (subst (λ y. Same (laid a) y) right (subst (λ x. Same x n) left same)) (laid_is_same b fine)),
  λ same. subst (λ y. Same m y) (sym right) (subst (λ x. Same x (laid b)) (sym left)
      (same_chain (laid a) a (laid b) (laid_is_same a good) (same_chain a b (laid b) same (same_back (laid b) b (laid_is_same b fine))))),
)

nothing_does : (m : Content) → effect m nothing ≡ m
nothing_does m = refl

-- a message whose plainest one changes nothing leaves the market unchanged
none_changed : (m n : Content) (message : Message) → IsGood m → plain m message ≡ nothing → n ≡ laid (effect m message) → Same m n
none_changed m n message good plainest next =
    let still : effect m message ≡ m = sym (plain_effect m message good) ∙ ap (effect m) plainest ∙ nothing_does m in
    subst (Same m) (sym (next ∙ ap laid still)) (same_back (laid m) m (laid_is_same m good))

-- so changes with the same effect leave markets the same that were the same
pub alike_same : (m n x y : Content) (change also : Message) → IsGood m → IsGood n → Same m n → Changed m change x → Changed n also y → change ≡ also → Same x y
alike_same m n x y change also good fine same (inl (none, still)) (inl (nor, stays)) alike = subst (λ k. Same k y) (sym still) (subst (Same m) (sym stays) same)
alike_same m n x y change also good fine same (inr (message, fits, clean, plainest, next)) (inl (nor, stays)) alike =
    subst (Same x) (sym stays) (same_chain x m n (same_back m x (none_changed m x message good (sym plainest ∙ alike ∙ nor) next)) same)
alike_same m n x y change also good fine same (inl (none, still)) (inr (another, fit, free, plainer, following)) alike =
    subst (λ k. Same k y) (sym still) (same_chain m n y same (none_changed n y another fine (sym plainer ∙ sym alike ∙ none) following))
alike_same m n x y change also good fine same (inr (message, fits, clean, plainest, next)) (inr (another, fit, free, plainer, following)) alike =
    (laid_alike (effect m message) (effect n another) x y (effect_good m message good fits clean) (effect_good n another fine fit free) next following).1
    (plain_same m n message another good fine same fits clean (sym plainest ∙ alike ∙ plainer))
