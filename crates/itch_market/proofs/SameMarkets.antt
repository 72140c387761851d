-- Markets that are the same, and markets with their orders in snapshot order.
use Rattle.std.proofs.Common.{◌≡◌, ℕ, List, [], ◌∷◌, None, refl, sym, ap, ◌∙◌}
use Rattle.itch_codec.specs.declared.message.Message.{Message}
use Rattle.itch_codec.specs.declared.orders.Side.{Side}
use Rattle.itch_book.specs.Orders as book
use Rattle.itch_book.proofs.Distinct.{live_fit}
use Rattle.itch_book.proofs.OrderLemmas.{queue-lay, lay_same}
use Rattle.itch_market.specs.Content.{Content, laid}
use Rattle.itch_market.specs.Effects.{effect}
use Rattle.itch_market.specs.GoodMarkets.{IsGood}
use Rattle.itch_codec.specs.Widths.{IsMessage}
use Rattle.itch_market.specs.Reasons.{reason}
use Rattle.itch_market.specs.Runs.{AreMessages, after, FollowsFrom}
use Rattle.itch_market.specs.SameMarkets.{Same}
use Rattle.itch_market.proofs.GoodMarkets.{effect_good}
use Rattle.itch_market.proofs.LaidMarkets.{reason-laid, effect-laid}

-- markets that are the same are equal with their orders in snapshot order
pub laid_same : (m n : Content) → Same m n → laid m ≡ laid n
laid_same m n same = λ i. record { event = same.event i; securities = same.securities i; orders = lay_same m.orders n.orders same.queues i }

-- a good market has the queues of its laid market
pub queue-laid : (m : Content) (locate : ℕ) (side : Side) → IsGood m → book.queue (laid m).orders locate side ≡ book.queue m.orders locate side
queue-laid m locate side good = queue-lay m.orders locate side (live_fit m.orders good.live)

pub same_laid : (m n : Content) → IsGood m → IsGood n → laid m ≡ laid n → Same m n
same_laid m n good fine e = record {
  event = ap (λ (c : Content). c.event) e;
  securities = ap (λ (c : Content). c.securities) e;
  queues = λ locate side. sym (queue-laid m locate side good) ∙ ap (λ (c : Content). book.queue c.orders locate side) e ∙ queue-laid n locate side fine;
}

-- a good market is the same as its laid market
pub laid_is_same : (m : Content) → IsGood m → Same (laid m) m
laid_is_same m good = record { event = refl; securities = refl; queues = λ locate side. queue-laid m locate side good }

pub same_back : (m n : Content) → Same m n → Same n m
same_back m n same = record { event = sym same.event; securities = sym same.securities; queues = λ locate side. sym (same.queues locate side) }

pub same_chain : (k m n : Content) → Same k m → Same m n → Same k n
same_chain k m n one two = record {
  event = one.event ∙ two.event;
  securities = one.securities ∙ two.securities;
  queues = λ locate side. one.queues locate side ∙ two.queues locate side;
}

-- markets that are the same refuse the same messages, for the same reason
pub reason_same : (m n : Content) (x : Message) → IsGood m → IsGood n → Same m n → reason m x ≡ reason n x
reason_same m n x good fine same = sym (reason-laid m x good) ∙ ap (λ c. reason c x) (laid_same m n same) ∙ reason-laid n x fine

-- markets that are the same remain so after a message that is not refused
pub effect_same : (m n : Content) (x : Message) → IsGood m → IsGood n → IsMessage x → reason m x ≡ None → Same m n → Same (effect m x) (effect n x)
effect_same m n x good fine fit none same =
    same_laid (effect m x) (effect n x) (effect_good m x good fit none) (effect_good n x fine fit (sym (reason_same m n x good fine same) ∙ none))
    (sym (effect-laid m x good) ∙ ap (λ c. laid (effect c x)) (laid_same m n same) ∙ effect-laid n x fine)

-- messages that follow the order rules from a market on follow them from each market that is the same
pub follows_same : (m n : Content) (ms : List Message) → IsGood m → IsGood n → AreMessages ms → Same m n → FollowsFrom m ms → FollowsFrom n ms
follows_same m n [] good fine fit same follows = tt
follows_same m n (x ∷ xs) good fine fit same follows =
    let none : reason n x ≡ None = sym (reason_same m n x good fine same) ∙ follows.0 in (
      none,
      follows_same (effect m x) (effect n x) xs (effect_good m x good fit.0 follows.0) (effect_good n x fine fit.0 none) fit.1
          (effect_same m n x good fine fit.0 follows.0 same) follows.1,
    )

-- and the markets remain the same
pub after_same : (m n : Content) (ms : List Message) → IsGood m → IsGood n → AreMessages ms → Same m n → FollowsFrom m ms → Same (after m ms) (after n ms)
after_same m n [] good fine fit same follows = same
after_same m n (x ∷ xs) good fine fit same follows =
    let none : reason n x ≡ None = sym (reason_same m n x good fine same) ∙ follows.0 in
    after_same (effect m x) (effect n x) xs (effect_good m x good fit.0 follows.0) (effect_good n x fine fit.0 none) fit.1
    (effect_same m n x good fine fit.0 follows.0 same) follows.1
