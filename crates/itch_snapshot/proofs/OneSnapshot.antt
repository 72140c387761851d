-- Replaying a snapshot gives its market, and two markets are the same if and only if they have the same snapshot list.
use Rattle.std.proofs.Common.{◌≡◌, ℕ, List, [], ◌∷◌, ◌++◌, flat_map, refl, sym, ap, ap₂, ◌∙◌, subst}
use Rattle.std.specs.FinMap as finite
use Rattle.itch_codec.specs.declared.orders.Side.{Side}
use Rattle.itch_codec.specs.declared.orders.Side.TheVariants.{Buy, Sell}
use Rattle.itch_book.specs.declared.order.Order.{Order}
use Rattle.itch_book.specs.Orders as book
use Rattle.itch_market.specs.Content.{Content, laid, Listing}
use Rattle.itch_market.specs.GoodMarkets.{IsGood}
use Rattle.itch_market.specs.Runs.{run, Follows}
use Rattle.itch_market.specs.SameMarkets.{Same}
use Rattle.itch_market.proofs.SameMarkets.{laid_is_same, same_laid}
use Rattle.itch_snapshot.specs.Snapshot.{snap, event_part, locate_messages, locate_part}
use Rattle.itch_snapshot.proofs.SnapshotReplays.{snap_leads}

pub snap_follows : (m : Content) → IsGood m → Follows (snap m)
snap_follows m good = (snap_leads m good).follows

pub run-snap : (m : Content) → IsGood m → run (snap m) ≡ laid m
run-snap m good = (snap_leads m good).leaves

pub replayed_same : (m : Content) → IsGood m → Same (run (snap m)) m
replayed_same m good = subst (λ n. Same n m) (sym (run-snap m good)) (laid_is_same m good)

-- orders with equal queues have the same part for each locate
parts_same : (xs ys : List Order) → ((locate : ℕ) (side : Side) → book.queue xs locate side ≡ book.queue ys locate side) → (es : List (ℕ × Listing))
    → flat_map (locate_part xs) es ≡ flat_map (locate_part ys) es
parts_same xs ys same [] = refl
parts_same xs ys same (e ∷ es) = ap₂ ◌++◌ (ap (locate_messages e) (ap₂ ◌++◌ (same e.0 Buy) (same e.0 Sell))) (parts_same xs ys same es)

pub snap_same : (m n : Content) → Same m n → snap m ≡ snap n
snap_same m n same =
    ap₂ ◌++◌ (ap event_part same.event)
    (ap (λ securities. flat_map (locate_part m.orders) (finite.entries securities)) same.securities ∙ parts_same m.orders n.orders same.queues (finite.entries n.securities))

-- a market has the same snapshot list for any order of its orders
pub snap-laid : (m : Content) → IsGood m → snap (laid m) ≡ snap m
snap-laid m good = snap_same (laid m) m (laid_is_same m good)

pub same_snap : (m n : Content) → IsGood m → IsGood n → snap m ≡ snap n → Same m n
same_snap m n good fine e = same_laid m n good fine (sym (run-snap m good) ∙ ap run e ∙ run-snap n fine)
