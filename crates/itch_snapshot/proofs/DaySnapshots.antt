-- The snapshots of the markets after the messages of a day.
use Rattle.std.proofs.Common.{◌≡◌, ℕ, ◌-◌, ◌<◌, ◌≤◌, ◌^◌, ◌↔◌, List, map, length, Option, IsNone, IfSome, sym, ap, ◌∙◌, subst, arith}
use Rattle.std.specs.List.{AllByRecursion}
use Rattle.std.proofs.lemmas.List.{length-map}
use Rattle.itch_book.proofs.Lists.{All-map_rec}
use Rattle.itch_codec.specs.Messages.{message_of}
use Rattle.itch_codec.specs.Widths.{IsMessage}
use Rattle.itch_day.specs.declared.limit.Limit.{Limit}
use Rattle.itch_market.specs.Content.{Content, empty, laid}
use Rattle.itch_market.specs.DayMessages.{AreTaken}
use Rattle.itch_market.specs.GoodMarkets.{IsGood}
use Rattle.itch_market.specs.Replays.{Fits, NoCause}
use Rattle.itch_market.specs.Runs.{AreMessages, Follows, run}
use Rattle.itch_market.specs.SameMarkets.{Same}
use Rattle.itch_market.proofs.Causes.{none_follows}
use Rattle.itch_market.proofs.GoodMarkets.{run_good, laid_good}
use Rattle.itch_market.proofs.SameMarkets.{laid_is_same}
use Rattle.itch_snapshot.specs.PartPlaces.{IsPartPlace}
use Rattle.itch_snapshot.specs.Parting.{IsParting}
use Rattle.itch_snapshot.specs.Snapshot.{snap}
use Rattle.itch_snapshot.proofs.OneSnapshot.{snap_same, same_snap, snap-laid}
use Rattle.itch_snapshot.proofs.Sizes.{short_snap}

-- a market after messages from the empty market has no more snapshot messages than those
pub taken_short : (ps : List (List ℕ)) (n : Content) → AllByRecursion Fits ps → NoCause empty ps → n ≡ laid (run (map message_of ps)) → length (snap n) ≤ length ps
taken_short ps n fits none left =
    let ms = map message_of ps in
    let fit : AreMessages ms = All-map_rec IsMessage message_of ps fits in
    let follow : Follows ms = none_follows empty ps none in
    let same : snap n ≡ snap (run ms) = ap snap left ∙ snap_same (laid (run ms)) (run ms) (laid_is_same (run ms) (run_good ms fit follow)) in
    omega (arith, ap length same, short_snap ms fit follow, length-map ps message_of)

-- a market after messages that were taken can be written
pub taken_few : (limit : Limit) (ps : List (List ℕ)) (n : Content) → AllByRecursion Fits ps → AreTaken limit ps → n ≡ laid (run (map message_of ps)) → length (snap n) < 10 ^ 19
taken_few limit ps n fits taken left = omega (arith, taken_short ps n fits taken.taken left, taken.few)

-- the position of the first difference of markets does not depend on the order of their orders
pub parts-laid : (m n one other : Content) (place : Option ℕ) → IsGood m → IsGood n → one ≡ laid m → other ≡ laid n
    → IfSome place (λ k. (0 < k) × IsParting (snap one) (snap other) (k - 1)) → IsNone place ↔ Same one other → IsPartPlace m n place
parts-laid m n one other place good fine left right parting none = record {
  same = (
    λ is. same_snap m n good fine (sym first ∙ snap_same one other (none.0 is) ∙ second),
    λ same. none.1 (same_snap one other (subst IsGood (sym left) (laid_good m good)) (subst IsGood (sym right) (laid_good n fine)) (first ∙ snap_same m n same ∙ sym second)),
  );
  parts = subst (λ xs. IfSome place (λ k. (0 < k) × IsParting xs (snap n) (k - 1))) first
      (subst (λ ys. IfSome place (λ k. (0 < k) × IsParting (snap one) ys (k - 1))) second parting);
} where
  first : snap one ≡ snap m
  first = ap snap left ∙ snap-laid m good

  second : snap other ≡ snap n
  second = ap snap right ∙ snap-laid n fine
