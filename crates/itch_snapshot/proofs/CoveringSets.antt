-- A market is determined by its parts.
use Rattle.std.proofs.Common.{◌≡◌, ℕ, ◌<◌, ◌≤◌, ◌==◌, ◌&&◌, ◌||◌, nat_lt, Bool, true, false, List, [], ◌∷◌, map, Option, Some, None, refl, sym, ap, ◌∙◌, arith}
use Rattle.std.specs.Prelude.{◌↔◌}
use Rattle.std.specs.List.{AllByRecursion, list_any}
use Rattle.std.specs.FinMap as finite
use Rattle.std.proofs.lemmas.Bool.Decides.{nat_tests}
use Rattle.itch_codec.specs.Messages.{spelling}
use Rattle.itch_codec.specs.declared.orders.Side.{Side}
use Rattle.itch_book.specs.declared.order.Order.{Order}
use Rattle.itch_book.specs.Orders as book
use Rattle.itch_book.specs.StableLists.{in_order}
use Rattle.itch_book.proofs.Lists.{by_test, filter_none}
use Rattle.itch_frame.specs.Blocks.{blocks}
use Rattle.itch_market.specs.Content.{Content, Listing}
use Rattle.itch_market.specs.GoodMarkets.{IsGood}
use Rattle.itch_market.specs.Partial.{kept, only}
use Rattle.itch_market.specs.SameMarkets.{Same}
use Rattle.itch_market.specs.Widths.{IsMaybe, IsSecurity}
use Rattle.itch_market.proofs.Maps.{same_map}
use Rattle.itch_market.proofs.Partials.{get_here, only_good}
use Rattle.itch_snapshot.specs.Bytes.{canon}
use Rattle.itch_snapshot.specs.Covers.{Covers, HaveSameParts}
use Rattle.itch_snapshot.proofs.PartialSnapshots.{queue_kept, snap_only}
use Rattle.itch_snapshot.proofs.OneSnapshot.{snap_same}
use Rattle.itch_snapshot.proofs.CanonicalBytes.{same_canon}

-- the parts of the same markets have the same bytes
part_same : (wanted : ℕ → Bool) (m n : Content) → Same m n → canon (only wanted m) ≡ canon (only wanted n)
part_same wanted m n same = ap (λ ms. blocks (map spelling ms)) (snap_only wanted m ∙ ap (kept wanted) (snap_same m n same) ∙ sym (snap_only wanted n))

parts_same : (sets : List (ℕ → Bool)) (m n : Content) → Same m n → HaveSameParts sets m n
parts_same [] m n same = tt
parts_same (wanted ∷ sets) m n same = (part_same wanted m n same, parts_same sets m n same)

-- a set with this locate, and the markets restricted to it
record PartWith (m n : Content) (locate : ℕ) : Type 0 where
  wanted : ℕ → Bool
  there : wanted locate ≡ true
  same : Same (only wanted m) (only wanted n)

part_with : (sets : List (ℕ → Bool)) (m n : Content) (locate : ℕ) → IsGood m → IsGood n → list_any (λ wanted. wanted locate) sets ≡ true → HaveSameParts sets m n → PartWith m n locate
part_with [] m n locate good fine some parts = cc
part_with (wanted ∷ sets) m n locate good fine some parts =
    by_test (wanted locate)
    (λ there. record { wanted = wanted; there = there; same = same_canon (only wanted m) (only wanted n) (only_good wanted m good) (only_good wanted n fine) parts.0 })
    (λ out. part_with sets m n locate good fine (sym (ap (λ b. b || list_any (λ wanted. wanted locate) sets) out) ∙ some) parts.1)

-- no locate above 65,535 is in a directory, or has a queue
none_high : (m : Content) (locate : ℕ) → IsGood m → 65536 ≤ locate → finite.get m.securities locate ≡ None
none_high m locate good high = by_found (finite.get m.securities locate) (good.securities locate) where
  by_found : (o : Option Listing) → IsMaybe (λ s. (locate < 65536) × IsSecurity s) o → o ≡ None
  by_found None fits = refl
  by_found (Some s) fits = absurd (omega (arith, high, fits.0))

elsewhere : (locate : ℕ) (side : Side) (os : List Order) → 65536 ≤ locate → AllByRecursion book.IsLive os → AllByRecursion (λ x. book.is_of locate side x ≡ false) os
elsewhere locate side [] high live = tt
elsewhere locate side (x ∷ xs) high live =
    let fits = live.0.1 in
    let low : x.locate < 65536 = grind (arith, nat_tests) in
    let off : (x.locate == locate) ≡ false = grind (arith, nat_tests) in
    (ap (λ b. b && book.same_side x.side side) off, elsewhere locate side xs high live.1)

no_queue : (m : Content) (locate : ℕ) (side : Side) → IsGood m → 65536 ≤ locate → book.queue m.orders locate side ≡ []
no_queue m locate side good high =
    ap (in_order (λ x y. book.is_better side x.price y.price)) (filter_none (book.is_of locate side) m.orders (elsewhere locate side m.orders high good.live))

module _ (sets : List (ℕ → Bool)) (m n : Content) (covers : Covers sets) (good : IsGood m) (fine : IsGood n) (parts : HaveSameParts sets m n) where
  part : (locate : ℕ) → locate < 65536 → PartWith m n locate
  part locate low = part_with sets m n locate good fine (covers locate low) parts

  high : (locate : ℕ) → nat_lt locate 65536 ≡ false → 65536 ≤ locate
  high locate test = grind (arith, nat_tests)

  low : (locate : ℕ) → nat_lt locate 65536 ≡ true → locate < 65536
  low locate test = grind (arith, nat_tests)

  listing : (locate : ℕ) → finite.get m.securities locate ≡ finite.get n.securities locate
  listing locate =
      by_test (nat_lt locate 65536)
      (λ yes.
      let p = part locate (low locate yes) in
      sym (get_here p.wanted m.securities locate p.there) ∙ ap (λ s. finite.get s locate) p.same.securities ∙ get_here p.wanted n.securities locate p.there)
      (λ no. none_high m locate good (high locate no) ∙ sym (none_high n locate fine (high locate no)))

  queue : (locate : ℕ) (side : Side) → book.queue m.orders locate side ≡ book.queue n.orders locate side
  queue locate side =
      by_test (nat_lt locate 65536)
      (λ yes.
      let p = part locate (low locate yes) in
      sym (queue_kept p.wanted m.orders locate side p.there) ∙ p.same.queues locate side ∙ queue_kept p.wanted n.orders locate side p.there)
      (λ no. no_queue m locate side good (high locate no) ∙ sym (no_queue n locate side fine (high locate no)))

  same_whole : Same m n
  same_whole = record {
    event = (part 0 (omega arith)).same.event;
    securities = same_map m.securities n.securities listing;
    queues = queue;
  }

pub parts_determine : (sets : List (ℕ → Bool)) (m n : Content) → Covers sets → IsGood m → IsGood n → Same m n ↔ HaveSameParts sets m n
parts_determine sets m n covers good fine = (parts_same sets m n, same_whole sets m n covers good fine)
