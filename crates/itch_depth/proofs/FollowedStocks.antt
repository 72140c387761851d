-- The followed stock in the market of its locates.
use Rattle.std.proofs.Common.{◌≡◌, ℕ, Bool, true, List, [], ◌∷◌, find, Option, None, Some, option_map, refl, sym, ap, ap₂, ◌∙◌}
use Rattle.std.specs.List.{filter}
use Rattle.std.specs.FinMap as finite
use Rattle.itch_codec.specs.declared.orders.Side.TheVariants.{Buy, Sell}
use Rattle.itch_book.specs.declared.order.Order.{Order}
use Rattle.itch_book.proofs.Lists.{by_test, found_passes}
use Rattle.itch_market.specs.Content.{Content, Listing}
use Rattle.itch_commands.specs.Stocks.{is_named}
use Rattle.itch_depth.specs.Changes.{Sides, best, best_at, followed, is_stock, levels}
use Rattle.itch_depth.specs.Following.{wants}
use Rattle.itch_depth.specs.Own.{IsOwn}
use Rattle.itch_depth.specs.declared.changes.request.OneStock.{OneStock}
use Rattle.itch_depth.specs.declared.changes.request.OneStock.TheVariants.{Locate, Named}
use Rattle.itch_depth.proofs.OwnQueues.{own_keys, own_queue}
use Rattle.itch_depth.proofs.OwnMarkets.{kept_in}

-- whether a locate has the stock depends on its stock alone
pub by_stock : (wanted : OneStock) (m : Content) (l : ℕ) → is_stock wanted m.securities l ≡ kept_in (wants wanted) m l
by_stock (Locate k) m l = refl
by_stock (Named name) m l = by_listing (finite.get m.securities l) where
  by_listing : (o : Option Listing) → is_named name.now o ≡ wants (Named name) l (option_map (λ (s : Listing). s.entry.stock) o)
  by_listing None = refl
  by_listing (Some s) = refl

same_locates : (wanted : OneStock) (m : Content) → is_stock wanted m.securities ≡ kept_in (wants wanted) m
same_locates wanted m = λ i l. by_stock wanted m l i

-- the first of these, if there is one
abbrev pub first_of : List ℕ → Option ℕ
first_of [] = None
first_of (k ∷ ks) = Some k

find_first : (p : ℕ → Bool) (ks : List ℕ) → find p ks ≡ first_of (filter p ks)
find_first p [] = refl
find_first p (k ∷ ks) = by_test (p k) (λ on. simp on refl) (λ off. simp off (find_first p ks))

module _ (S : OneStock) (m own : Content) (is_own : IsOwn (wants S) m own) where
  -- the first locate that has the stock is the first of the market of the stock
  pub followed_own : followed S m ≡ first_of (finite.keys own.securities)
  followed_own =
      find_first (is_stock S m.securities) (finite.keys m.securities)
      ∙ ap first_of (ap (λ (v : ℕ → Bool). filter v (finite.keys m.securities)) (same_locates S m) ∙ sym (own_keys (wants S) m own is_own))

  -- the best prices of the stock are those of that market
  pub best_own : (depth : ℕ) → best depth S m ≡ best_at depth own.orders (first_of (finite.keys own.securities))
  best_own depth = by_found (followed S m) refl ∙ ap (best_at depth own.orders) followed_own where
    by_found : (o : Option ℕ) → followed S m ≡ o → best_at depth m.orders (followed S m) ≡ best_at depth own.orders (followed S m)
    by_found None there = ap (best_at depth m.orders) there ∙ sym (ap (best_at depth own.orders) there)
    by_found (Some l) there =
        let has : kept_in (wants S) m l ≡ true = sym (by_stock S m l) ∙ found_passes (is_stock S m.securities) (finite.keys m.securities) l there in
        ap (best_at depth m.orders) there
        ∙ ap₂ (λ (b a : List Order). let sides : Sides = record { bids = levels depth b; asks = levels depth a } in sides) (own_queue (wants S) m own is_own l Buy has) (own_queue (wants S) m own is_own l Sell has)
        ∙ sym (ap (best_at depth own.orders) there)
