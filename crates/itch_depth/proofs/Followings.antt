-- The best prices of a stock after a message, from those before it.
use Rattle.std.proofs.Common.{◌≡◌, ℕ, ◌==◌, Bool, true, false, not, List, [], ◌∷◌, Option, Some, None, is_some, option_map, length, map, nat_cmp, Result, Ok, Err, is_err, IfOk, IfSome, OnOk, MatchOption, refl, sym, ap, ap₂, ◌∙◌, subst, arith}
use Rattle.std.specs.FinMap as finite
use Rattle.std.specs.List.{list_any}
use Rattle.std.specs.Ordering.{eq_by_cmp}
use Rattle.std.proofs.lemmas.Bool.Decides.{nat_tests}
use Rattle.itch_codec.specs.declared.message.Message.{Message}
use Rattle.itch_codec.specs.declared.message.Message.TheVariants as is
use Rattle.itch_codec.specs.declared.stocks.StockDirectory.{StockDirectory}
use Rattle.itch_codec.specs.declared.orders.Side.{Side}
use Rattle.itch_codec.specs.declared.orders.Side.TheVariants.{Buy, Sell}
use Rattle.itch_book.specs.declared.order.Order.{Order}
use Rattle.itch_book.specs.Orders.{IsBook, is_of}
use Rattle.itch_book.proofs.BookLemmas.{IsBook-lay}
use Rattle.itch_market.specs.Content.{Content, Listing, empty, laid}
use Rattle.itch_market.specs.Reasons.{reason}
use Rattle.itch_market.specs.Effects.{effect}
use Rattle.itch_market.specs.GoodMarkets.{IsGood}
use Rattle.itch_market.proofs.Maps.{get_there}
use Rattle.itch_depth.specs.Changes.{Sides, best, best_at, best_of, followed, levels, nothing, same_sides}
use Rattle.itch_depth.specs.ChangedPrices.{AreSameElsewhere}
use Rattle.itch_depth.specs.Following.{FollowsOne, IsFollowing, PassesOne, Renews, wants}
use Rattle.itch_depth.specs.Own.{IsOwn}
use Rattle.itch_depth.specs.declared.changes.changed_price.ChangedPrice.{ChangedPrice}
use Rattle.itch_depth.specs.declared.changes.request.ChangesRequest.{ChangesRequest}
use Rattle.itch_depth.specs.declared.changes.book.Unfollowed.{Unfollowed}
use Rattle.itch_depth.proofs.BetterPrices.{same_levels_again, same_queue}
use Rattle.itch_depth.proofs.FollowedStocks.{best_own, first_of, followed_own}
use Rattle.itch_depth.proofs.OwnQueues.{same_keys}
use Rattle.itch_depth.proofs.OwnMarkets.{empty_own, is_entry, stocks_kept}

pub same_sides_again : (x : Sides) → same_sides x x ≡ true
same_sides_again x = simp (same_levels_again x.bids, same_levels_again x.asks) refl

-- ---- results

-- a market that did not refuse a message has no reason to
pub accepted : {E : Type 0} (o : Option E) (r : Result (Unit {0}) E) → is_err r ≡ false → IfSome o (λ why. r ≡ Err why) → o ≡ None
accepted None r fine refused = refl
accepted (Some why) r fine refused = absurd (cc (sym (ap is_err refused) ∙ fine))

pub when_ok : {X E P : Type 0} (r : Result X E) → is_err r ≡ false → OnOk r P → P
when_ok (Ok x) fine h = h
when_ok (Err e) fine h = absurd (cc fine)

-- the next locate is the first
pub next_first : (ks rest : List ℕ) (o : Option ℕ) → MatchOption o ((ks ≡ []) × (rest ≡ [])) (λ k. ks ≡ k ∷ rest) → o ≡ first_of ks
next_first ks rest None gone = ap first_of (sym gone.0)
next_first ks rest (Some k) there = ap first_of (sym there)

-- ---- books

pub is_book : (m : Content) → IsGood m → laid m ≡ m → IsBook m.orders
is_book m good in_order = subst (λ (n : Content). IsBook n.orders) in_order (IsBook-lay m.orders good.distinct good.live)

-- the prices of another locate
pub other_locate : (old new : List Order) (at : ChangedPrice) (l depth : ℕ) → IsBook old → IsBook new → AreSameElsewhere at old new → (l == at.locate) ≡ false → best_of depth new l ≡ best_of depth old l
other_locate old new at l depth old_book new_book same other =
    ap₂ (λ (b a : List Order). let sides : Sides = record { bids = levels depth b; asks = levels depth a } in sides)
    (same_queue old new at old_book new_book same l Buy (apart Buy)) (same_queue old new at old_book new_book same l Sell (apart Sell)) where
      apart : (s : Side) (x : Order) → is_of l s x ≡ true → is_of at.locate at.side x ≡ false
      apart s x of = by_locate (x.locate == l) refl of where
        by_locate : (b : Bool) → (x.locate == l) ≡ b → is_of l s x ≡ true → is_of at.locate at.side x ≡ false
        by_locate true on yes_it_is = let out : (x.locate == at.locate) ≡ false = (let here : x.locate ≡ l = grind (arith, nat_tests) in ap (λ q. q == at.locate) here ∙ other) in simp out refl
        by_locate false off is_it = let never : is_of l s x ≡ false = simp off refl in absurd (cc (sym never ∙ is_it))

-- without a change of the orders of the locate, nothing changes
pub unchanged : (depth : ℕ) (own : Content) (locate : Option ℕ) (shown : Sides) → shown ≡ best_at depth own.orders locate → Renews depth own locate shown (Ok false) shown
unchanged depth own None shown are = (refl, refl)
unchanged depth own (Some l) shown are = (are, sym (ap not (same_sides_again shown)))

-- ---- the followed stock

module _ (R : ChangesRequest) (m own : Content) (locate : Option ℕ) (shown : Sides) (follow : IsFollowing R m own locate shown) where
  -- a market in which the market of the stock is the same
  pub still_followed : (n : Content) → IsOwn (wants R.stock) n own → IsFollowing R n own locate shown × (best R.depth R.stock n ≡ best R.depth R.stock m)
  still_followed n is_own =
      let same : best R.depth R.stock n ≡ best R.depth R.stock m = best_own R.stock n own is_own R.depth ∙ sym (best_own R.stock m own follow.own_market R.depth) in (
        record {
          own_market = is_own;
          place = follow.place ∙ followed_own R.stock m own follow.own_market ∙ sym (followed_own R.stock n own is_own);
          sides = follow.sides ∙ sym same;
        },
        same,
      )

  pub nothing_told : (n : Content) → IsOwn (wants R.stock) n own → IsFollowing R n own locate shown × (false ≡ not (same_sides (best R.depth R.stock m) (best R.depth R.stock n)))
  nothing_told n is_own =
      let both = still_followed n is_own in
      (both.0, sym (ap (λ b. not (same_sides (best R.depth R.stock m) b)) both.1 ∙ ap not (same_sides_again (best R.depth R.stock m))))

  -- the known prices are those of the market of the stock
  pub shown_own : shown ≡ best_at R.depth own.orders locate
  shown_own = follow.sides ∙ best_own R.stock m own follow.own_market R.depth ∙ ap (best_at R.depth own.orders) (sym (follow.place ∙ followed_own R.stock m own follow.own_market))

  pub none_shown : locate ≡ None → shown ≡ nothing
  none_shown none = shown_own ∙ ap (best_at R.depth own.orders) none

  -- a message other than an entry of the directory leaves the locate
  pub locate_stays : (x : Message) (n : Content) → is_entry x ≡ false → IsOwn (wants R.stock) n (laid (effect own x)) → locate ≡ followed R.stock n
  locate_stays x n other is_own =
      follow.place ∙ followed_own R.stock m own follow.own_market
      ∙ ap first_of (same_keys own.securities (effect own x).securities (λ q. alike (finite.get own.securities q) (finite.get (effect own x).securities q) (stocks_kept own x other q)))
      ∙ sym (followed_own R.stock n (laid (effect own x)) is_own) where
        alike : (o p : Option Listing) → option_map (λ (s : Listing). s.entry.stock) p ≡ option_map (λ (s : Listing). s.entry.stock) o → is_some o ≡ is_some p
        alike None None is = refl
        alike None (Some t) is = absurd (cc is)
        alike (Some s) None is = absurd (cc is)
        alike (Some s) (Some t) is = refl

  -- the best prices after a message about the stock
  pub follows_on : (n now : Content) (there : Option ℕ) (result : Result Bool Unfollowed) (shows : Sides) → IsOwn (wants R.stock) n now → there ≡ followed R.stock n → (there ≡ None → shown ≡ nothing)
      → Renews R.depth now there shown result shows → FollowsOne R m n result now there shows
  follows_on n now None (Err fault) shows is_own place none renews = renews
  follows_on n now (Some l) (Err fault) shows is_own place none renews = renews
  follows_on n now None (Ok changed) shows is_own place none renews =
      let new : best R.depth R.stock n ≡ nothing = ap (best_at R.depth n.orders) (sym place) in
      let old : best R.depth R.stock m ≡ nothing = sym follow.sides ∙ none refl in (
        record { own_market = is_own; place = place; sides = renews.0 ∙ none refl ∙ sym new },
        renews.1 ∙ sym (ap₂ (λ a b. not (same_sides a b)) old new),
      )
  follows_on n now (Some l) (Ok changed) shows is_own place none renews =
      let new : best R.depth R.stock n ≡ best_of R.depth now.orders l = best_own R.stock n now is_own R.depth ∙ ap (best_at R.depth now.orders) (sym (place ∙ followed_own R.stock n now is_own)) in (
        record { own_market = is_own; place = place; sides = renews.0 ∙ sym new },
        renews.1 ∙ ap₂ (λ a b. not (same_sides a b)) follow.sides (renews.0 ∙ sym new),
      )

-- before any message
pub begun : (R : ChangesRequest) → IsFollowing R empty empty None nothing
begun R = record { own_market = is_own; place = place; sides = ap (best_at R.depth []) place } where
  is_own : IsOwn (wants R.stock) empty empty
  is_own = empty_own (wants R.stock)

  no_keys : (es : List (ℕ × Listing)) → length es ≡ 0 → None ≡ first_of (map (λ (e : ℕ × Listing). e.0) es)
  no_keys [] none = refl
  no_keys (e ∷ es) none = absurd (omega (arith, none))

  place : None ≡ followed R.stock empty
  place = no_keys (finite.entries empty.securities) (sym (finite.len-entries empty.securities) ∙ finite.len-empty nat_cmp Listing) ∙ sym (followed_own R.stock empty empty is_own)

-- a message that is no entry of the directory
pub not_entry : (x : Message) → ((y : StockDirectory) → x ≡ is.StockDirectory y → ⊥) → is_entry x ≡ false
not_entry (is.StockDirectory y) other = absurd (other y refl)
not_entry (is.SystemEvent y) other = refl
not_entry (is.TradingAction y) other = refl
not_entry (is.RegSho y) other = refl
not_entry (is.Halt y) other = refl
not_entry (is.Position y) other = refl
not_entry (is.AddOrder y) other = refl
not_entry (is.AttributedAddOrder y) other = refl
not_entry (is.OrderExecuted y) other = refl
not_entry (is.OrderExecutedWithPrice y) other = refl
not_entry (is.OrderCancel y) other = refl
not_entry (is.OrderDelete y) other = refl
not_entry (is.OrderReplace y) other = refl
not_entry (is.Trade y) other = refl
not_entry (is.CrossTrade y) other = refl
not_entry (is.BrokenTrade y) other = refl
not_entry (is.End next) other = refl
not_entry (is.Other payload) other = refl

-- the result of a message that the market took
pub passes : (R : ChangesRequest) (m n own : Content) (x : Message) (result : Result Bool Unfollowed) (locate : Option ℕ) (shown : Sides) → reason m x ≡ None → n ≡ laid (effect m x)
    → FollowsOne R m n result own locate shown → PassesOne R x m result n
passes R m n own x (Ok changed) locate shown none after follows = (none, after, follows.1)
passes R m n own x (Err fault) locate shown none after follows = subst (λ f. PassesOne R x m (Err f) n) (sym follows) (none, after)

pub goes_on : (R : ChangesRequest) (m n own : Content) (result : Result Bool Unfollowed) (locate : Option ℕ) (shown : Sides) → FollowsOne R m n result own locate shown
    → IfOk result (λ _. IsFollowing R n own locate shown)
goes_on R m n own (Ok changed) locate shown follows = follows.0
goes_on R m n own (Err fault) locate shown follows = tt

-- an entry of the directory leaves a locate
pub some_locate : (own : Content) (x : StockDirectory) → first_of (finite.keys (effect own (is.StockDirectory x)).securities) ≡ None → ⊥
some_locate own x none =
    let s = (effect own (is.StockDirectory x)).securities in
    let there : finite.contains_key s x.header.locate ≡ true = ap is_some (get_there own.securities x.header.locate _) in
    no_keys (finite.keys s) none (sym (finite.contains_key-keys s x.header.locate) ∙ there) where
      no_keys : (ks : List ℕ) → first_of ks ≡ None → list_any (eq_by_cmp nat_cmp x.header.locate) ks ≡ true → ⊥
      no_keys [] gone has = let no_one : ⊥ = cc in no_one
      no_keys (k ∷ ks) gone has = let no_one : ⊥ = cc in no_one
