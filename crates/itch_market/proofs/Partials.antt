-- If all messages follow the order rules, those that are not skipped follow them too, and result in the market of all messages, restricted to
-- the wanted locates.
use Rattle.std.proofs.Common.{◌≡◌, ℕ, ◌≤◌, ◌<◌, ◌-◌, Bool, true, false, cond, not, ◌==◌, List, [], ◌∷◌, ◌++◌, map, filter, length, Option, Some, None, IsSome, is_some, refl, sym, ap, ap₂, ◌∙◌, subst, arith, append-nil, eqb}
use Rattle.std.specs.List.{AllByRecursion}
use Rattle.std.specs.Ordering.{nat_cmp}
use Rattle.std.specs.FinMap as finite
use Rattle.std.specs.FinMap.{nat_cmp-IsAntisymmetric}
use Rattle.std.proofs.lemmas.Bool.Decides.{nat_tests}
use Rattle.std.proofs.lemmas.List.Elements.{filter-append}
use Rattle.itch_codec.specs.declared.message.Message.{Message}
use Rattle.itch_codec.specs.declared.message.Message.TheVariants as is
use Rattle.itch_codec.specs.declared.orders.AddOrder.{AddOrder}
use Rattle.itch_codec.specs.declared.orders.OrderReplace.{OrderReplace}
use Rattle.itch_book.specs.declared.order.Order.{Order}
use Rattle.itch_book.specs.Orders as book
use Rattle.itch_book.proofs.Lists.{by_test, filter_swap, filter-map, absent_in_filter, All-filter_rec, length_filter_le}
use Rattle.itch_market.specs.declared.refusal.Refusal.{Refusal}
use Rattle.itch_market.specs.declared.refusal.Refusal.TheVariants.{ZeroShares, DuplicateRef, LocateMismatch}
use Rattle.itch_market.specs.Content.{Content, Listing, Securities, empty}
use Rattle.itch_market.specs.Reasons.{reason, refuse, is_live, order_reason, security_reason, directory_reason, add_reason}
use Rattle.itch_market.specs.Effects.{effect, entered, changed, changed_at, with_action, with_sho, with_halt, with_position, action_of, position_of, order_of}
use Rattle.itch_market.specs.GoodMarkets.{IsGood, IsListed}
use Rattle.itch_market.specs.Runs.{AreMessages, after, run, FollowsFrom, Follows}
use Rattle.itch_market.specs.Widths.{IsMaybe, IsSecurity, IsOrder}
use Rattle.itch_market.specs.Partial.{is_out, skips, kept, only}
use Rattle.itch_market.proofs.AllowedMessages.{passed, allowed_add, allowed_replace}
use Rattle.itch_market.proofs.GoodMarkets.{effect_good, empty_good}
use Rattle.itch_market.proofs.Maps.{get-insert, same_map}

-- ---- lists of orders

module _ (wanted : ℕ → Bool) where
  -- the order's locate is wanted
  abbrev pub at : Order → Bool
  at x = wanted x.locate

  -- the first order with a reference is found among the wanted orders if it is one of them
  found_kept : (r : ℕ) (os : List Order) (x : Order) → book.get os r ≡ Some x → wanted x.locate ≡ true → book.get (filter at os) r ≡ Some x
  found_kept r [] x found want = cc
  found_kept r (y ∷ ys) x found want =
      by_test (book.has_reference r y)
      (λ on.
      let same : y ≡ x = let first : Some y ≡ Some x = ap (λ b. cond b (Some y) (book.get ys r)) (sym on) ∙ found in cc in
      let here : wanted y.locate ≡ true = ap at same ∙ want in
      ap (λ b. book.get (cond b (y ∷ filter at ys) (filter at ys)) r) here ∙ ap (λ b. cond b (Some y) (book.get (filter at ys) r)) on ∙ ap Some same)
      (λ off.
      let later : book.get ys r ≡ Some x = ap (λ b. cond b (Some y) (book.get ys r)) (sym off) ∙ found in
      let rest = found_kept r ys x later want in
      by_test (wanted y.locate)
      (λ in_set. ap (λ b. book.get (cond b (y ∷ filter at ys) (filter at ys)) r) in_set ∙ ap (λ b. cond b (Some y) (book.get (filter at ys) r)) off ∙ rest)
      (λ out. ap (λ b. book.get (cond b (y ∷ filter at ys) (filter at ys)) r) out ∙ rest))

  none_found : (r : ℕ) (os : List Order) → length (filter (book.has_reference r) os) ≤ 0 → book.get os r ≡ None
  none_found r [] few = refl
  none_found r (y ∷ ys) few =
      by_test (book.has_reference r y)
      (λ on. let more = ap (λ b. length (cond b (y ∷ filter (book.has_reference r) ys) (filter (book.has_reference r) ys))) on in absurd (omega (arith, few, more)))
      (λ off. ap (λ b. cond b (Some y) (book.get ys r)) off
      ∙ none_found r ys (let same = ap (λ b. length (cond b (y ∷ filter (book.has_reference r) ys) (filter (book.has_reference r) ys))) off in omega (arith, few, same)))

  -- and otherwise no wanted order has its reference
  gone_kept : (r : ℕ) (os : List Order) (x : Order) → length (filter (book.has_reference r) os) ≤ 1 → book.get os r ≡ Some x → wanted x.locate ≡ false → book.get (filter at os) r ≡ None
  gone_kept r [] x few found out = refl
  gone_kept r (y ∷ ys) x few found out =
      by_test (book.has_reference r y)
      (λ on.
      let same : y ≡ x = let first : Some y ≡ Some x = ap (λ b. cond b (Some y) (book.get ys r)) (sym on) ∙ found in cc in
      let more = ap (λ b. length (cond b (y ∷ filter (book.has_reference r) ys) (filter (book.has_reference r) ys))) on in
      ap (λ b. book.get (cond b (y ∷ filter at ys) (filter at ys)) r) (ap at same ∙ out)
      ∙ absent_in_filter (book.has_reference r) at ys (none_found r ys (omega (arith, few, more))))
      (λ off.
      let later : book.get ys r ≡ Some x = ap (λ b. cond b (Some y) (book.get ys r)) (sym off) ∙ found in
      let fewer = ap (λ b. length (cond b (y ∷ filter (book.has_reference r) ys) (filter (book.has_reference r) ys))) off in
      let rest = gone_kept r ys x (omega (arith, few, fewer)) later out in
      by_test (wanted y.locate)
      (λ in_set. ap (λ b. book.get (cond b (y ∷ filter at ys) (filter at ys)) r) in_set ∙ ap (λ b. cond b (Some y) (book.get (filter at ys) r)) off ∙ rest)
      (λ no. ap (λ b. book.get (cond b (y ∷ filter at ys) (filter at ys)) r) no ∙ rest))

  cond_locate : (b : Bool) (x y : Order) → x.locate ≡ y.locate → (cond b x y).locate ≡ y.locate
  cond_locate true x y same = same
  cond_locate false x y same = refl

  less_at : (r n : ℕ) (x : Order) → at (book.less r n x) ≡ at x
  less_at r n x = ap wanted (cond_locate (book.has_reference r x) (record x { shares = x.shares - n }) x refl)

  -- changing one reference and restricting to the wanted orders commute
  kept_taken : (r n : ℕ) (os : List Order) → filter at (book.taken r n os) ≡ book.taken r n (filter at os)
  kept_taken r n os = filter_swap at book.has_shares (map (book.less r n) os) ∙ ap (filter book.has_shares) (filter-map at at (book.less r n) (less_at r n) os)

  kept_without : (r : ℕ) (os : List Order) → filter at (book.without r os) ≡ book.without r (filter at os)
  kept_without r os = filter_swap at (λ x. not (book.has_reference r x)) os

  -- if no order has the reference, nothing changes
  other_first : (r : ℕ) (y : Order) (ys : List Order) → book.get (y ∷ ys) r ≡ None → (book.has_reference r y ≡ false) × (book.get ys r ≡ None)
  other_first r y ys none =
      by_test (book.has_reference r y)
      (λ on. let some : Some y ≡ None = ap (λ b. cond b (Some y) (book.get ys r)) (sym on) ∙ none in cc)
      (λ off. (off, ap (λ b. cond b (Some y) (book.get ys r)) (sym off) ∙ none))

  taken_none : (r n : ℕ) (os : List Order) → AllByRecursion book.IsLive os → book.get os r ≡ None → book.taken r n os ≡ os
  taken_none r n [] live none = refl
  taken_none r n (y ∷ ys) live none =
      let parts = other_first r y ys none in
      let same : book.less r n y ≡ y = ap (λ b. cond b (record y { shares = y.shares - n }) y) parts.0 in
      let some : book.has_shares y ≡ true = let positive = live.0.0 in grind (arith, nat_tests) in
      ap (λ (z : Order). cond (book.has_shares z) (z ∷ book.taken r n ys) (book.taken r n ys)) same
      ∙ ap (λ b. cond b (y ∷ book.taken r n ys) (book.taken r n ys)) some
      ∙ ap (λ zs. y ∷ zs) (taken_none r n ys live.1 parts.1)

  without_none : (r : ℕ) (os : List Order) → book.get os r ≡ None → book.without r os ≡ os
  without_none r [] none = refl
  without_none r (y ∷ ys) none =
      let parts = other_first r y ys none in
      ap (λ b. cond (not b) (y ∷ book.without r ys) (book.without r ys)) parts.0 ∙ ap (λ zs. y ∷ zs) (without_none r ys parts.1)

  -- an order at the end is kept, or not
  kept_last : (os : List Order) (x : Order) → wanted x.locate ≡ true → filter at (os ++ x ∷ []) ≡ filter at os ++ x ∷ []
  kept_last os x want = filter-append at os (x ∷ []) ∙ ap (λ b. filter at os ++ cond b (x ∷ []) []) want

  dropped_last : (os : List Order) (x : Order) → wanted x.locate ≡ false → filter at (os ++ x ∷ []) ≡ filter at os
  dropped_last os x out = filter-append at os (x ∷ []) ∙ ap (λ b. filter at os ++ cond b (x ∷ []) []) out ∙ append-nil (filter at os)

  -- ---- the directory

  pub get_cut : (s : Securities) (q : ℕ) → finite.get (finite.retain_keys s wanted) q ≡ cond (wanted q) (finite.get s q) None
  get_cut s q = finite.get-retain_keys s wanted q (λ x same. ap wanted (sym (nat_cmp-IsAntisymmetric q x same)))

  pub get_here : (s : Securities) (l : ℕ) → wanted l ≡ true → finite.get (finite.retain_keys s wanted) l ≡ finite.get s l
  get_here s l want = get_cut s l ∙ ap (λ b. cond b (finite.get s l) None) want

  key_is : (q l : ℕ) → eqb q l ≡ true → q ≡ l
  key_is q l same = grind (arith, nat_tests)

  cut_insert : (s : Securities) (l : ℕ) (v : Listing) → wanted l ≡ true → finite.retain_keys (finite.insert s l v) wanted ≡ finite.insert (finite.retain_keys s wanted) l v
  cut_insert s l v want = same_map _ _ (λ q.
      get_cut (finite.insert s l v) q ∙ ap (λ o. cond (wanted q) o None) (get-insert s l v q)
      ∙ by_key q (eqb q l) refl
      ∙ sym (get-insert (finite.retain_keys s wanted) l v q ∙ ap (cond (eqb q l) (Some v)) (get_cut s q)))
    where
      by_key : (q : ℕ) (b : Bool) → eqb q l ≡ b → cond (wanted q) (cond b (Some v) (finite.get s q)) None ≡ cond b (Some v) (cond (wanted q) (finite.get s q) None)
      by_key q true on = ap (λ b. cond b (Some v) None) (ap wanted (key_is q l on) ∙ want)
      by_key q false off = refl

  cut_other : (s : Securities) (l : ℕ) (v : Listing) → wanted l ≡ false → finite.retain_keys (finite.insert s l v) wanted ≡ finite.retain_keys s wanted
  cut_other s l v out = same_map _ _ (λ q.
      get_cut (finite.insert s l v) q ∙ ap (λ o. cond (wanted q) o None) (get-insert s l v q)
      ∙ by_key q (eqb q l) refl
      ∙ sym (get_cut s q))
    where
      by_key : (q : ℕ) (b : Bool) → eqb q l ≡ b → cond (wanted q) (cond b (Some v) (finite.get s q)) None ≡ cond (wanted q) (finite.get s q) None
      by_key q true on =
          let no = ap wanted (key_is q l on) ∙ out in
          ap (λ b. cond b (Some v) None) no ∙ sym (ap (λ b. cond b (finite.get s q) None) no)
      by_key q false off = refl

  changed_kept : (change : Listing → Listing) (l : ℕ) (s : Securities) → wanted l ≡ true → changed change l (finite.retain_keys s wanted) ≡ finite.retain_keys (changed change l s) wanted
  changed_kept change l s want = ap (λ o. changed_at change l o (finite.retain_keys s wanted)) (get_here s l want) ∙ by_found (finite.get s l) where
    by_found : (o : Option Listing) → changed_at change l o (finite.retain_keys s wanted) ≡ finite.retain_keys (changed_at change l o s) wanted
    by_found None = refl
    by_found (Some v) = sym (cut_insert s l (change v) want)

  changed_out : (change : Listing → Listing) (l : ℕ) (s : Securities) → wanted l ≡ false → finite.retain_keys (changed change l s) wanted ≡ finite.retain_keys s wanted
  changed_out change l s out = by_found (finite.get s l) where
    by_found : (o : Option Listing) → finite.retain_keys (changed_at change l o s) wanted ≡ finite.retain_keys s wanted
    by_found None = refl
    by_found (Some v) = cut_other s l (change v) out

  -- a good market remains good when it is restricted
  pub only_good : (m : Content) → IsGood m → IsGood (only wanted m)
  only_good m good = record {
    event = good.event;
    securities = λ l. subst (IsMaybe (λ s. (l < 65536) × IsSecurity s)) (sym (get_cut m.securities l)) (maybe_kept l (finite.get m.securities l) (wanted l) (good.securities l));
    distinct = λ r. let same = ap length (filter_swap (book.has_reference r) at m.orders) in omega (arith, same, good.distinct r, length_filter_le at (filter (book.has_reference r) m.orders));
    live = All-filter_rec book.IsLive at m.orders good.live;
    listed = still_listed m.orders good.listed;
    wide = All-filter_rec IsOrder at m.orders good.wide;
  } where
    maybe_kept : (l : ℕ) (o : Option Listing) (b : Bool) → IsMaybe (λ s. (l < 65536) × IsSecurity s) o → IsMaybe (λ s. (l < 65536) × IsSecurity s) (cond b o None)
    maybe_kept l o true holds = holds
    maybe_kept l o false holds = tt

    still_listed : (os : List Order) → AllByRecursion (IsListed m.securities) os → AllByRecursion (IsListed (finite.retain_keys m.securities wanted)) (filter at os)
    still_listed [] each = tt
    still_listed (y ∷ ys) each =
        by_test (wanted y.locate)
        (λ want. subst (AllByRecursion (IsListed (finite.retain_keys m.securities wanted))) (sym (ap (λ b. cond b (y ∷ filter at ys) (filter at ys)) want))
        (subst IsSome (sym (get_here m.securities y.locate want)) each.0, still_listed ys each.1))
        (λ out. subst (AllByRecursion (IsListed (finite.retain_keys m.securities wanted))) (sym (ap (λ b. cond b (y ∷ filter at ys) (filter at ys)) out)) (still_listed ys each.1))

  -- ---- one message

  -- if all locates are wanted, no message is skipped
  pub none_out : ((l : ℕ) → wanted l ≡ true) → (o : Option ℕ) → is_out wanted o ≡ false
  none_out all None = refl
  none_out all (Some l) = ap not (all l)

  is_wanted : (b : Bool) → not b ≡ false → b ≡ true
  is_wanted true h = refl
  is_wanted false h = cc

  is_unwanted : (b : Bool) → not b ≡ true → b ≡ false
  is_unwanted true h = cc
  is_unwanted false h = refl

  -- the order of a message about a live order
  found_order : (o : Option Order) (locate : ℕ) (later : Order → Option Refusal) → order_reason o locate later ≡ None → (x : Order) × (o ≡ Some x) × (x.locate ≡ locate)
  found_order None locate later none = cc
  found_order (Some x) locate later none =
      let here = passed (not (x.locate == locate)) LocateMismatch (later x) none in
      let test = is_wanted (x.locate == locate) here.0 in
      (x, refl, key_is x.locate locate test)

  -- a message that is not skipped is not refused in the restricted market either, and has the same effect there
  pub record IsKept (m : Content) (x : Message) : Type 0 where
    pub reason : reason (only wanted m) x ≡ None
    pub effect : effect (only wanted m) x ≡ only wanted (effect m x)

  new_securities : (m : Content) (s t : Securities) → s ≡ t → ◌≡◌ {A = Content} (record m { securities = s; orders = filter at m.orders }) (record m { securities = t; orders = filter at m.orders })
  new_securities m s t same = ap (λ (u : Securities). record m { securities = u; orders = filter at m.orders }) same

  new_orders : (m : Content) (xs ys : List Order) → xs ≡ ys
      → ◌≡◌ {A = Content} (record m { securities = finite.retain_keys m.securities wanted; orders = xs }) (record m { securities = finite.retain_keys m.securities wanted; orders = ys })
  new_orders m xs ys same = ap (λ (zs : List Order). record m { securities = finite.retain_keys m.securities wanted; orders = zs }) same

  add_kept : (m : Content) (x : AddOrder) → wanted x.header.locate ≡ true → add_reason m x ≡ None → add_reason (only wanted m) x ≡ None
  add_kept m x want none =
      let fresh = (allowed_add m x none).new_reference in
      let absent = absent_in_filter (book.has_reference x.reference) at m.orders fresh in
      ap₂ (λ s o. security_reason s x.stock (refuse (x.shares == 0) ZeroShares (refuse (is_some o) DuplicateRef None)))
      (get_here m.securities x.header.locate want) (absent ∙ sym fresh) ∙ none

  security_kept : (m : Content) (l : ℕ) (stock : List ℕ) → wanted l ≡ true → security_reason (finite.get m.securities l) stock None ≡ None
      → security_reason (finite.get (finite.retain_keys m.securities wanted) l) stock None ≡ None
  security_kept m l stock want none = ap (λ s. security_reason s stock None) (get_here m.securities l want) ∙ none

  same_order : (m : Content) (r l : ℕ) (later : Order → Option Refusal) → wanted l ≡ true → order_reason (book.get m.orders r) l later ≡ None → book.get (filter at m.orders) r ≡ book.get m.orders r
  same_order m r l later want none =
      let found = found_order (book.get m.orders r) l later none in
      found_kept r m.orders found.0 found.1 (ap wanted found.2 ∙ want) ∙ sym found.1

  order_kept : (m : Content) (r l : ℕ) (later : Order → Option Refusal) → wanted l ≡ true → order_reason (book.get m.orders r) l later ≡ None
      → order_reason (book.get (filter at m.orders) r) l later ≡ None
  order_kept m r l later want none = ap (λ o. order_reason o l later) (same_order m r l later want none) ∙ none

  replaced_kept : (m : Content) (x : OrderReplace) → wanted x.header.locate ≡ true → reason m (is.OrderReplace x) ≡ None → IsKept m (is.OrderReplace x)
  replaced_kept m x want none =
      let later : Order → Option Refusal = λ o. refuse (x.shares == 0) ZeroShares (refuse (is_live m x.reference) DuplicateRef None) in
      let same = same_order m x.original x.header.locate later want none in
      let found = found_order (book.get m.orders x.original) x.header.locate later none in
      let fresh = (allowed_replace m x none).new_reference in
      let absent = absent_in_filter (book.has_reference x.reference) at m.orders fresh in
      let new : Order = record found.0 { reference = x.reference; shares = x.shares; price = x.price } in
      record {
        reason = ap₂ (λ o n. order_reason o x.header.locate (λ _. refuse (x.shares == 0) ZeroShares (refuse (is_some n) DuplicateRef None))) same (absent ∙ sym fresh) ∙ none;
        effect = new_orders m _ _
            (ap (λ o. book.replaced_by o x.original x.reference x.shares x.price (filter at m.orders)) (same ∙ found.1)
            ∙ ap (λ ys. ys ++ new ∷ []) (sym (kept_without x.original m.orders))
            ∙ sym (kept_last (book.without x.original m.orders) new (ap wanted found.2 ∙ want))
            ∙ ap (λ o. filter at (book.replaced_by o x.original x.reference x.shares x.price m.orders)) (sym found.1));
      }

  pub kept_message : (m : Content) (x : Message) → reason m x ≡ None → skips wanted x ≡ false → IsKept m x
  kept_message m (is.SystemEvent x) none in_set = record { reason = refl; effect = refl }
  kept_message m (is.StockDirectory x) none in_set =
      let want = is_wanted _ in_set in
      let l = x.header.locate in
      let here = get_here m.securities l want in
      record {
        reason = ap (λ s. directory_reason s x.entry.stock) here ∙ none;
        effect = new_securities m _ _ (ap (λ s. finite.insert (finite.retain_keys m.securities wanted) l (entered s x.entry)) here ∙ sym (cut_insert m.securities l _ want));
      }
  kept_message m (is.TradingAction x) none in_set =
      let want = is_wanted _ in_set in
      record { reason = security_kept m x.header.locate x.stock want none; effect = new_securities m _ _ (changed_kept (with_action (action_of x)) x.header.locate m.securities want) }
  kept_message m (is.RegSho x) none in_set =
      let want = is_wanted _ in_set in
      record { reason = security_kept m x.header.locate x.stock want none; effect = new_securities m _ _ (changed_kept (with_sho x.action) x.header.locate m.securities want) }
  kept_message m (is.Halt x) none in_set =
      let want = is_wanted _ in_set in
      record { reason = security_kept m x.header.locate x.stock want none; effect = new_securities m _ _ (changed_kept (with_halt x.market_code x.action) x.header.locate m.securities want) }
  kept_message m (is.Position x) none in_set =
      let want = is_wanted _ in_set in
      record { reason = security_kept m x.header.locate x.stock want none; effect = new_securities m _ _ (changed_kept (with_position x.mpid (position_of x)) x.header.locate m.securities want) }
  kept_message m (is.AddOrder x) none in_set =
      let want = is_wanted _ in_set in
      record { reason = add_kept m x want none; effect = new_orders m _ _ (sym (kept_last m.orders (order_of x None) want)) }
  kept_message m (is.AttributedAddOrder x) none in_set =
      let want = is_wanted _ in_set in
      record { reason = add_kept m x.order want none; effect = new_orders m _ _ (sym (kept_last m.orders (order_of x.order (Some x.attribution)) want)) }
  kept_message m (is.OrderExecuted x) none in_set =
      record { reason = order_kept m x.reference x.header.locate _ (is_wanted _ in_set) none; effect = new_orders m _ _ (sym (kept_taken x.reference x.shares m.orders)) }
  kept_message m (is.OrderExecutedWithPrice x) none in_set =
      let e = x.execution in
      record { reason = order_kept m e.reference e.header.locate _ (is_wanted _ in_set) none; effect = new_orders m _ _ (sym (kept_taken e.reference e.shares m.orders)) }
  kept_message m (is.OrderCancel x) none in_set =
      record { reason = order_kept m x.reference x.header.locate _ (is_wanted _ in_set) none; effect = new_orders m _ _ (sym (kept_taken x.reference x.shares m.orders)) }
  kept_message m (is.OrderDelete x) none in_set =
      record { reason = order_kept m x.reference x.header.locate _ (is_wanted _ in_set) none; effect = new_orders m _ _ (sym (kept_without x.reference m.orders)) }
  kept_message m (is.OrderReplace x) none in_set = replaced_kept m x (is_wanted _ in_set) none
  kept_message m (is.Trade x) none in_set = record { reason = refl; effect = refl }
  kept_message m (is.CrossTrade x) none in_set = record { reason = refl; effect = refl }
  kept_message m (is.BrokenTrade x) none in_set = record { reason = refl; effect = refl }
  kept_message m (is.End next) none in_set = cc
  kept_message m (is.Other payload) none in_set = record { reason = refl; effect = refl }

  -- no wanted order has the reference of an order that is not wanted
  gone : (m : Content) (r l : ℕ) (later : Order → Option Refusal) → IsGood m → wanted l ≡ false → order_reason (book.get m.orders r) l later ≡ None → book.get (filter at m.orders) r ≡ None
  gone m r l later good out none =
      let found = found_order (book.get m.orders r) l later none in
      gone_kept r m.orders found.0 (good.distinct r) found.1 (ap wanted found.2 ∙ out)

  taken_out : (m : Content) (r n l : ℕ) (later : Order → Option Refusal) → IsGood m → wanted l ≡ false → order_reason (book.get m.orders r) l later ≡ None
      → filter at (book.taken r n m.orders) ≡ filter at m.orders
  taken_out m r n l later good out none =
      kept_taken r n m.orders ∙ taken_none r n (filter at m.orders) (All-filter_rec book.IsLive at m.orders good.live) (gone m r l later good out none)

  without_out : (m : Content) (r l : ℕ) (later : Order → Option Refusal) → IsGood m → wanted l ≡ false → order_reason (book.get m.orders r) l later ≡ None
      → filter at (book.without r m.orders) ≡ filter at m.orders
  without_out m r l later good out none = kept_without r m.orders ∙ without_none r (filter at m.orders) (gone m r l later good out none)

  replaced_out : (m : Content) (x : OrderReplace) → IsGood m → wanted x.header.locate ≡ false → reason m (is.OrderReplace x) ≡ None
      → filter at (book.replaced x.original x.reference x.shares x.price m.orders) ≡ filter at m.orders
  replaced_out m x good out none =
      let found = found_order (book.get m.orders x.original) x.header.locate _ none in
      let new : Order = record found.0 { reference = x.reference; shares = x.shares; price = x.price } in
      ap (λ o. filter at (book.replaced_by o x.original x.reference x.shares x.price m.orders)) found.1
      ∙ dropped_last (book.without x.original m.orders) new (ap wanted found.2 ∙ out)
      ∙ without_out m x.original x.header.locate _ good out none

  -- a skipped message does not change the restricted market
  dropped_message : (m : Content) (x : Message) → IsGood m → reason m x ≡ None → skips wanted x ≡ true → only wanted (effect m x) ≡ only wanted m
  dropped_message m (is.SystemEvent x) good none out = cc
  dropped_message m (is.StockDirectory x) good none out = new_securities m _ _ (cut_other m.securities x.header.locate _ (is_unwanted _ out))
  dropped_message m (is.TradingAction x) good none out = new_securities m _ _ (changed_out (with_action (action_of x)) x.header.locate m.securities (is_unwanted _ out))
  dropped_message m (is.RegSho x) good none out = new_securities m _ _ (changed_out (with_sho x.action) x.header.locate m.securities (is_unwanted _ out))
  dropped_message m (is.Halt x) good none out = new_securities m _ _ (changed_out (with_halt x.market_code x.action) x.header.locate m.securities (is_unwanted _ out))
  dropped_message m (is.Position x) good none out = new_securities m _ _ (changed_out (with_position x.mpid (position_of x)) x.header.locate m.securities (is_unwanted _ out))
  dropped_message m (is.AddOrder x) good none out = new_orders m _ _ (dropped_last m.orders (order_of x None) (is_unwanted _ out))
  dropped_message m (is.AttributedAddOrder x) good none out = new_orders m _ _ (dropped_last m.orders (order_of x.order (Some x.attribution)) (is_unwanted _ out))
  dropped_message m (is.OrderExecuted x) good none out = new_orders m _ _ (taken_out m x.reference x.shares x.header.locate _ good (is_unwanted _ out) none)
  dropped_message m (is.OrderExecutedWithPrice x) good none out =
      new_orders m _ _ (taken_out m x.execution.reference x.execution.shares x.execution.header.locate _ good (is_unwanted _ out) none)
  dropped_message m (is.OrderCancel x) good none out = new_orders m _ _ (taken_out m x.reference x.shares x.header.locate _ good (is_unwanted _ out) none)
  dropped_message m (is.OrderDelete x) good none out = new_orders m _ _ (without_out m x.reference x.header.locate _ good (is_unwanted _ out) none)
  dropped_message m (is.OrderReplace x) good none out = new_orders m _ _ (replaced_out m x good (is_unwanted _ out) none)
  dropped_message m (is.Trade x) good none out = cc
  dropped_message m (is.CrossTrade x) good none out = cc
  dropped_message m (is.BrokenTrade x) good none out = cc
  dropped_message m (is.End next) good none out = cc
  dropped_message m (is.Other payload) good none out = cc

  -- ---- complete runs

  after_leaves : (m : Content) (ms : List Message) → IsGood m → AreMessages ms → FollowsFrom m ms
      → FollowsFrom (only wanted m) (kept wanted ms) × (after (only wanted m) (kept wanted ms) ≡ only wanted (after m ms))
  after_leaves m [] good fit follows = (tt, refl)
  after_leaves m (x ∷ xs) good fit follows =
      let rest = after_leaves (effect m x) xs (effect_good m x good fit.0 follows.0) fit.1 follows.1 in
      by_test (skips wanted x)
      (λ out.
      let gone_one = ap (λ b. cond (not b) (x ∷ kept wanted xs) (kept wanted xs)) out in
      let same = dropped_message m x good follows.0 out in (
        subst (FollowsFrom (only wanted m)) (sym gone_one) (subst (λ n. FollowsFrom n (kept wanted xs)) same rest.0),
        ap (after (only wanted m)) gone_one ∙ ap (λ n. after n (kept wanted xs)) (sym same) ∙ rest.1,
      ))
      (λ in_set.
      let kept_one = ap (λ b. cond (not b) (x ∷ kept wanted xs) (kept wanted xs)) in_set in
      let stays = kept_message m x follows.0 in_set in (
        subst (FollowsFrom (only wanted m)) (sym kept_one) (stays.reason, subst (λ n. FollowsFrom n (kept wanted xs)) (sym stays.effect) rest.0),
        ap (after (only wanted m)) kept_one ∙ ap (λ n. after n (kept wanted xs)) stays.effect ∙ rest.1,
      ))

  empty_only : only wanted empty ≡ empty
  empty_only = new_securities empty _ _ (same_map _ _ (λ q. get_cut finite.empty q ∙ nothing (wanted q) q ∙ sym (finite.get-empty nat_cmp q))) where
    nothing : (b : Bool) (q : ℕ) → cond b (finite.get (finite.empty {X = Listing} {R = nat_cmp}) q) None ≡ None
    nothing true q = finite.get-empty nat_cmp q
    nothing false q = refl

pub kept_follows : (wanted : ℕ → Bool) (ms : List Message) → AreMessages ms → Follows ms → Follows (kept wanted ms)
kept_follows wanted ms fit follows = subst (λ n. FollowsFrom n (kept wanted ms)) (empty_only wanted) (after_leaves wanted empty ms empty_good fit follows).0

pub kept_leaves : (wanted : ℕ → Bool) (ms : List Message) → AreMessages ms → Follows ms → run (kept wanted ms) ≡ only wanted (run ms)
kept_leaves wanted ms fit follows = ap (λ n. after n (kept wanted ms)) (sym (empty_only wanted)) ∙ (after_leaves wanted empty ms empty_good fit follows).1
