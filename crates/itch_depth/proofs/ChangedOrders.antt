-- A message changes orders at its price and at worse ones of one side of a locate, and no others.
use Rattle.std.proofs.Common.{◌≡◌, ℕ, ◌-◌, ◌≤◌, ◌==◌, Bool, true, false, cond, not, ◌&&◌, ◌||◌, List, [], ◌∷◌, ◌++◌, map, length, Option, None, Some, option_map, refl, sym, ap, ap₂, ◌∙◌, subst, arith, append-nil}
use Rattle.std.specs.List.{filter, AllByRecursion}
use Rattle.std.proofs.lemmas.Bool.Decides.{nat_tests}
use Rattle.std.proofs.lemmas.List.Elements.{filter-append}
use Rattle.itch_codec.specs.declared.message.Message.{Message}
use Rattle.itch_codec.specs.declared.message.Message.TheVariants as is
use Rattle.itch_codec.specs.declared.orders.OrderReplace.{OrderReplace}
use Rattle.itch_codec.specs.declared.orders.Side.{Side}
use Rattle.itch_codec.specs.declared.orders.Side.TheVariants.{Buy, Sell}
use Rattle.itch_book.specs.declared.order.Order.{Order}
use Rattle.itch_book.specs.Orders as book
use Rattle.itch_book.specs.Orders.{is_better, is_of, same_side}
use Rattle.itch_book.proofs.Lists.{All-filter_rec, absent_in_filter, by_test, filter-map, filter_swap}
use Rattle.itch_book.proofs.BookLemmas.{lay-filter}
use Rattle.itch_book.proofs.QueueLemmas.{not_itself}
use Rattle.itch_market.specs.declared.refusal.Refusal.{Refusal}
use Rattle.itch_market.specs.declared.refusal.Refusal.TheVariants.{LocateMismatch}
use Rattle.itch_market.specs.Partial.{locate_of}
use Rattle.itch_market.proofs.AllowedMessages.{passed}
use Rattle.itch_market.specs.Content.{Content, laid}
use Rattle.itch_market.specs.Effects.{effect, order_of}
use Rattle.itch_market.specs.GoodMarkets.{IsGood}
use Rattle.itch_market.specs.Reasons.{order_reason, reason}
use Rattle.itch_depth.specs.ChangedPrices.{AreSameElsewhere, better_of, changed_price, is_elsewhere, price_of_add, price_of_order, replaced_by}
use Rattle.itch_depth.specs.declared.changes.changed_price.ChangedPrice.{ChangedPrice}

-- two books between which a message changed orders at this price, or none
abbrev pub DifferAt : Option ChangedPrice → List Order → List Order → Type 0
DifferAt None old new = new ≡ old
DifferAt (Some at) old new = AreSameElsewhere at old new

-- ---- orders that are not elsewhere

here_test : (l : ℕ) (s : Side) (better : Bool) → better ≡ false → (not ((l == l) && same_side s s) || better) ≡ false
here_test l Buy better none = let same : (l == l) ≡ true = grind (arith, nat_tests) in simp same none
here_test l Sell better none = let same : (l == l) ≡ true = grind (arith, nat_tests) in simp same none

-- an order of this locate and side, at this price or a worse one
not_elsewhere : (l : ℕ) (s : Side) (p : ℕ) (x : Order) → x.locate ≡ l → x.side ≡ s → is_better s x.price p ≡ false → is_elsewhere (record { locate = l; side = s; price = p }) x ≡ false
not_elsewhere l s p x at of worse = ap₂ (λ q t. not ((q == l) && same_side t s) || is_better s x.price p) at of ∙ here_test l s (is_better s x.price p) worse

not_better_first : (s : Side) (p q : ℕ) → is_better s p (better_of s p q) ≡ false
not_better_first s p q = by_test (is_better s q p)
    (λ better. ap (λ b. is_better s p (cond b q p)) better ∙ one_way s p q better)
    (λ worse. ap (λ b. is_better s p (cond b q p)) worse ∙ not_itself s p) where
      one_way : (s : Side) (p q : ℕ) → is_better s q p ≡ true → is_better s p q ≡ false
      one_way Buy p q better = grind (arith, nat_tests)
      one_way Sell p q better = grind (arith, nat_tests)

not_better_second : (s : Side) (p q : ℕ) → is_better s q (better_of s p q) ≡ false
not_better_second s p q = by_test (is_better s q p)
    (λ better. ap (λ b. is_better s q (cond b q p)) better ∙ not_itself s q)
    (λ worse. ap (λ b. is_better s q (cond b q p)) worse ∙ worse)

-- ---- changes of one order

other_first : (r : ℕ) (y : Order) (ys : List Order) → book.get (y ∷ ys) r ≡ None → (book.has_reference r y ≡ false) × (book.get ys r ≡ None)
other_first r y ys none =
    by_test (book.has_reference r y)
    (λ on. let some : Some y ≡ None = ap (λ b. cond b (Some y) (book.get ys r)) (sym on) ∙ none in absurd (cc some))
    (λ off. (off, ap (λ b. cond b (Some y) (book.get ys r)) (sym off) ∙ none))

-- without an order with this reference nothing changes
taken_none : (r n : ℕ) (os : List Order) → AllByRecursion book.IsLive os → book.get os r ≡ None → book.taken r n os ≡ os
taken_none r n [] live none = refl
taken_none r n (y ∷ ys) live none =
    let parts = other_first r y ys none in
    let same : book.less r n y ≡ y = ap (λ b. cond b (record y { shares = y.shares - n }) y) parts.0 in
    let some : book.has_shares y ≡ true = let positive = live.0.0 in grind (arith, nat_tests) in
    ap (λ (z : Order). cond (book.has_shares z) (z ∷ book.taken r n ys) (book.taken r n ys)) same
    ∙ ap (λ b. cond b (y ∷ book.taken r n ys) (book.taken r n ys)) some
    ∙ ap (λ zs. y ∷ zs) (taken_none r n ys live.1 parts.1)

without_none : (r : ℕ) (os : List Order) → book.get os r ≡ None → book.without r os ≡ os
without_none r [] none = refl
without_none r (y ∷ ys) none =
    let parts = other_first r y ys none in
    ap (λ b. cond (not b) (y ∷ book.without r ys) (book.without r ys)) parts.0 ∙ ap (λ zs. y ∷ zs) (without_none r ys parts.1)

none_found : (r : ℕ) (os : List Order) → length (filter (book.has_reference r) os) ≤ 0 → book.get os r ≡ None
none_found r [] few = refl
none_found r (y ∷ ys) few =
    by_test (book.has_reference r y)
    (λ on. let more = ap (λ b. length (cond b (y ∷ filter (book.has_reference r) ys) (filter (book.has_reference r) ys))) on in absurd (omega (arith, few, more)))
    (λ off. ap (λ b. cond b (Some y) (book.get ys r)) off
    ∙ none_found r ys (let same = ap (λ b. length (cond b (y ∷ filter (book.has_reference r) ys) (filter (book.has_reference r) ys))) off in omega (arith, few, same)))

module _ (at : ChangedPrice) where
  -- an order that is not elsewhere has the only reference of its number
  gone : (r : ℕ) (os : List Order) (x : Order) → length (filter (book.has_reference r) os) ≤ 1 → book.get os r ≡ Some x → is_elsewhere at x ≡ false → book.get (filter (is_elsewhere at) os) r ≡ None
  gone r [] x few found here = refl
  gone r (y ∷ ys) x few found here =
      by_test (book.has_reference r y)
      (λ on.
      let same : y ≡ x = let first : Some y ≡ Some x = ap (λ b. cond b (Some y) (book.get ys r)) (sym on) ∙ found in cc in
      let more = ap (λ b. length (cond b (y ∷ filter (book.has_reference r) ys) (filter (book.has_reference r) ys))) on in
      ap (λ b. book.get (cond b (y ∷ filter (is_elsewhere at) ys) (filter (is_elsewhere at) ys)) r) (ap (is_elsewhere at) same ∙ here)
      ∙ absent_in_filter (book.has_reference r) (is_elsewhere at) ys (none_found r ys (omega (arith, few, more))))
      (λ off.
      let later : book.get ys r ≡ Some x = ap (λ b. cond b (Some y) (book.get ys r)) (sym off) ∙ found in
      let fewer = ap (λ b. length (cond b (y ∷ filter (book.has_reference r) ys) (filter (book.has_reference r) ys))) off in
      let rest = gone r ys x (omega (arith, few, fewer)) later here in
      by_test (is_elsewhere at y)
      (λ there. ap (λ b. book.get (cond b (y ∷ filter (is_elsewhere at) ys) (filter (is_elsewhere at) ys)) r) there ∙ ap (λ b. cond b (Some y) (book.get (filter (is_elsewhere at) ys) r)) off ∙ rest)
      (λ isnt. ap (λ b. book.get (cond b (y ∷ filter (is_elsewhere at) ys) (filter (is_elsewhere at) ys)) r) isnt ∙ rest))

  less_same : (r n : ℕ) (x : Order) → is_elsewhere at (book.less r n x) ≡ is_elsewhere at x
  less_same r n x = by_reference (book.has_reference r x) where
    by_reference : (b : Bool) → is_elsewhere at (cond b (record x { shares = x.shares - n }) x) ≡ is_elsewhere at x
    by_reference true = refl
    by_reference false = refl

  -- orders that are laid after a change
  laid_same : (m : Content) (ys : List Order) → laid m ≡ m → filter (is_elsewhere at) ys ≡ filter (is_elsewhere at) m.orders → filter (is_elsewhere at) (book.lay ys) ≡ filter (is_elsewhere at) m.orders
  laid_same m ys in_order same =
      sym (lay-filter (is_elsewhere at) ys) ∙ ap book.lay same ∙ lay-filter (is_elsewhere at) m.orders ∙ ap (λ (n : Content). filter (is_elsewhere at) n.orders) in_order

  added_here : (os : List Order) (x : Order) → is_elsewhere at x ≡ false → filter (is_elsewhere at) (os ++ x ∷ []) ≡ filter (is_elsewhere at) os
  added_here os x here =
      filter-append (is_elsewhere at) os (x ∷ []) ∙ ap (λ b. filter (is_elsewhere at) os ++ cond b (x ∷ []) []) here ∙ append-nil (filter (is_elsewhere at) os)

  without_here : (m : Content) → IsGood m → (r : ℕ) (x : Order) → book.get m.orders r ≡ Some x → is_elsewhere at x ≡ false → filter (is_elsewhere at) (book.without r m.orders) ≡ filter (is_elsewhere at) m.orders
  without_here m good r x found here =
      filter_swap (is_elsewhere at) (λ y. not (book.has_reference r y)) m.orders
      ∙ without_none r (filter (is_elsewhere at) m.orders) (gone r m.orders x (good.distinct r) found here)

  taken_here : (m : Content) → IsGood m → (r : ℕ) (x : Order) → book.get m.orders r ≡ Some x → is_elsewhere at x ≡ false → (n : ℕ) → filter (is_elsewhere at) (book.taken r n m.orders) ≡ filter (is_elsewhere at) m.orders
  taken_here m good r x found here n =
      filter_swap (is_elsewhere at) book.has_shares (map (book.less r n) m.orders)
      ∙ ap (filter book.has_shares) (filter-map (is_elsewhere at) (is_elsewhere at) (book.less r n) (less_same r n) m.orders)
      ∙ taken_none r n (filter (is_elsewhere at) m.orders) (All-filter_rec book.IsLive (is_elsewhere at) m.orders good.live) (gone r m.orders x (good.distinct r) found here)

-- ---- messages

at_locate : (x : Order) (locate : ℕ) (b : Bool) → (x.locate == locate) ≡ b → not b ≡ false → x.locate ≡ locate
at_locate x locate true on h = grind (arith, nat_tests)
at_locate x locate false off h = absurd (cc h)

found_order : (o : Option Order) (locate : ℕ) (later : Order → Option Refusal) → order_reason o locate later ≡ None → (x : Order) × (o ≡ Some x) × (x.locate ≡ locate)
found_order None locate later none = absurd (cc none)
found_order (Some x) locate later none =
    (x, refl, at_locate x locate (x.locate == locate) refl (passed (not (x.locate == locate)) LocateMismatch (later x) none).0)

-- the locate of a price at which a message changes orders is that of the message
price_there : (o : Option Order) (l : ℕ) (later : Order → Option Refusal) (price : Order → ChangedPrice) → ((x : Order) → (price x).locate ≡ x.locate) → (at : ChangedPrice)
    → order_reason o l later ≡ None → option_map price o ≡ Some at → Some l ≡ Some at.locate
price_there o l later price same at none is =
    let found = found_order o l later none in
    let this : Some (price found.0) ≡ Some at = ap (option_map price) (sym found.1) ∙ is in
    let one : price found.0 ≡ at = cc in
    ap Some (sym found.2 ∙ sym (same found.0) ∙ ap (λ (p : ChangedPrice). p.locate) one)

add_there : (added at : ChangedPrice) → Some added ≡ Some at → Some added.locate ≡ Some at.locate
add_there added at is = let one : added ≡ at = cc in ap (λ (p : ChangedPrice). Some p.locate) one

pub changed_locate : (m : Content) (x : Message) (at : ChangedPrice) → reason m x ≡ None → changed_price m.orders x ≡ Some at → locate_of x ≡ Some at.locate
changed_locate m (is.SystemEvent x) at none is = absurd (cc is)
changed_locate m (is.StockDirectory x) at none is = absurd (cc is)
changed_locate m (is.TradingAction x) at none is = absurd (cc is)
changed_locate m (is.RegSho x) at none is = absurd (cc is)
changed_locate m (is.Halt x) at none is = absurd (cc is)
changed_locate m (is.Position x) at none is = absurd (cc is)
changed_locate m (is.AddOrder x) at none is = add_there (price_of_add x) at is
changed_locate m (is.AttributedAddOrder x) at none is = add_there (price_of_add x.order) at is
changed_locate m (is.OrderExecuted x) at none is = price_there (book.get m.orders x.reference) x.header.locate _ price_of_order (λ o. refl) at none is
changed_locate m (is.OrderExecutedWithPrice x) at none is = price_there (book.get m.orders x.execution.reference) x.execution.header.locate _ price_of_order (λ o. refl) at none is
changed_locate m (is.OrderCancel x) at none is = price_there (book.get m.orders x.reference) x.header.locate _ price_of_order (λ o. refl) at none is
changed_locate m (is.OrderDelete x) at none is = price_there (book.get m.orders x.reference) x.header.locate _ price_of_order (λ o. refl) at none is
changed_locate m (is.OrderReplace x) at none is = price_there (book.get m.orders x.original) x.header.locate _ (replaced_by x.price) (λ o. refl) at none is
changed_locate m (is.Trade x) at none is = absurd (cc is)
changed_locate m (is.CrossTrade x) at none is = absurd (cc is)
changed_locate m (is.BrokenTrade x) at none is = absurd (cc is)
changed_locate m (is.End next) at none is = absurd (cc is)
changed_locate m (is.Other payload) at none is = absurd (cc is)

module _ (m : Content) (good : IsGood m) (in_order : laid m ≡ m) where
  nothing_changes : book.lay m.orders ≡ m.orders
  nothing_changes = ap Content.orders in_order

  at_order : (x : Order) → is_elsewhere (price_of_order x) x ≡ false
  at_order x = not_elsewhere x.locate x.side x.price x refl refl (not_itself x.side x.price)

  after_add : (x : Order) → DifferAt (Some (price_of_order x)) m.orders (book.lay (book.added x m.orders))
  after_add x = laid_same (price_of_order x) m (book.added x m.orders) in_order (added_here (price_of_order x) m.orders x (at_order x))

  after_take : (r n l : ℕ) (later : Order → Option Refusal) → order_reason (book.get m.orders r) l later ≡ None
      → DifferAt (option_map price_of_order (book.get m.orders r)) m.orders (book.lay (book.taken r n m.orders))
  after_take r n l later none =
      let found = found_order (book.get m.orders r) l later none in
      let at : ChangedPrice = price_of_order found.0 in
      subst (λ o. DifferAt (option_map price_of_order o) m.orders (book.lay (book.taken r n m.orders))) (sym found.1)
      (laid_same at m (book.taken r n m.orders) in_order (taken_here at m good r found.0 found.1 (at_order found.0) n))

  after_delete : (r l : ℕ) (later : Order → Option Refusal) → order_reason (book.get m.orders r) l later ≡ None
      → DifferAt (option_map price_of_order (book.get m.orders r)) m.orders (book.lay (book.without r m.orders))
  after_delete r l later none =
      let found = found_order (book.get m.orders r) l later none in
      let at : ChangedPrice = price_of_order found.0 in
      subst (λ o. DifferAt (option_map price_of_order o) m.orders (book.lay (book.without r m.orders))) (sym found.1)
      (laid_same at m (book.without r m.orders) in_order (without_here at m good r found.0 found.1 (at_order found.0)))

  after_replace : (x : OrderReplace) (l : ℕ) (later : Order → Option Refusal) → order_reason (book.get m.orders x.original) l later ≡ None
      → DifferAt (option_map (replaced_by x.price) (book.get m.orders x.original)) m.orders (book.lay (book.replaced x.original x.reference x.shares x.price m.orders))
  after_replace x l later none =
      let found = found_order (book.get m.orders x.original) l later none in
      let old : Order = found.0 in
      let new : Order = record old { reference = x.reference; shares = x.shares; price = x.price } in
      let at : ChangedPrice = replaced_by x.price old in
      let was : is_elsewhere at old ≡ false = not_elsewhere old.locate old.side at.price old refl refl (not_better_first old.side old.price x.price) in
      let now : is_elsewhere at new ≡ false = not_elsewhere old.locate old.side at.price new refl refl (not_better_second old.side old.price x.price) in
      subst (λ o. DifferAt (option_map (replaced_by x.price) o) m.orders (book.lay (book.replaced_by o x.original x.reference x.shares x.price m.orders))) (sym found.1)
      (laid_same at m (book.without x.original m.orders ++ new ∷ []) in_order
      (added_here at (book.without x.original m.orders) new now ∙ without_here at m good x.original old found.1 was))

  -- the orders before a message and after it
  pub orders_differ : (x : Message) → reason m x ≡ None → DifferAt (changed_price m.orders x) m.orders (book.lay (effect m x).orders)
  orders_differ (is.SystemEvent x) none = nothing_changes
  orders_differ (is.StockDirectory x) none = nothing_changes
  orders_differ (is.TradingAction x) none = nothing_changes
  orders_differ (is.RegSho x) none = nothing_changes
  orders_differ (is.Halt x) none = nothing_changes
  orders_differ (is.Position x) none = nothing_changes
  orders_differ (is.AddOrder x) none = after_add (order_of x None)
  orders_differ (is.AttributedAddOrder x) none = after_add (order_of x.order (Some x.attribution))
  orders_differ (is.OrderExecuted x) none = after_take x.reference x.shares x.header.locate _ none
  orders_differ (is.OrderExecutedWithPrice x) none = after_take x.execution.reference x.execution.shares x.execution.header.locate _ none
  orders_differ (is.OrderCancel x) none = after_take x.reference x.shares x.header.locate _ none
  orders_differ (is.OrderDelete x) none = after_delete x.reference x.header.locate _ none
  orders_differ (is.OrderReplace x) none = after_replace x x.header.locate _ none
  orders_differ (is.Trade x) none = nothing_changes
  orders_differ (is.CrossTrade x) none = nothing_changes
  orders_differ (is.BrokenTrade x) none = nothing_changes
  orders_differ (is.End next) none = nothing_changes
  orders_differ (is.Other payload) none = nothing_changes
