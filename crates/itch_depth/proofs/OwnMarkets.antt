-- The market of some locates after each message that a market takes.
use Rattle.std.proofs.Common.{◌≡◌, ℕ, ◌==◌, eqb, Bool, true, false, cond, not, List, [], ◌∷◌, bytes_eq, Option, None, Some, IsSome, is_some, nat_cmp, option_map, refl, sym, ap, ap₂, ◌∙◌, subst, arith}
use Rattle.std.specs.List.{filter, AllByRecursion}
use Rattle.std.specs.FinMap as finite
use Rattle.std.proofs.lemmas.Bool.Decides.{nat_tests}
use Rattle.std.proofs.lemmas.Slice.Eq.{bytes_eq-Decides}
use Rattle.itch_codec.specs.Headers.{header}
use Rattle.itch_codec.specs.declared.message.Message.{Message}
use Rattle.itch_codec.specs.declared.message.Message.TheVariants as is
use Rattle.itch_codec.specs.declared.stocks.Directory.{Directory}
use Rattle.itch_codec.specs.declared.stocks.StockDirectory.{StockDirectory}
use Rattle.itch_book.specs.declared.order.Order.{Order}
use Rattle.itch_book.specs.Orders as book
use Rattle.itch_book.proofs.Lists.{All-found_rec, All-weaker_rec, filter_within}
use Rattle.itch_book.proofs.BookLemmas.{lay-filter}
use Rattle.itch_market.specs.declared.refusal.Refusal.{Refusal}
use Rattle.itch_market.specs.declared.refusal.Refusal.TheVariants.{LocateMismatch, StockMismatch}
use Rattle.itch_market.specs.Content.{Content, Listing, empty, laid}
use Rattle.itch_market.specs.Effects.{action_of, changed, changed_at, effect, entered, order_of, position_of, with_action, with_halt, with_position, with_sho}
use Rattle.itch_market.specs.GoodMarkets.{IsGood, IsListed}
use Rattle.itch_market.specs.Partial.{is_out, locate_of, only, skips}
use Rattle.itch_market.specs.Reasons.{directory_reason, order_reason, reason, security_reason}
use Rattle.itch_market.proofs.AllowedMessages.{passed}
use Rattle.itch_market.proofs.Maps.{get-insert}
use Rattle.itch_market.proofs.Partials.{IsKept, kept_message}
use Rattle.itch_depth.specs.ChangedPrices.{changed_price, is_elsewhere}
use Rattle.itch_depth.specs.declared.changes.changed_price.ChangedPrice.{ChangedPrice}
use Rattle.itch_depth.proofs.ChangedOrders.{DifferAt, changed_locate, orders_differ}
use Rattle.itch_depth.specs.Own.{IsOwn, concerns, is_located, own_stock, stock_at}

-- ---- the effects of messages

stock_kept : (m : Content) (l : ℕ) (change : Listing → Listing) → ((s : Listing) → (change s).entry ≡ s.entry) → (at : ℕ)
    → option_map (λ (s : Listing). s.entry.stock) (finite.get (changed change at m.securities) l) ≡ stock_at m l
stock_kept m l change same at = by_found (finite.get m.securities at) refl where
  by_found : (o : Option Listing) → finite.get m.securities at ≡ o → option_map (λ (s : Listing). s.entry.stock) (finite.get (changed_at change at o m.securities) l) ≡ stock_at m l
  by_found None there = refl
  by_found (Some s) there = ap (option_map (λ (x : Listing). x.entry.stock)) (get-insert m.securities at (change s) l) ∙ by_key (eqb l at) refl where
    by_key : (b : Bool) → eqb l at ≡ b → option_map (λ (x : Listing). x.entry.stock) (cond b (Some (change s)) (finite.get m.securities l)) ≡ stock_at m l
    by_key true on =
        let here : l ≡ at = grind (arith, nat_tests) in
        ap (λ (x : Directory). Some x.stock) (same s) ∙ sym (ap (λ q. option_map (λ (x : Listing). x.entry.stock) (finite.get m.securities q)) here ∙ ap (option_map (λ (x : Listing). x.entry.stock)) there)
    by_key false off = refl

-- the message is an entry of the directory
abbrev pub is_entry : Message → Bool
is_entry (is.StockDirectory x) = true
is_entry message = false

-- other messages change no stock
pub stocks_kept : (m : Content) (x : Message) → is_entry x ≡ false → (l : ℕ) → stock_at (effect m x) l ≡ stock_at m l
stocks_kept m (is.SystemEvent x) other l = refl
stocks_kept m (is.StockDirectory x) other l = absurd (cc other)
stocks_kept m (is.TradingAction x) other l = stock_kept m l (with_action (action_of x)) (λ s. refl) x.header.locate
stocks_kept m (is.RegSho x) other l = stock_kept m l (with_sho x.action) (λ s. refl) x.header.locate
stocks_kept m (is.Halt x) other l = stock_kept m l (with_halt x.market_code x.action) (λ s. refl) x.header.locate
stocks_kept m (is.Position x) other l = stock_kept m l (with_position x.mpid (position_of x)) (λ s. refl) x.header.locate
stocks_kept m (is.AddOrder x) other l = refl
stocks_kept m (is.AttributedAddOrder x) other l = refl
stocks_kept m (is.OrderExecuted x) other l = refl
stocks_kept m (is.OrderExecutedWithPrice x) other l = refl
stocks_kept m (is.OrderCancel x) other l = refl
stocks_kept m (is.OrderDelete x) other l = refl
stocks_kept m (is.OrderReplace x) other l = refl
stocks_kept m (is.Trade x) other l = refl
stocks_kept m (is.CrossTrade x) other l = refl
stocks_kept m (is.BrokenTrade x) other l = refl
stocks_kept m (is.End next) other l = refl
stocks_kept m (is.Other payload) other l = refl

-- an entry sets the stock of its locate
pub stock_set : (m : Content) (x : StockDirectory) (l : ℕ) → stock_at (effect m (is.StockDirectory x)) l ≡ cond (eqb l x.header.locate) (Some x.entry.stock) (stock_at m l)
stock_set m x l =
    ap (option_map (λ (s : Listing). s.entry.stock)) (get-insert m.securities x.header.locate (entered (finite.get m.securities x.header.locate) x.entry) l)
    ∙ by_key (eqb l x.header.locate) (finite.get m.securities x.header.locate) where
      by_key : (b : Bool) (o : Option Listing) → option_map (λ (s : Listing). s.entry.stock) (cond b (Some (entered o x.entry)) (finite.get m.securities l)) ≡ cond b (Some x.entry.stock) (stock_at m l)
      by_key true None = refl
      by_key true (Some s) = refl
      by_key false o = refl

-- a message has the same effect on the same orders
same_effect : (m n : Content) (x : Message) → m.orders ≡ n.orders → (effect m x).orders ≡ (effect n x).orders
same_effect m n (is.SystemEvent x) same = same
same_effect m n (is.StockDirectory x) same = same
same_effect m n (is.TradingAction x) same = same
same_effect m n (is.RegSho x) same = same
same_effect m n (is.Halt x) same = same
same_effect m n (is.Position x) same = same
same_effect m n (is.AddOrder x) same = ap (book.added (order_of x None)) same
same_effect m n (is.AttributedAddOrder x) same = ap (book.added (order_of x.order (Some x.attribution))) same
same_effect m n (is.OrderExecuted x) same = ap (book.taken x.reference x.shares) same
same_effect m n (is.OrderExecutedWithPrice x) same = ap (book.taken x.execution.reference x.execution.shares) same
same_effect m n (is.OrderCancel x) same = ap (book.taken x.reference x.shares) same
same_effect m n (is.OrderDelete x) same = ap (book.without x.reference) same
same_effect m n (is.OrderReplace x) same = ap (book.replaced x.original x.reference x.shares x.price) same
same_effect m n (is.Trade x) same = same
same_effect m n (is.CrossTrade x) same = same
same_effect m n (is.BrokenTrade x) same = same
same_effect m n (is.End next) same = same
same_effect m n (is.Other payload) same = same

-- the locate of a message is that of its header
located : (own : Content) (x : Message) (l : ℕ) → locate_of x ≡ Some l → is_located own (header x) ≡ is_some (finite.get own.securities l)
located own (is.SystemEvent x) l there = cc
located own (is.StockDirectory x) l there = let here : x.header.locate ≡ l = cc in ap (λ q. is_some (finite.get own.securities q)) here
located own (is.TradingAction x) l there = let here : x.header.locate ≡ l = cc in ap (λ q. is_some (finite.get own.securities q)) here
located own (is.RegSho x) l there = let here : x.header.locate ≡ l = cc in ap (λ q. is_some (finite.get own.securities q)) here
located own (is.Halt x) l there = let here : x.header.locate ≡ l = cc in ap (λ q. is_some (finite.get own.securities q)) here
located own (is.Position x) l there = let here : x.header.locate ≡ l = cc in ap (λ q. is_some (finite.get own.securities q)) here
located own (is.AddOrder x) l there = let here : x.header.locate ≡ l = cc in ap (λ q. is_some (finite.get own.securities q)) here
located own (is.AttributedAddOrder x) l there = let here : x.order.header.locate ≡ l = cc in ap (λ q. is_some (finite.get own.securities q)) here
located own (is.OrderExecuted x) l there = let here : x.header.locate ≡ l = cc in ap (λ q. is_some (finite.get own.securities q)) here
located own (is.OrderExecutedWithPrice x) l there = let here : x.execution.header.locate ≡ l = cc in ap (λ q. is_some (finite.get own.securities q)) here
located own (is.OrderCancel x) l there = let here : x.header.locate ≡ l = cc in ap (λ q. is_some (finite.get own.securities q)) here
located own (is.OrderDelete x) l there = let here : x.header.locate ≡ l = cc in ap (λ q. is_some (finite.get own.securities q)) here
located own (is.OrderReplace x) l there = let here : x.header.locate ≡ l = cc in ap (λ q. is_some (finite.get own.securities q)) here
located own (is.Trade x) l there = cc
located own (is.CrossTrade x) l there = cc
located own (is.BrokenTrade x) l there = cc
located own (is.End next) l there = cc
located own (is.Other payload) l there = cc

is_its : (own : Content) (w : ℕ → Option (List ℕ) → Bool) (x : Message) → is_entry x ≡ false → concerns w own x ≡ is_located own (header x)
is_its own w (is.SystemEvent x) other = refl
is_its own w (is.StockDirectory x) other = absurd (cc other)
is_its own w (is.TradingAction x) other = refl
is_its own w (is.RegSho x) other = refl
is_its own w (is.Halt x) other = refl
is_its own w (is.Position x) other = refl
is_its own w (is.AddOrder x) other = refl
is_its own w (is.AttributedAddOrder x) other = refl
is_its own w (is.OrderExecuted x) other = refl
is_its own w (is.OrderExecutedWithPrice x) other = refl
is_its own w (is.OrderCancel x) other = refl
is_its own w (is.OrderDelete x) other = refl
is_its own w (is.OrderReplace x) other = refl
is_its own w (is.Trade x) other = refl
is_its own w (is.CrossTrade x) other = refl
is_its own w (is.BrokenTrade x) other = refl
is_its own w (is.End next) other = refl
is_its own w (is.Other payload) other = refl

-- ---- the locates of messages that a market takes

order_there : (m : Content) (r l : ℕ) (later : Order → Option Refusal) → IsGood m → order_reason (book.get m.orders r) l later ≡ None → IsSome (finite.get m.securities l)
order_there m r l later good none = by_found (book.get m.orders r) refl none where
  by_found : (o : Option Order) → book.get m.orders r ≡ o → order_reason o l later ≡ None → IsSome (finite.get m.securities l)
  by_found None there fails = absurd (cc fails)
  by_found (Some x) there fine =
      let here = passed (not (x.locate == l)) LocateMismatch (later x) fine in
      let same : x.locate ≡ l = at_locate (x.locate == l) refl here.0 in
      subst (λ q. IsSome (finite.get m.securities q)) same (All-found_rec (IsListed m.securities) (book.has_reference r) m.orders x good.listed there) where
        at_locate : (b : Bool) → (x.locate == l) ≡ b → not b ≡ false → x.locate ≡ l
        at_locate true on h = grind (arith, nat_tests)
        at_locate false off h = absurd (cc h)

security_there : (o : Option Listing) (stock : List ℕ) (later : Option Refusal) → security_reason o stock later ≡ None → IsSome o
security_there None stock later none = absurd (cc none)
security_there (Some s) stock later none = refl

listed : (m : Content) (x : Message) (l : ℕ) → IsGood m → is_entry x ≡ false → reason m x ≡ None → locate_of x ≡ Some l → IsSome (finite.get m.securities l)
listed m (is.SystemEvent x) l good other none there = absurd (cc there)
listed m (is.StockDirectory x) l good other none there = absurd (cc other)
listed m (is.TradingAction x) l good other none there = let here : x.header.locate ≡ l = cc in subst (λ q. IsSome (finite.get m.securities q)) here (security_there _ x.stock None none)
listed m (is.RegSho x) l good other none there = let here : x.header.locate ≡ l = cc in subst (λ q. IsSome (finite.get m.securities q)) here (security_there _ x.stock None none)
listed m (is.Halt x) l good other none there = let here : x.header.locate ≡ l = cc in subst (λ q. IsSome (finite.get m.securities q)) here (security_there _ x.stock None none)
listed m (is.Position x) l good other none there = let here : x.header.locate ≡ l = cc in subst (λ q. IsSome (finite.get m.securities q)) here (security_there _ x.stock None none)
listed m (is.AddOrder x) l good other none there = let here : x.header.locate ≡ l = cc in subst (λ q. IsSome (finite.get m.securities q)) here (security_there _ x.stock _ none)
listed m (is.AttributedAddOrder x) l good other none there = let here : x.order.header.locate ≡ l = cc in subst (λ q. IsSome (finite.get m.securities q)) here (security_there _ x.order.stock _ none)
listed m (is.OrderExecuted x) l good other none there = let here : x.header.locate ≡ l = cc in subst (λ q. IsSome (finite.get m.securities q)) here (order_there m x.reference x.header.locate _ good none)
listed m (is.OrderExecutedWithPrice x) l good other none there =
    let here : x.execution.header.locate ≡ l = cc in subst (λ q. IsSome (finite.get m.securities q)) here (order_there m x.execution.reference x.execution.header.locate _ good none)
listed m (is.OrderCancel x) l good other none there = let here : x.header.locate ≡ l = cc in subst (λ q. IsSome (finite.get m.securities q)) here (order_there m x.reference x.header.locate _ good none)
listed m (is.OrderDelete x) l good other none there = let here : x.header.locate ≡ l = cc in subst (λ q. IsSome (finite.get m.securities q)) here (order_there m x.reference x.header.locate _ good none)
listed m (is.OrderReplace x) l good other none there = let here : x.header.locate ≡ l = cc in subst (λ q. IsSome (finite.get m.securities q)) here (order_there m x.original x.header.locate _ good none)
listed m (is.Trade x) l good other none there = absurd (cc there)
listed m (is.CrossTrade x) l good other none there = absurd (cc there)
listed m (is.BrokenTrade x) l good other none there = absurd (cc there)
listed m (is.End next) l good other none there = absurd (cc there)
listed m (is.Other payload) l good other none there = absurd (cc there)

-- ---- the market of the locates that are kept apart

module _ (w : ℕ → Option (List ℕ) → Bool) where
  -- the locates of a market that are kept apart
  abbrev pub kept_in : Content → ℕ → Bool
  kept_in m l = w l (stock_at m l)

  -- the stock of a locate in the market of these locates
  abbrev own_of : ℕ → Option (List ℕ) → Option (List ℕ)
  own_of l stock = own_stock (w l stock) stock

  -- with the same stocks, the same locates are kept apart
  same_wanted : (m n : Content) → ((l : ℕ) → stock_at n l ≡ stock_at m l) → kept_in n ≡ kept_in m
  same_wanted m n same = λ i l. ap (w l) (same l) i

  nothing_own : (l : ℕ) (b : Bool) → own_stock b None ≡ None
  nothing_own l true = refl
  nothing_own l false = refl

  module _ (m own : Content) (is_own : IsOwn w m own) (good : IsGood m) (in_order : laid m ≡ m) where
    -- the orders of the stock are laid
    own_laid : book.lay own.orders ≡ own.orders
    own_laid =
        ap book.lay is_own.orders ∙ lay-filter (λ x. kept_in m x.locate) m.orders
        ∙ ap (λ (n : Content). filter (λ x. kept_in m x.locate) n.orders) in_order ∙ sym is_own.orders

    -- the locate of a message about another stock is not wanted
    unwanted : (x : Message) (l : ℕ) → is_entry x ≡ false → reason m x ≡ None → concerns w own x ≡ false → locate_of x ≡ Some l → kept_in m l ≡ false
    unwanted x l other none far there =
        let gone : is_some (finite.get own.securities l) ≡ false = sym (located own x l there) ∙ sym (is_its own w x other) ∙ far in
        out (kept_in m l) (finite.get m.securities l) (finite.get own.securities l) (IsOwn.listed is_own l) (listed m x l good other none there) gone where
          out : (b : Bool) (o p : Option Listing) → option_map (λ (s : Listing). s.entry.stock) p ≡ own_stock b (option_map (λ (s : Listing). s.entry.stock) o) → IsSome o → is_some p ≡ false → b ≡ false
          out false o p is some none = refl
          out true None p is some none = absurd (cc some)
          out true (Some s) None is some none = absurd (cc is)
          out true (Some s) (Some t) is some none = absurd (cc none)

    -- such a message changes no order of the stock
    orders_kept : (x : Message) → is_entry x ≡ false → reason m x ≡ None → concerns w own x ≡ false
        → filter (λ y. kept_in m y.locate) (book.lay (effect m x).orders) ≡ filter (λ y. kept_in m y.locate) m.orders
    orders_kept x other none far = by_price (changed_price m.orders x) refl (orders_differ m good in_order x none) where
      apart : (at : ChangedPrice) → kept_in m at.locate ≡ false → (y : Order) → kept_in m y.locate ≡ true → is_elsewhere at y ≡ true
      apart at out y has = by_locate (y.locate == at.locate) refl where
        by_locate : (b : Bool) → (y.locate == at.locate) ≡ b → is_elsewhere at y ≡ true
        by_locate true on = let here : y.locate ≡ at.locate = grind (arith, nat_tests) in absurd (cc (sym has ∙ ap (kept_in m) here ∙ out))
        by_locate false off = simp off refl

      by_price : (o : Option ChangedPrice) → changed_price m.orders x ≡ o → DifferAt o m.orders (book.lay (effect m x).orders)
          → filter (λ y. kept_in m y.locate) (book.lay (effect m x).orders) ≡ filter (λ y. kept_in m y.locate) m.orders
      by_price None is same = ap (filter (λ y. kept_in m y.locate)) same
      by_price (Some at) is same =
          let all = apart at (unwanted x at.locate other none far (changed_locate m x at none is)) in
          let has : Order → Bool = λ y. kept_in m y.locate in
          sym (filter_within has (is_elsewhere at) all (book.lay (effect m x).orders)) ∙ ap (filter has) same ∙ filter_within has (is_elsewhere at) all m.orders

    wanted_here : (x : Message) → is_entry x ≡ false → concerns w own x ≡ true → skips (kept_in m) x ≡ false
    wanted_here x other near = by_locate (locate_of x) refl where
      here : (b : Bool) (o p : Option Listing) → option_map (λ (s : Listing). s.entry.stock) p ≡ own_stock b (option_map (λ (s : Listing). s.entry.stock) o) → is_some p ≡ true → not b ≡ false
      here true o p is some = refl
      here false o None is some = absurd (cc some)
      here false o (Some t) is some = absurd (cc is)

      by_locate : (o : Option ℕ) → locate_of x ≡ o → skips (kept_in m) x ≡ false
      by_locate None there = ap (is_out (kept_in m)) there
      by_locate (Some l) there =
          ap (is_out (kept_in m)) there
          ∙ here (kept_in m l) (finite.get m.securities l) (finite.get own.securities l) (IsOwn.listed is_own l) (sym (located own x l there) ∙ sym (is_its own w x other) ∙ near)

    -- the directory after an entry that the market takes
    same_stock : (x : StockDirectory) → reason m (is.StockDirectory x) ≡ None → (stock : List ℕ) → stock_at m x.header.locate ≡ Some stock → stock ≡ x.entry.stock
    same_stock x none stock there = by_found (finite.get m.securities x.header.locate) none there where
      by_found : (o : Option Listing) → directory_reason o x.entry.stock ≡ None → option_map (λ (s : Listing). s.entry.stock) o ≡ Some stock → stock ≡ x.entry.stock
      by_found None fine is = absurd (cc is)
      by_found (Some s) fine is =
          let this : s.entry.stock ≡ stock = cc in
          let test = passed (not (bytes_eq s.entry.stock x.entry.stock)) StockMismatch None fine in
          sym this ∙ (bytes_eq-Decides s.entry.stock x.entry.stock).0 (yes_from (bytes_eq s.entry.stock x.entry.stock) test.0) where
            yes_from : (b : Bool) → not b ≡ false → b ≡ true
            yes_from true h = refl
            yes_from false h = absurd (cc h)

    -- an order's locate has the stock before an entry exactly if it has it after it
    still_wanted : (x : StockDirectory) → reason m (is.StockDirectory x) ≡ None
        → filter (λ y. kept_in (effect m (is.StockDirectory x)) y.locate) m.orders ≡ filter (λ y. kept_in m y.locate) m.orders
    still_wanted x none = agree _ _ m.orders (All-weaker_rec (IsListed m.securities) (λ y. kept_in (effect m (is.StockDirectory x)) y.locate ≡ kept_in m y.locate) each m.orders good.listed) where
      by_key : (l : ℕ) (b : Bool) (o : Option (List ℕ)) → eqb l x.header.locate ≡ b → stock_at m l ≡ o → is_some o ≡ true → cond b (Some x.entry.stock) (stock_at m l) ≡ stock_at m l
      by_key l false o off is some = refl
      by_key l true None on is some = absurd (cc some)
      by_key l true (Some stock) on is some =
          let here : l ≡ x.header.locate = grind (arith, nat_tests) in
          ap Some (sym (same_stock x none stock (ap (stock_at m) (sym here) ∙ is))) ∙ sym is

      some_stock : (o : Option Listing) → IsSome o → is_some (option_map (λ (s : Listing). s.entry.stock) o) ≡ true
      some_stock None some = absurd (cc some)
      some_stock (Some s) some = refl

      each : (y : Order) → IsListed m.securities y → kept_in (effect m (is.StockDirectory x)) y.locate ≡ kept_in m y.locate
      each y there =
          ap (w y.locate) (stock_set m x y.locate ∙ by_key y.locate (eqb y.locate x.header.locate) (stock_at m y.locate) refl refl (some_stock (finite.get m.securities y.locate) there))

      agree : (p q : Order → Bool) (ys : List Order) → AllByRecursion (λ y. p y ≡ q y) ys → filter p ys ≡ filter q ys
      agree p q [] h = refl
      agree p q (y ∷ ys) h = ap₂ (λ b zs. cond b (y ∷ zs) zs) h.0 (agree p q ys h.1)

    entry_far : (x : StockDirectory) → reason m (is.StockDirectory x) ≡ None → w x.header.locate (Some x.entry.stock) ≡ false → (l : ℕ) → stock_at own l ≡ own_of l (stock_at (effect m (is.StockDirectory x)) l)
    entry_far x none far l = IsOwn.listed is_own l ∙ by_key (eqb l x.header.locate) refl ∙ ap (own_of l) (sym (stock_set m x l)) where
      at_entry : (o : Option (List ℕ)) → stock_at m x.header.locate ≡ o → own_of x.header.locate o ≡ None
      at_entry None is = nothing_own l (w x.header.locate None)
      at_entry (Some stock) is = ap (λ t. own_of x.header.locate (Some t)) (same_stock x none stock is) ∙ ap (λ b. own_stock b (Some x.entry.stock)) far

      by_key : (b : Bool) → eqb l x.header.locate ≡ b → own_of l (stock_at m l) ≡ own_of l (cond b (Some x.entry.stock) (stock_at m l))
      by_key false off = refl
      by_key true on =
          let here : l ≡ x.header.locate = grind (arith, nat_tests) in
          ap (λ q. own_of q (stock_at m q)) here ∙ at_entry (stock_at m x.header.locate) refl
          ∙ sym (ap (λ q. own_of q (Some x.entry.stock)) here ∙ ap (λ b. own_stock b (Some x.entry.stock)) far)

    entry_near : (x : StockDirectory) → w x.header.locate (Some x.entry.stock) ≡ true → (l : ℕ) → stock_at (effect own (is.StockDirectory x)) l ≡ own_of l (stock_at (effect m (is.StockDirectory x)) l)
    entry_near x near l =
        stock_set own x l ∙ ap (cond (eqb l x.header.locate) (Some x.entry.stock)) (IsOwn.listed is_own l)
        ∙ by_key (eqb l x.header.locate) refl ∙ ap (own_of l) (sym (stock_set m x l)) where
          by_key : (b : Bool) → eqb l x.header.locate ≡ b → cond b (Some x.entry.stock) (own_of l (stock_at m l)) ≡ own_of l (cond b (Some x.entry.stock) (stock_at m l))
          by_key false off = refl
          by_key true on =
              let here : l ≡ x.header.locate = grind (arith, nat_tests) in
              sym (ap (λ q. own_of q (Some x.entry.stock)) here ∙ ap (λ b. own_stock b (Some x.entry.stock)) near)

    -- a message about another stock leaves the market of the stock
    pub far_message : (x : Message) → reason m x ≡ None → concerns w own x ≡ false → IsOwn w (laid (effect m x)) own
    far_message x none far = by_kind (is_entry x) refl where
      after_entry : (y : StockDirectory) → reason m (is.StockDirectory y) ≡ None → w y.header.locate (Some y.entry.stock) ≡ false → IsOwn w (laid (effect m (is.StockDirectory y))) own
      after_entry y fine out = record {
        listed = entry_far y fine out;
        orders = is_own.orders ∙ sym (ap (λ (n : Content). filter (λ z. kept_in (effect m (is.StockDirectory y)) z.locate) n.orders) in_order ∙ still_wanted y fine);
      }

      is_directory : (x : Message) → is_entry x ≡ true → reason m x ≡ None → concerns w own x ≡ false → IsOwn w (laid (effect m x)) own
      is_directory (is.StockDirectory y) entry fine out = after_entry y fine out
      is_directory (is.SystemEvent y) entry fine out = absurd (cc entry)
      is_directory (is.TradingAction y) entry fine out = absurd (cc entry)
      is_directory (is.RegSho y) entry fine out = absurd (cc entry)
      is_directory (is.Halt y) entry fine out = absurd (cc entry)
      is_directory (is.Position y) entry fine out = absurd (cc entry)
      is_directory (is.AddOrder y) entry fine out = absurd (cc entry)
      is_directory (is.AttributedAddOrder y) entry fine out = absurd (cc entry)
      is_directory (is.OrderExecuted y) entry fine out = absurd (cc entry)
      is_directory (is.OrderExecutedWithPrice y) entry fine out = absurd (cc entry)
      is_directory (is.OrderCancel y) entry fine out = absurd (cc entry)
      is_directory (is.OrderDelete y) entry fine out = absurd (cc entry)
      is_directory (is.OrderReplace y) entry fine out = absurd (cc entry)
      is_directory (is.Trade y) entry fine out = absurd (cc entry)
      is_directory (is.CrossTrade y) entry fine out = absurd (cc entry)
      is_directory (is.BrokenTrade y) entry fine out = absurd (cc entry)
      is_directory (is.End next) entry fine out = absurd (cc entry)
      is_directory (is.Other payload) entry fine out = absurd (cc entry)

      by_kind : (b : Bool) → is_entry x ≡ b → IsOwn w (laid (effect m x)) own
      by_kind true entry = is_directory x entry none far
      by_kind false other = record {
        listed = λ l. IsOwn.listed is_own l ∙ ap (own_of l) (sym (stocks_kept m x other l));
        orders = is_own.orders ∙ sym (ap (λ (v : ℕ → Bool). filter (λ y. v y.locate) (book.lay (effect m x).orders)) (same_wanted m (effect m x) (stocks_kept m x other)) ∙ orders_kept x other none far);
      }

    -- a message about the stock has its effect there
    pub near_message : (x : Message) → reason m x ≡ None → concerns w own x ≡ true → IsOwn w (laid (effect m x)) (laid (effect own x))
    near_message x none near = by_kind (is_entry x) refl where
      after_entry : (y : StockDirectory) → reason m (is.StockDirectory y) ≡ None → w y.header.locate (Some y.entry.stock) ≡ true → IsOwn w (laid (effect m (is.StockDirectory y))) (laid (effect own (is.StockDirectory y)))
      after_entry y fine in_it = record {
        listed = entry_near y in_it;
        orders = own_laid ∙ is_own.orders ∙ sym (ap (λ (n : Content). filter (λ z. kept_in (effect m (is.StockDirectory y)) z.locate) n.orders) in_order ∙ still_wanted y fine);
      }

      is_directory : (x : Message) → is_entry x ≡ true → reason m x ≡ None → concerns w own x ≡ true → IsOwn w (laid (effect m x)) (laid (effect own x))
      is_directory (is.StockDirectory y) entry fine in_it = after_entry y fine in_it
      is_directory (is.SystemEvent y) entry fine out = absurd (cc entry)
      is_directory (is.TradingAction y) entry fine out = absurd (cc entry)
      is_directory (is.RegSho y) entry fine out = absurd (cc entry)
      is_directory (is.Halt y) entry fine out = absurd (cc entry)
      is_directory (is.Position y) entry fine out = absurd (cc entry)
      is_directory (is.AddOrder y) entry fine out = absurd (cc entry)
      is_directory (is.AttributedAddOrder y) entry fine out = absurd (cc entry)
      is_directory (is.OrderExecuted y) entry fine out = absurd (cc entry)
      is_directory (is.OrderExecutedWithPrice y) entry fine out = absurd (cc entry)
      is_directory (is.OrderCancel y) entry fine out = absurd (cc entry)
      is_directory (is.OrderDelete y) entry fine out = absurd (cc entry)
      is_directory (is.OrderReplace y) entry fine out = absurd (cc entry)
      is_directory (is.Trade y) entry fine out = absurd (cc entry)
      is_directory (is.CrossTrade y) entry fine out = absurd (cc entry)
      is_directory (is.BrokenTrade y) entry fine out = absurd (cc entry)
      is_directory (is.End next) entry fine out = absurd (cc entry)
      is_directory (is.Other payload) entry fine out = absurd (cc entry)

      by_kind : (b : Bool) → is_entry x ≡ b → IsOwn w (laid (effect m x)) (laid (effect own x))
      by_kind true entry = is_directory x entry none near
      by_kind false other =
          let here : ℕ → Bool = kept_in m in
          record {
            listed = λ l. stocks_kept own x other l ∙ IsOwn.listed is_own l ∙ ap (own_of l) (sym (stocks_kept m x other l));
            orders = ap book.lay (same_effect own (only here m) x is_own.orders ∙ ap Content.orders (IsKept.effect (kept_message here m x none (wanted_here x other near))))
                ∙ lay-filter (λ y. here y.locate) (effect m x).orders
                ∙ sym (ap (λ (v : ℕ → Bool). filter (λ y. v y.locate) (book.lay (effect m x).orders)) (same_wanted m (effect m x) (stocks_kept m x other)));
          }

-- before any message
pub empty_own : (w : ℕ → Option (List ℕ) → Bool) → IsOwn w empty empty
empty_own w = record { listed = λ l. nothing (w l (stock_at empty l)) (stock_at empty l) (none_there l); orders = refl } where
  none_there : (l : ℕ) → stock_at empty l ≡ None
  none_there l = ap (option_map (λ (s : Listing). s.entry.stock)) (finite.get-empty nat_cmp l)

  nothing : (b : Bool) (o : Option (List ℕ)) → o ≡ None → o ≡ own_stock b o
  nothing true o none = refl
  nothing false o none = none
