-- A message that is not refused changes a good market into a good one.
use Rattle.std.proofs.Common.{◌≡◌, ℕ, ◌<◌, ◌^◌, Bool, true, false, cond, List, [], ◌∷◌, Option, Some, None, IsSome, OnOk, OnErr, Result, Ok, Err, eqb, map, refl, subst, arith}
use Rattle.std.proofs.lemmas.Bool.Decides.{nat_tests}
use Rattle.std.specs.List.{AllByRecursion}
use Rattle.std.specs.FinMap as map
use Rattle.std.specs.Ordering.{nat_cmp}
use Rattle.itch_codec.specs.declared.message.Message.{Message}
use Rattle.itch_codec.specs.declared.message.Message.TheVariants as is
use Rattle.itch_codec.specs.declared.orders.AddOrder.{AddOrder}
use Rattle.itch_codec.specs.declared.orders.OrderReplace.{OrderReplace}
use Rattle.itch_codec.specs.declared.stocks.Directory.{Directory}
use Rattle.itch_book.specs.declared.order.Order.{Order}
use Rattle.itch_book.specs.Orders as book
use Rattle.itch_book.proofs.Lists.{by_test, All-append_rec, All-filter_rec, All-map_rec, All-weaker_rec, All-found_rec}
use Rattle.itch_book.proofs.Distinct.{IsDistinct-added, IsDistinct-without, IsDistinct-taken, IsDistinct-replaced, AllAt-added, AllAt-without, AllAt-taken, AllAt-replaced, live_added, live_without, live_taken, live_replaced}
use Rattle.itch_book.proofs.OrderLemmas.{All-lay, IsDistinct-lay}
use Rattle.itch_market.specs.declared.security.Action.{Action}
use Rattle.itch_market.specs.Content.{Content, Securities, empty, laid, Listing}
use Rattle.itch_market.specs.Reasons.{reason, add_reason}
use Rattle.itch_market.specs.Effects.{effect, entered, with_action, with_sho, with_halt, with_position, action_of, position_of, changed_at, changed, order_of}
use Rattle.itch_market.specs.Widths.{IsMaybe, IsAction, IsHalt, IsPosition, IsSecurity, IsOrder}
use Rattle.itch_codec.specs.Fields.{IsAlpha}
use Rattle.itch_codec.specs.Widths.{IsDirectory, IsAddOrder, IsMessage}
use Rattle.itch_market.specs.GoodMarkets.{IsGood, IsListed}
use Rattle.itch_market.specs.Runs.{after, run, FollowsFrom, Follows}
use Rattle.itch_market.proofs.Maps.{get-insert}
use Rattle.itch_market.proofs.Trees.{each_after}
use Rattle.std.specs.Cmp.{nat_cmp_total}
use Rattle.std.specs.Cmp.Lexicographic.{slice_cmp, nat_list_cmp_total}
use Rattle.std.specs.FinMap.{nat_cmp-IsAntisymmetric, slice_cmp-IsAntisymmetric}
use Rattle.itch_market.proofs.AllowedMessages.{allowed_add, allowed_replace}

-- a security that fits, at a locate that fits
abbrev pub IsEntry : ℕ → Listing → Type 0
IsEntry locate s = (locate < 65536) × IsSecurity s

pub empty_good : IsGood empty
empty_good =
    record {
      event = tt;
      securities = λ locate. rw (map.get-empty nat_cmp locate) tt;
      distinct = λ reference. omega arith;
      live = tt;
      listed = tt;
      wide = tt;
    }

pub event_good : (m : Content) (code : ℕ) → IsGood m → code < 256 → IsGood (record m { event = Some code })
event_good m code good fits =
    record {
      event = fits;
      securities = good.securities;
      distinct = good.distinct;
      live = good.live;
      listed = good.listed;
      wide = good.wide;
    }

-- ---- the directory

entry_after : (b : Bool) (locate : ℕ) (s : Listing) (o : Option Listing) → (b ≡ true → IsEntry locate s) → IsMaybe (IsEntry locate) o
    → IsMaybe (IsEntry locate) (cond b (Some s) o)
entry_after true locate s o new old = new refl
entry_after false locate s o new old = old

some_after : {A : Type 0} (b : Bool) (x : A) (o : Option A) → IsSome o → IsSome (cond b (Some x) o)
some_after true x o some = refl
some_after false x o some = some

listed_after : (securities : Securities) (locate : ℕ) (s : Listing) (x : Order) → IsListed securities x → IsListed (map.insert securities locate s) x
listed_after securities locate s x listed = rw (get-insert securities locate s x.locate) (some_after (eqb x.locate locate) s (map.get securities x.locate) listed)

pub inserted_good : (m : Content) (locate : ℕ) (s : Listing) → IsGood m → IsEntry locate s → IsGood (record m { securities = map.insert m.securities locate s })
inserted_good m locate s good entry =
    record {
      event = good.event;
      securities = λ q.
          rw (get-insert m.securities locate s q)
          (entry_after (eqb q locate) q s (map.get m.securities q) (λ same. let there : locate ≡ q = grind (arith, nat_tests) in subst (λ l. IsEntry l s) there entry) (good.securities q));
      distinct = good.distinct;
      live = good.live;
      listed = All-weaker_rec (IsListed m.securities) (IsListed (map.insert m.securities locate s)) (listed_after m.securities locate s) m.orders good.listed;
      wide = good.wide;
    }

-- ---- the data of a security fits after a change

pub new_entry : (s : Listing) (entry : Directory) → IsDirectory entry → IsSecurity s → IsSecurity (record s { entry = entry })
new_entry s entry fits old = record { entry = fits; action = old.action; sho = old.sho; halts = old.halts; positions = old.positions }

pub new_action : (action : Action) → IsAction action → (s : Listing) → IsSecurity s → IsSecurity (with_action action s)
new_action action fits s old = record { entry = old.entry; action = fits; sho = old.sho; halts = old.halts; positions = old.positions }

pub new_sho : (sho : ℕ) → sho < 256 → (s : Listing) → IsSecurity s → IsSecurity (with_sho sho s)
new_sho sho fits s old = record { entry = old.entry; action = old.action; sho = fits; halts = old.halts; positions = old.positions }

pub new_halt : (market_code action : ℕ) → IsHalt market_code action → (s : Listing) → IsSecurity s → IsSecurity (with_halt market_code action s)
new_halt market_code action fits s old = record {
  entry = old.entry;
  action = old.action;
  sho = old.sho;
  halts = each_after nat_cmp_total nat_cmp-IsAntisymmetric IsHalt s.halts market_code action old.halts fits;
  positions = old.positions;
}

pub new_position : (mpid position : List ℕ) → IsPosition mpid position → (s : Listing) → IsSecurity s → IsSecurity (with_position mpid position s)
new_position mpid position fits s old = record {
  entry = old.entry;
  action = old.action;
  sho = old.sho;
  halts = old.halts;
  positions = each_after nat_list_cmp_total (slice_cmp-IsAntisymmetric nat_cmp-IsAntisymmetric) IsPosition s.positions mpid position old.positions fits;
}

entered_fits : (locate : ℕ) (o : Option Listing) (entry : Directory) → IsMaybe (IsEntry locate) o → IsDirectory entry → IsSecurity (entered o entry)
entered_fits locate None entry old fits = record {
  entry = fits;
  action = tt;
  sho = tt;
  halts = λ market_code. rw (map.get-empty nat_cmp market_code) tt;
  positions = λ mpid. rw (map.get-empty (slice_cmp nat_cmp) mpid) tt;
}
entered_fits locate (Some s) entry old fits = new_entry s entry fits old.1

pub entered_good : (m : Content) (locate : ℕ) (entry : Directory) → IsGood m → locate < 65536 → IsDirectory entry
    → IsGood (record m { securities = map.insert m.securities locate (entered (map.get m.securities locate) entry) })
entered_good m locate entry good low fits =
    inserted_good m locate _ good (low, entered_fits locate (map.get m.securities locate) entry (good.securities locate) fits)

changed_at_good : (m : Content) (change : Listing → Listing) (locate : ℕ) → ((s : Listing) → IsSecurity s → IsSecurity (change s)) → IsGood m
    → (o : Option Listing) → IsMaybe (IsEntry locate) o → IsGood (record m { securities = changed_at change locate o m.securities })
changed_at_good m change locate fits good None there = good
changed_at_good m change locate fits good (Some s) there = inserted_good m locate (change s) good (there.0, fits s there.1)

pub changed_good : (m : Content) (change : Listing → Listing) (locate : ℕ) → ((s : Listing) → IsSecurity s → IsSecurity (change s)) → IsGood m
    → IsGood (record m { securities = changed change locate m.securities })
changed_good m change locate fits good = changed_at_good m change locate fits good (map.get m.securities locate) (good.securities locate)

-- ---- the orders

-- good orders for a directory
pub record AreGood (securities : Securities) (orders : List Order) : Type 0 where
  pub distinct : book.IsDistinct orders
  pub live : AllByRecursion book.IsLive orders
  pub listed : AllByRecursion (IsListed securities) orders
  pub wide : AllByRecursion IsOrder orders

pub good_orders : (m : Content) → IsGood m → AreGood m.securities m.orders
good_orders m good = record { distinct = good.distinct; live = good.live; listed = good.listed; wide = good.wide }

pub orders_good : (m : Content) (orders : List Order) → IsGood m → AreGood m.securities orders → IsGood (record m { orders = orders })
orders_good m orders good these =
    record {
      event = good.event;
      securities = good.securities;
      distinct = these.distinct;
      live = these.live;
      listed = these.listed;
      wide = these.wide;
    }

pub laid_good : (m : Content) → IsGood m → IsGood (laid m)
laid_good m good =
    orders_good m (book.lay m.orders) good
    (record {
      distinct = IsDistinct-lay m.orders good.distinct;
      live = All-lay book.IsLive m.orders good.live;
      listed = All-lay (IsListed m.securities) m.orders good.listed;
      wide = All-lay IsOrder m.orders good.wide;
    })

-- good orders after a call that laid them or did not change them
pub laid_or_kept : {T E : Type 0} (result : Result T E) (m : Content) (effect new : List Order) → IsGood m → IsGood (record m { orders = effect })
    → OnOk result (new ≡ book.lay effect) → OnErr result (new ≡ m.orders) → IsGood (record m { orders = new })
laid_or_kept (Ok x) m effect new good after ok err = rw ok (laid_good (record m { orders = effect }) after)
laid_or_kept (Err e) m effect new good after ok err = rw err good

-- a locate of the directory
abbrev IsHere : Securities → ℕ → Type 0
IsHere securities locate = IsSome (map.get securities locate)

pub added_good : (m : Content) (x : AddOrder) (mpid : Option (List ℕ)) → IsGood m → x.header.locate < 65536 → IsOrder (order_of x mpid) → add_reason m x ≡ None
    → IsGood (record m { orders = book.added (order_of x mpid) m.orders })
added_good m x mpid good low fits none =
    let allowed = allowed_add m x none in
    let order = order_of x mpid in
    orders_good m _ good
    (record {
      distinct = IsDistinct-added order m.orders allowed.new_reference good.distinct;
      live = live_added order m.orders (allowed.some_shares, grind (arith, nat_tests)) good.live;
      listed = AllAt-added (IsHere m.securities) order m.orders allowed.listed good.listed;
      wide = All-append_rec IsOrder m.orders (order ∷ []) good.wide (fits, tt);
    })

less_fits : (reference shares : ℕ) (x : Order) → IsOrder x → IsOrder (book.less reference shares x)
less_fits reference shares x fits =
    by_test (book.has_reference reference x)
    (λ same. rw same (record { reference = fits.reference; shares = omega (arith, fits.shares); price = fits.price; mpid = fits.mpid }))
    (λ other. rw other fits)

pub taken_good : (m : Content) (reference shares : ℕ) → IsGood m → IsGood (record m { orders = book.taken reference shares m.orders })
taken_good m reference shares good =
    orders_good m _ good
    (record {
      distinct = IsDistinct-taken reference shares m.orders good.distinct;
      live = live_taken reference shares m.orders good.live;
      listed = AllAt-taken (IsHere m.securities) reference shares m.orders good.listed;
      wide = All-filter_rec IsOrder book.has_shares (map (book.less reference shares) m.orders)
          (All-map_rec IsOrder (book.less reference shares) m.orders (All-weaker_rec IsOrder _ (less_fits reference shares) m.orders good.wide));
    })

wide_without : (reference : ℕ) (orders : List Order) → AllByRecursion IsOrder orders → AllByRecursion IsOrder (book.without reference orders)
wide_without reference orders wide = All-filter_rec IsOrder _ orders wide

pub without_good : (m : Content) (reference : ℕ) → IsGood m → IsGood (record m { orders = book.without reference m.orders })
without_good m reference good =
    orders_good m _ good
    (record {
      distinct = IsDistinct-without reference m.orders good.distinct;
      live = live_without reference m.orders good.live;
      listed = AllAt-without (IsHere m.securities) reference m.orders good.listed;
      wide = wide_without reference m.orders good.wide;
    })

-- the fields of a replacement fit
pub record IsReplacement (x : OrderReplace) : Type 0 where
  pub reference : x.reference < 2 ^ 64
  pub shares : x.shares < 2 ^ 32
  pub price : x.price < 2 ^ 32

wide_replaced : (orders : List Order) (x : OrderReplace) (o : Option Order) → book.get orders x.original ≡ o → AllByRecursion IsOrder orders → IsReplacement x
    → AllByRecursion IsOrder (book.replaced_by o x.original x.reference x.shares x.price orders)
wide_replaced orders x None none wide fits = wide
wide_replaced orders x (Some o) some wide fits =
    let old = All-found_rec IsOrder (book.has_reference x.original) orders o wide some in
    All-append_rec IsOrder (book.without x.original orders) _ (wide_without x.original orders wide)
    (record { reference = fits.reference; shares = fits.shares; price = fits.price; mpid = old.mpid }, tt)

pub replaced_good : (m : Content) (x : OrderReplace) → IsGood m → IsReplacement x → reason m (is.OrderReplace x) ≡ None
    → IsGood (record m { orders = book.replaced x.original x.reference x.shares x.price m.orders })
replaced_good m x good fits none =
    let allowed = allowed_replace m x none in
    orders_good m _ good
    (record {
      distinct = IsDistinct-replaced x.original x.reference x.shares x.price m.orders allowed.new_reference good.distinct;
      live = live_replaced x.original x.reference x.shares x.price m.orders allowed.some_shares good.live;
      listed = AllAt-replaced (IsHere m.securities) x.original x.reference x.shares x.price m.orders good.listed;
      wide = wide_replaced m.orders x (book.get m.orders x.original) refl good.wide fits;
    })

-- ---- every message

order_fits : (x : AddOrder) (mpid : Option (List ℕ)) → IsAddOrder x → IsMaybe (IsAlpha 4) mpid → IsOrder (order_of x mpid)
order_fits x mpid fits text = record { reference = fits.reference; shares = fits.shares; price = fits.price; mpid = text }

pub effect_good : (m : Content) (x : Message) → IsGood m → IsMessage x → reason m x ≡ None → IsGood (effect m x)
effect_good m (is.SystemEvent x) good fits none = event_good m x.code good fits.code
effect_good m (is.StockDirectory x) good fits none = entered_good m x.header.locate x.entry good fits.header.locate fits.entry
effect_good m (is.TradingAction x) good fits none =
    changed_good m (with_action (action_of x)) x.header.locate
    (new_action (action_of x) (record { state = fits.state; reason = fits.reason })) good
effect_good m (is.RegSho x) good fits none =
    changed_good m (with_sho x.action) x.header.locate (new_sho x.action fits.action) good
effect_good m (is.Halt x) good fits none =
    changed_good m (with_halt x.market_code x.action) x.header.locate (new_halt x.market_code x.action (fits.market_code, fits.action)) good
effect_good m (is.Position x) good fits none =
    changed_good m (with_position x.mpid (position_of x)) x.header.locate
    (new_position x.mpid (position_of x) (fits.mpid, (refl, (fits.primary_market_maker, (fits.mode, (fits.state, tt)))))) good
effect_good m (is.AddOrder x) good fits none = added_good m x None good fits.header.locate (order_fits x None fits tt) none
effect_good m (is.AttributedAddOrder x) good fits none =
    added_good m x.order (Some x.attribution) good fits.order.header.locate (order_fits x.order (Some x.attribution) fits.order fits.attribution) none
effect_good m (is.OrderExecuted x) good fits none = taken_good m x.reference x.shares good
effect_good m (is.OrderExecutedWithPrice x) good fits none = taken_good m x.execution.reference x.execution.shares good
effect_good m (is.OrderCancel x) good fits none = taken_good m x.reference x.shares good
effect_good m (is.OrderDelete x) good fits none = without_good m x.reference good
effect_good m (is.OrderReplace x) good fits none =
    replaced_good m x good (record { reference = fits.reference; shares = fits.shares; price = fits.price }) none
effect_good m (is.Trade x) good fits none = good
effect_good m (is.CrossTrade x) good fits none = good
effect_good m (is.BrokenTrade x) good fits none = good
effect_good m (is.End next) good fits none = good
effect_good m (is.Other payload) good fits none = good

pub after_good : (m : Content) (ms : List Message) → IsGood m → AllByRecursion IsMessage ms → FollowsFrom m ms → IsGood (after m ms)
after_good m [] good fits follows = good
after_good m (x ∷ xs) good fits follows = after_good (effect m x) xs (effect_good m x good fits.0 follows.0) fits.1 follows.1

pub run_good : (ms : List Message) → AllByRecursion IsMessage ms → Follows ms → IsGood (run ms)
run_good ms fits follows = after_good empty ms empty_good fits follows
