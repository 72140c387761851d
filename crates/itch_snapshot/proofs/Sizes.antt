-- A message adds at most one message to the snapshot list.
use Rattle.std.proofs.Common.{◌≡◌, ℕ, ◌+◌, ◌≤◌, ◌<◌, Bool, true, false, cond, not, List, [], ◌∷◌, ◌++◌, map, filter, length, flat_map, Option, Some, None, Ordering, Less, Equal, Greater, is_eq, refl, sym, ap, ap₂, ◌∙◌, arith, length-append}
use Rattle.std.specs.Cmp.{nat_cmp_total}
use Rattle.std.specs.Ordering.{nat_cmp}
use Rattle.std.specs.Cmp.Lexicographic.{slice_cmp, nat_list_cmp_total}
use Rattle.std.specs.FinMap as finite
use Rattle.std.specs.FinMap.{find, put}
use Rattle.std.specs.FinMap.Entries.{by_order}
use Rattle.std.proofs.lemmas.Bool.Decides.{nat_tests}
use Rattle.itch_codec.specs.declared.message.Message.{Message}
use Rattle.itch_codec.specs.declared.message.Message.TheVariants as is
use Rattle.itch_codec.specs.declared.stocks.Directory.{Directory}
use Rattle.itch_book.specs.declared.order.Order.{Order}
use Rattle.itch_book.specs.Orders as book
use Rattle.itch_book.proofs.Lists.{All-weaker_rec, length_filter_le}
use Rattle.std.proofs.lemmas.List.{length-map}
use Rattle.itch_book.proofs.StableLemmas.{length-in_order}
use Rattle.itch_market.specs.declared.security.Action.{Action}
use Rattle.itch_market.specs.Content.{Content, Securities, empty, Listing}
use Rattle.itch_market.specs.Effects.{effect, entered, changed, changed_at, with_action, with_sho, with_halt, with_position, action_of, position_of, order_of}
use Rattle.itch_market.specs.GoodMarkets.{IsGood}
use Rattle.itch_market.specs.Runs.{AreMessages, after, run, Follows}
use Rattle.itch_market.proofs.GoodMarkets.{run_good}
use Rattle.itch_snapshot.specs.Snapshot.{snap, event_part, action_part, sho_part, halt_part, position_part, states_part, order_part, locate_part}
use Rattle.itch_snapshot.proofs.Locates.{Rise, rise, has_key, joined, joined_is, joined_all, below_absent}

-- 1 if there is a value
abbrev pub count : {A : Type 0} → Option A → ℕ
count None = 0
count (Some x) = 1

-- the number of messages of a security and its trading states, halts and positions
abbrev pub weight : Listing → ℕ
weight s = 1 + (count s.action + (count s.sho + (finite.len s.halts + finite.len s.positions)))

abbrev pub weights : List (ℕ × Listing) → ℕ
weights [] = 0
weights (e ∷ es) = weight e.1 + weights es

-- the number of messages of the snapshot list
abbrev pub size : Content → ℕ
size m = count m.event + (weights (finite.entries m.securities) + length m.orders)

length-event : (event : Option ℕ) → length (event_part event) ≡ count event
length-event None = refl
length-event (Some code) = refl

length-action : (locate : ℕ) (stock : List ℕ) (action : Option Action) → length (action_part locate stock action) ≡ count action
length-action locate stock None = refl
length-action locate stock (Some a) = refl

length-sho : (locate : ℕ) (stock : List ℕ) (sho : Option ℕ) → length (sho_part locate stock sho) ≡ count sho
length-sho locate stock None = refl
length-sho locate stock (Some sho) = refl

length-locate : (orders : List Order) (e : ℕ × Listing) → length (locate_part orders e) ≡ weight e.1 + length (book.sides orders e.0)
length-locate orders e =
    let stock = e.1.entry.stock in
    let actions = action_part e.0 stock e.1.action in
    let shos = sho_part e.0 stock e.1.sho in
    let halts = map (halt_part e.0 stock) (finite.entries e.1.halts) in
    let positions = map (position_part e.0 stock) (finite.entries e.1.positions) in
    omega (
      arith,
      length-append (states_part e.0 e.1) (map (order_part stock) (book.sides orders e.0)),
      length-append actions (shos ++ (halts ++ positions)),
      length-append shos (halts ++ positions),
      length-append halts positions,
      length-action e.0 stock e.1.action,
      length-sho e.0 stock e.1.sho,
      length-map (finite.entries e.1.halts) (halt_part e.0 stock),
      length-map (finite.entries e.1.positions) (position_part e.0 stock),
      finite.len-entries e.1.halts,
      finite.len-entries e.1.positions,
      length-map (book.sides orders e.0) (order_part stock),
    )

length-locates : (orders : List Order) (es : List (ℕ × Listing)) → length (flat_map (locate_part orders) es) ≡ weights es + length (joined orders es)
length-locates orders [] = refl
length-locates orders (e ∷ es) =
    omega (
      arith,
      length-append (locate_part orders e) (flat_map (locate_part orders) es),
      length-locate orders e,
      length-locates orders es,
      length-append (book.sides orders e.0) (joined orders es),
    )

-- the snapshot list has this many messages
pub snap_length : (m : Content) → IsGood m → length (snap m) ≡ size m
snap_length m good =
    let es = finite.entries m.securities in
    let all = ap length (joined_all m.orders m.securities good.listed) ∙ length-in_order book.stands_before m.orders in
    omega (arith, length-append (event_part m.event) (flat_map (locate_part m.orders) es), length-event m.event, length-locates m.orders es, all)

-- and no more, for any locates of the orders
snap_at_most : (m : Content) → length (snap m) ≤ size m
snap_at_most m =
    let es = finite.entries m.securities in
    let all =
    ap length (joined_is m.orders es (rise m.securities)) ∙ length-in_order book.stands_before (filter (λ (x : Order). has_key es x.locate) m.orders) in
    omega (
      arith,
      length-append (event_part m.event) (flat_map (locate_part m.orders) es),
      length-event m.event,
      length-locates m.orders es,
      all,
      length_filter_le (λ (x : Order). has_key es x.locate) m.orders,
    )

-- the previous number of messages of a security that is replaced
abbrev weight_at : Option Listing → ℕ
weight_at None = 0
weight_at (Some s) = weight s

less_is : (k q : ℕ) → nat_cmp k q ≡ Less → k < q
less_is k q e = grind (arith, nat_tests)

weights-put : (k : ℕ) (s : Listing) (es : List (ℕ × Listing)) → Rise es → weights (put nat_cmp k s es) + weight_at (find nat_cmp k es) ≡ weights es + weight s
weights-put k s [] rising = omega arith
weights-put k s (e ∷ es) rising = by_key (nat_cmp k e.0) refl (weights-put k s es rising.1)
  where
    by_key : (o : Ordering) → nat_cmp k e.0 ≡ o → weights (put nat_cmp k s es) + weight_at (find nat_cmp k es) ≡ weights es + weight s
        → weights (by_order o ((k, s) ∷ e ∷ es) ((e.0, s) ∷ es) (e ∷ put nat_cmp k s es)) + weight_at (cond (is_eq o) (Some e.1) (find nat_cmp k es)) ≡ weights (e ∷ es) + weight s
    by_key Less below rest =
        let absent = ap weight_at (below_absent k es (All-weaker_rec (λ f. e.0 < f.0) (λ f. k < f.0) (λ f above. let less = less_is k e.0 below in omega arith) es rising.0)) in
        omega (arith, absent)
    by_key Equal same rest = omega arith
    by_key Greater above rest = omega (arith, rest)

weights-insert : (securities : Securities) (k : ℕ) (s : Listing)
    → weights (finite.entries (finite.insert securities k s)) + weight_at (finite.get securities k) ≡ weights (finite.entries securities) + weight s
weights-insert securities k s =
    ap₂ (λ es o. weights es + weight_at o) (finite.entries-insert nat_cmp_total securities k s) (finite.get-entries securities k)
    ∙ weights-put k s (finite.entries securities) (rise securities)

-- a change of a security that adds at most one message
changed_weight : (change : Listing → Listing) → ((s : Listing) → weight (change s) ≤ weight s + 1) → (locate : ℕ) (securities : Securities)
    → weights (finite.entries (changed change locate securities)) ≤ weights (finite.entries securities) + 1
changed_weight change one locate securities = by_entry (finite.get securities locate) refl
  where
    by_entry : (found : Option Listing) → finite.get securities locate ≡ found → weights (finite.entries (changed_at change locate found securities)) ≤ weights (finite.entries securities) + 1
    by_entry None e = omega arith
    by_entry (Some s) e = omega (arith, weights-insert securities locate (change s), ap weight_at e, one s)

entered_weight : (found : Option Listing) (entry : Directory) → weight (entered found entry) ≤ weight_at found + 1
entered_weight None entry = omega (arith, finite.len-empty nat_cmp ℕ, finite.len-empty (slice_cmp nat_cmp) (List ℕ))
entered_weight (Some s) entry = omega arith

one_more : (b : Bool) (n : ℕ) → cond b n (n + 1) ≤ n + 1
one_more true n = omega arith
one_more false n = omega arith

halt_weight : (market_code action : ℕ) (s : Listing) → weight (with_halt market_code action s) ≤ weight s + 1
halt_weight market_code action s =
    omega (arith, finite.len-insert nat_cmp_total s.halts market_code action, one_more (finite.contains_key s.halts market_code) (finite.len s.halts))

position_weight : (mpid position : List ℕ) (s : Listing) → weight (with_position mpid position s) ≤ weight s + 1
position_weight mpid position s =
    omega (arith, finite.len-insert nat_list_cmp_total s.positions mpid position, one_more (finite.contains_key s.positions mpid) (finite.len s.positions))

some_at_most : {A : Type 0} (o : Option A) → count o ≤ 1
some_at_most None = omega arith
some_at_most (Some x) = omega arith

replaced_length : (original reference shares price : ℕ) (orders : List Order) → length (book.replaced original reference shares price orders) ≤ length orders + 1
replaced_length original reference shares price orders = by_order_found (book.get orders original)
  where
    by_order_found : (found : Option Order) → length (book.replaced_by found original reference shares price orders) ≤ length orders + 1
    by_order_found None = omega arith
    by_order_found (Some x) =
        let new = record x { reference = reference; shares = shares; price = price } ∷ [] in
        omega (arith, length-append (book.without original orders) new, length_filter_le (λ y. not (book.has_reference original y)) orders)

taken_length : (reference shares : ℕ) (orders : List Order) → length (book.taken reference shares orders) ≤ length orders
taken_length reference shares orders =
    omega (arith, length_filter_le book.has_shares (map (book.less reference shares) orders), length-map orders (book.less reference shares))

size-effect : (m : Content) (x : Message) → size (effect m x) ≤ size m + 1
size-effect m (is.SystemEvent x) = omega arith
size-effect m (is.StockDirectory x) =
    omega (arith, weights-insert m.securities x.header.locate (entered (finite.get m.securities x.header.locate) x.entry), entered_weight (finite.get m.securities x.header.locate) x.entry)
size-effect m (is.TradingAction x) =
    omega (arith, changed_weight (with_action (action_of x)) (λ s. omega arith) x.header.locate m.securities)
size-effect m (is.RegSho x) = omega (arith, changed_weight (with_sho x.action) (λ s. omega arith) x.header.locate m.securities)
size-effect m (is.Halt x) = omega (arith, changed_weight (with_halt x.market_code x.action) (halt_weight x.market_code x.action) x.header.locate m.securities)
size-effect m (is.Position x) =
    omega (arith, changed_weight (with_position x.mpid (position_of x)) (position_weight x.mpid (position_of x)) x.header.locate m.securities)
size-effect m (is.AddOrder x) = omega (arith, length-append m.orders (order_of x None ∷ []))
size-effect m (is.AttributedAddOrder x) = omega (arith, length-append m.orders (order_of x.order (Some x.attribution) ∷ []))
size-effect m (is.OrderExecuted x) = omega (arith, taken_length x.reference x.shares m.orders)
size-effect m (is.OrderExecutedWithPrice x) = omega (arith, taken_length x.execution.reference x.execution.shares m.orders)
size-effect m (is.OrderCancel x) = omega (arith, taken_length x.reference x.shares m.orders)
size-effect m (is.OrderDelete x) = omega (arith, length_filter_le (λ y. not (book.has_reference x.reference y)) m.orders)
size-effect m (is.OrderReplace x) = omega (arith, replaced_length x.original x.reference x.shares x.price m.orders)
size-effect m (is.Trade x) = omega arith
size-effect m (is.CrossTrade x) = omega arith
size-effect m (is.BrokenTrade x) = omega arith
size-effect m (is.End next) = omega arith
size-effect m (is.Other payload) = omega arith

-- one message makes the snapshot list longer by at most one
pub snap_step : (m : Content) → (x : Message) → IsGood m → length (snap (effect m x)) ≤ length (snap m) + 1
snap_step m x good = omega (arith, snap_at_most (effect m x), size-effect m x, snap_length m good)

size-after : (m : Content) (ms : List Message) → size (after m ms) ≤ size m + length ms
size-after m [] = omega arith
size-after m (x ∷ xs) = omega (arith, size-after (effect m x) xs, size-effect m x)

no_weight : (es : List (ℕ × Listing)) → length es ≡ 0 → weights es ≡ 0
no_weight [] none = refl
no_weight (e ∷ es) none = absurd (omega arith)

-- messages that follow the order rules result in a snapshot list that is no longer than they are
pub short_snap : (ms : List Message) → AreMessages ms → Follows ms → length (snap (run ms)) ≤ length ms
short_snap ms fit follows =
    let none = no_weight (finite.entries empty.securities) (sym (finite.len-entries empty.securities) ∙ finite.len-empty nat_cmp Listing) in
    omega (arith, snap_length (run ms) (run_good ms fit follows), size-after empty ms, none)
