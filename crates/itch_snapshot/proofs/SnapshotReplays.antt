-- The snapshot list leads from the empty market to the laid market.
use Rattle.std.proofs.Common.{◌≡◌, ℕ, ◌+◌, ◌<◌, ◌==◌, true, false, cond, List, [], ◌∷◌, ◌++◌, map, length, filter, flat_map, Option, Some, None, is_some, refl, sym, ap, ◌∙◌, subst, arith, length-append, append_assoc, append-nil, bytes_eq, get_or}
use Rattle.std.specs.List.{AllByRecursion}
use Rattle.std.specs.Ordering.{nat_cmp}
use Rattle.std.specs.Cmp.{nat_cmp_total}
use Rattle.std.specs.Cmp.Lexicographic.{slice_cmp, nat_list_cmp_total}
use Rattle.std.specs.FinMap as finite
use Rattle.std.specs.FinMap.{IsAntisymmetric, nat_cmp-IsAntisymmetric, slice_cmp-IsAntisymmetric}
use Rattle.std.proofs.lemmas.Bool.Decides.{nat_tests}
use Rattle.std.proofs.lemmas.List.Elements.{filter-append}
use Rattle.std.proofs.lemmas.Slice.Eq.{bytes_eq-Decides}
use Rattle.itch_codec.specs.declared.message.Message.{Message}
use Rattle.itch_codec.specs.declared.message.Message.TheVariants as is
use Rattle.itch_codec.specs.declared.stocks.Directory.{Directory}
use Rattle.itch_book.specs.declared.order.Order.{Order}
use Rattle.itch_book.specs.Orders as book
use Rattle.itch_book.proofs.Lists.{All-weaker_rec, All-both_rec, All-filter_rec, passes_filter}
use Rattle.itch_book.proofs.Distinct.{find_first, has_own, live_fit}
use Rattle.itch_book.proofs.StableLemmas.{All-in_order}
use Rattle.itch_book.proofs.OrderLemmas.{both_queues, in_is, lay_fit, IsDistinct-lay}
use Rattle.itch_market.specs.declared.refusal.Refusal.{Refusal}
use Rattle.itch_market.specs.declared.security.Action.{Action}
use Rattle.itch_market.specs.Content.{Content, Securities, HaltActions, ParticipantPositions, empty, laid, Listing}
use Rattle.itch_market.specs.Effects.{effect, entered, changed, changed_at, with_action, with_sho, with_halt, with_position}
use Rattle.itch_market.specs.GoodMarkets.{IsGood}
use Rattle.itch_market.specs.Reasons.{reason, refuse, is_other_stock, security_reason, directory_reason, add_reason}
use Rattle.itch_market.specs.Runs.{after, FollowsFrom}
use Rattle.itch_market.specs.Widths.{IsPosition, IsSecurity}
use Rattle.itch_market.proofs.GoodMarkets.{IsEntry}
use Rattle.itch_market.proofs.Maps.{get_there, insert_twice}
use Rattle.itch_market.proofs.Trees.{insert_all, insert_all-entries, each_entry}
use Rattle.itch_market.proofs.Runs.{after-append, follows-append}
use Rattle.itch_snapshot.specs.Snapshot.{snap, header_at, event_part, action_part, sho_part, halt_part, position_part, states_part, add_of, attributed, order_part, locate_messages, locate_part}
use Rattle.itch_snapshot.proofs.Locates.{Rise, rise, joined, joined_all, insert_all as insert_locates, insert_all-entries as insert_locates-entries, AreNew, new_in_empty, new_above}

-- the messages follow the order rules from the first market on, and result in the second one
pub record Leads (m : Content) (ms : List Message) (n : Content) : Type 0 where
  pub follows : FollowsFrom m ms
  pub leaves : after m ms ≡ n

-- one list after another
pub leads-append : (m k n : Content) (xs ys : List Message) → Leads m xs k → Leads k ys n → Leads m (xs ++ ys) n
leads-append m k n xs ys first rest = record {
  follows = follows-append m xs ys first.follows (subst (λ c. FollowsFrom c ys) (sym first.leaves) rest.follows);
  leaves = after-append m xs ys ∙ ap (λ c. after c ys) first.leaves ∙ rest.leaves;
}

-- one message that is not refused
pub leads_one : (m n : Content) (x : Message) → reason m x ≡ None → effect m x ≡ n → Leads m (x ∷ []) n
leads_one m n x none leaves = record { follows = (none, tt); leaves = leaves }

leads_cons : (m k n : Content) (x : Message) (xs : List Message) → reason m x ≡ None → effect m x ≡ k → Leads k xs n → Leads m (x ∷ xs) n
leads_cons m k n x xs none leaves rest = leads-append m k n (x ∷ []) xs (leads_one m k x none leaves) rest

leads_into : (m n k : Content) (xs : List Message) → n ≡ k → Leads m xs n → Leads m xs k
leads_into m n k xs same leads = subst (Leads m xs) same leads

-- a stock does not differ from itself
own_stock : (s : Listing) → is_other_stock s s.entry.stock ≡ false
own_stock s = let same : bytes_eq s.entry.stock s.entry.stock ≡ true = (bytes_eq-Decides s.entry.stock s.entry.stock).1 refl in simp same

listed_reason : (found : Option Listing) (s : Listing) (later : Option Refusal) → found ≡ Some s → later ≡ None → security_reason found s.entry.stock later ≡ None
listed_reason found s later there none =
    ap (λ o. security_reason o s.entry.stock later) there ∙ ap (λ b. cond b (Some Refusal.StockMismatch) later) (own_stock s) ∙ none

-- the message of an order adds it
effect-order : (m : Content) (stock : List ℕ) (x : Order) → effect m (order_part stock x) ≡ record m { orders = book.added x m.orders }
effect-order m stock x = by_mpid x.mpid refl
  where
    by_mpid : (mpid : Option (List ℕ)) → x.mpid ≡ mpid → effect m (attributed (add_of stock x) mpid) ≡ record m { orders = book.added x m.orders }
    by_mpid None e = ap (λ (mpid : Option (List ℕ)). record m { orders = book.added (record x { mpid = mpid }) m.orders }) (sym e)
    by_mpid (Some mpid) e = ap (λ (mpid : Option (List ℕ)). record m { orders = book.added (record x { mpid = mpid }) m.orders }) (sym e)

reason-order : (m : Content) (stock : List ℕ) (x : Order) → reason m (order_part stock x) ≡ add_reason m (add_of stock x)
reason-order m stock x = by_mpid x.mpid
  where
    by_mpid : (mpid : Option (List ℕ)) → reason m (attributed (add_of stock x) mpid) ≡ add_reason m (add_of stock x)
    by_mpid None = refl
    by_mpid (Some mpid) = refl

-- an order that may be added to a market
record IsNewOrder (m : Content) (s : Listing) (x : Order) : Type 0 where
  there : finite.get m.securities x.locate ≡ Some s
  some : 0 < x.shares

add_allowed : (m : Content) (s : Listing) (x : Order) → IsNewOrder m s x → book.get m.orders x.reference ≡ None → add_reason m (add_of s.entry.stock x) ≡ None
add_allowed m s x order new =
    let shares : (x.shares == 0) ≡ false = let some = order.some in grind (arith, nat_tests) in
    listed_reason (finite.get m.securities x.locate) s _ order.there
    (ap (λ b. cond b (Some Refusal.ZeroShares) (refuse (is_some (book.get m.orders x.reference)) Refusal.DuplicateRef None)) shares
    ∙ ap (λ o. refuse (is_some o) Refusal.DuplicateRef None) new)

-- in a list with distinct references, the reference of an order is not among those before it
first_is_new : (x : Order) (ys zs : List Order) → book.IsDistinct (ys ++ (x ∷ zs)) → book.get ys x.reference ≡ None
first_is_new x ys zs distinct =
    let parts = ap length (filter-append (book.has_reference x.reference) ys (x ∷ zs)) ∙ length-append (filter (book.has_reference x.reference) ys) (filter (book.has_reference x.reference) (x ∷ zs)) in
    let own : length (filter (book.has_reference x.reference) (x ∷ zs)) ≡ 1 + length (filter (book.has_reference x.reference) zs) =
    ap (λ b. length (cond b (x ∷ filter (book.has_reference x.reference) zs) (filter (book.has_reference x.reference) zs))) (has_own x) ∙ omega arith in
    find_first (book.has_reference x.reference) ys ∙ nothing (filter (book.has_reference x.reference) ys) (omega (arith, parts, own, distinct x.reference))
  where
    nothing : (xs : List Order) → length xs ≡ 0 → book.first xs ≡ None
    nothing [] e = refl
    nothing (y ∷ xs) e = absurd (omega arith)

-- the messages of orders add them
orders_lead : (m : Content) (s : Listing) (os : List Order) → AllByRecursion (IsNewOrder m s) os → book.IsDistinct (m.orders ++ os)
    → Leads m (map (order_part s.entry.stock) os) (record m { orders = m.orders ++ os })
orders_lead m s [] news distinct = record { follows = tt; leaves = ap (λ (orders : List Order). record m { orders = orders }) (sym (append-nil m.orders)) }
orders_lead m s (x ∷ xs) news distinct =
    let k : Content = record m { orders = book.added x m.orders } in
    let regroup : (m.orders ++ x ∷ []) ++ xs ≡ m.orders ++ x ∷ xs = append_assoc m.orders (x ∷ []) xs in
    leads_cons m k (record m { orders = m.orders ++ x ∷ xs }) (order_part s.entry.stock x) (map (order_part s.entry.stock) xs)
    (reason-order m s.entry.stock x ∙ add_allowed m s x news.0 (first_is_new x m.orders xs distinct))
    (effect-order m s.entry.stock x)
    (leads_into k (record k { orders = k.orders ++ xs }) (record m { orders = m.orders ++ x ∷ xs }) (map (order_part s.entry.stock) xs)
    (ap (λ (orders : List Order). record m { orders = orders }) regroup)
    (orders_lead k s xs
    (All-weaker_rec (IsNewOrder m s) (IsNewOrder k s) (λ y new. record { there = new.there; some = new.some }) xs news.1)
    (subst book.IsDistinct (sym regroup) distinct)))

-- a market with a security at a locate
abbrev pub with_security : Content → ℕ → Listing → Content
with_security m locate s = record m { securities = finite.insert m.securities locate s }

-- a message changes the security that was inserted
changed_there : (change : Listing → Listing) (securities : Securities) (locate : ℕ) (s : Listing) → changed change locate (finite.insert securities locate s) ≡ finite.insert securities locate (change s)
changed_there change securities locate s =
    ap (λ found. changed_at change locate found (finite.insert securities locate s)) (get_there securities locate s) ∙ insert_twice securities locate s (change s)

-- a security with this entry only
abbrev bare_of : Directory → Listing
bare_of entry = entered None entry

directory_lead : (m : Content) (locate : ℕ) (entry : Directory) → finite.get m.securities locate ≡ None
    → Leads m (is.StockDirectory (record { header = header_at locate; entry = entry }) ∷ []) (with_security m locate (bare_of entry))
directory_lead m locate entry new =
    leads_one m (with_security m locate (bare_of entry)) (is.StockDirectory (record { header = header_at locate; entry = entry }))
    (ap (λ found. directory_reason found entry.stock) new)
    (ap (λ found. with_security m locate (entered found entry)) new)

-- a message about a security that changes it
record IsChange (x : Message) (locate : ℕ) (stock : List ℕ) (change : Listing → Listing) : Type 0 where
  asks : (n : Content) → reason n x ≡ security_reason (finite.get n.securities locate) stock None
  does : (n : Content) → effect n x ≡ record n { securities = changed change locate n.securities }

change_lead : (m : Content) (locate : ℕ) (s : Listing) (change : Listing → Listing) (x : Message) → IsChange x locate s.entry.stock change
    → Leads (with_security m locate s) (x ∷ []) (with_security m locate (change s))
change_lead m locate s change x is_change =
    leads_one (with_security m locate s) (with_security m locate (change s)) x
    (is_change.asks (with_security m locate s) ∙ listed_reason (finite.get (finite.insert m.securities locate s) locate) s None (get_there m.securities locate s) refl)
    (is_change.does (with_security m locate s) ∙ ap (λ (securities : Securities). record m { securities = securities }) (changed_there change m.securities locate s))

action_lead : (m : Content) (locate : ℕ) (s : Listing) (action : Option Action) → s.action ≡ None
    → Leads (with_security m locate s) (action_part locate s.entry.stock action) (with_security m locate (record s { action = action }))
action_lead m locate s None none = record { follows = tt; leaves = ap (λ (a : Option Action). with_security m locate (record s { action = a })) none }
action_lead m locate s (Some a) none = change_lead m locate s (with_action a) _ (record { asks = λ n. refl; does = λ n. refl })

sho_lead : (m : Content) (locate : ℕ) (s : Listing) (sho : Option ℕ) → s.sho ≡ None
    → Leads (with_security m locate s) (sho_part locate s.entry.stock sho) (with_security m locate (record s { sho = sho }))
sho_lead m locate s None none = record { follows = tt; leaves = ap (λ (a : Option ℕ). with_security m locate (record s { sho = a })) none }
sho_lead m locate s (Some sho) none = change_lead m locate s (with_sho sho) _ (record { asks = λ n. refl; does = λ n. refl })

-- halts inserted one after another
abbrev all_halts : HaltActions → List (ℕ × ℕ) → HaltActions
all_halts = insert_all nat_cmp_total nat_cmp-IsAntisymmetric

halts_lead : (m : Content) (locate : ℕ) (s : Listing) (es : List (ℕ × ℕ))
    → Leads (with_security m locate s) (map (halt_part locate s.entry.stock) es) (with_security m locate (record s { halts = all_halts s.halts es }))
halts_lead m locate s [] = record { follows = tt; leaves = refl }
halts_lead m locate s (e ∷ es) =
    leads-append (with_security m locate s) (with_security m locate (with_halt e.0 e.1 s)) (with_security m locate (record s { halts = all_halts s.halts (e ∷ es) }))
    (halt_part locate s.entry.stock e ∷ []) (map (halt_part locate s.entry.stock) es)
    (change_lead m locate s (with_halt e.0 e.1) (halt_part locate s.entry.stock e) (record { asks = λ n. refl; does = λ n. refl }))
    (halts_lead m locate (with_halt e.0 e.1 s) es)

-- positions inserted one after another
text_exact : IsAntisymmetric (slice_cmp nat_cmp)
text_exact = slice_cmp-IsAntisymmetric nat_cmp-IsAntisymmetric

abbrev all_positions : ParticipantPositions → List (List ℕ × List ℕ) → ParticipantPositions
all_positions = insert_all nat_list_cmp_total text_exact

three_bytes : (xs : List ℕ) → length xs ≡ 3 → get_or xs 0 0 ∷ get_or xs 1 0 ∷ get_or xs 2 0 ∷ [] ≡ xs
three_bytes [] long = absurd (omega arith)
three_bytes (x ∷ []) long = absurd (omega arith)
three_bytes (x ∷ y ∷ []) long = absurd (omega arith)
three_bytes (x ∷ y ∷ z ∷ []) long = refl
three_bytes (x ∷ y ∷ z ∷ w ∷ ws) long = absurd (omega arith)

positions_lead : (m : Content) (locate : ℕ) (s : Listing) (es : List (List ℕ × List ℕ)) → AllByRecursion (λ e. IsPosition e.0 e.1) es
    → Leads (with_security m locate s) (map (position_part locate s.entry.stock) es) (with_security m locate (record s { positions = all_positions s.positions es }))
positions_lead m locate s [] fits = record { follows = tt; leaves = refl }
positions_lead m locate s (e ∷ es) fits =
    leads-append (with_security m locate s) (with_security m locate (with_position e.0 e.1 s)) (with_security m locate (record s { positions = all_positions s.positions (e ∷ es) }))
    (position_part locate s.entry.stock e ∷ []) (map (position_part locate s.entry.stock) es)
    (change_lead m locate s (with_position e.0 e.1) (position_part locate s.entry.stock e) (record {
      asks = λ n. refl;
      does = λ n. ap (λ p. record n { securities = changed (with_position e.0 p) locate n.securities }) (three_bytes e.1 fits.0.1.0);
    }))
    (positions_lead m locate (with_position e.0 e.1 s) es fits.1)

-- the messages about a security after its directory entry
states_lead : (m : Content) (locate : ℕ) (s : Listing) → IsSecurity s → Leads (with_security m locate (bare_of s.entry)) (states_part locate s) (with_security m locate s)
states_lead m locate s fits =
    let stock = s.entry.stock in
    let halts = finite.entries s.halts in
    let positions = finite.entries s.positions in
    let bare : Listing = bare_of s.entry in
    let acted : Listing = record bare { action = s.action } in
    let restricted : Listing = record acted { sho = s.sho } in
    let halted : Listing = record restricted { halts = all_halts finite.empty halts } in
    let placed : Listing = record halted { positions = all_positions finite.empty positions } in
    let whole : placed ≡ s = λ i. record s { halts = insert_all-entries nat_cmp_total nat_cmp-IsAntisymmetric s.halts i; positions = insert_all-entries nat_list_cmp_total text_exact s.positions i } in
    let market : Listing → Content = with_security m locate in
    leads-append (market bare) (market acted) (market s) (action_part locate stock s.action) (sho_part locate stock s.sho ++ (map (halt_part locate stock) halts ++ map (position_part locate stock) positions))
    (action_lead m locate bare s.action refl)
    (leads-append (market acted) (market restricted) (market s) (sho_part locate stock s.sho) (map (halt_part locate stock) halts ++ map (position_part locate stock) positions)
    (sho_lead m locate acted s.sho refl)
    (leads-append (market restricted) (market halted) (market s) (map (halt_part locate stock) halts) (map (position_part locate stock) positions)
    (halts_lead m locate restricted halts)
    (leads_into (market halted) (market placed) (market s) (map (position_part locate stock) positions) (ap market whole)
    (positions_lead m locate halted positions (each_entry nat_list_cmp_total text_exact IsPosition s.positions fits.positions)))))

-- an order with shares, at this locate
record IsHere (locate : ℕ) (x : Order) : Type 0 where
  here : x.locate ≡ locate
  some : 0 < x.shares

-- the messages about a new locate insert its security, and add its orders
locate_lead : (m : Content) (e : ℕ × Listing) (os : List Order) → finite.get m.securities e.0 ≡ None → IsSecurity e.1 → AllByRecursion (IsHere e.0) os → book.IsDistinct (m.orders ++ os)
    → Leads m (locate_messages e os) (record m { securities = finite.insert m.securities e.0 e.1; orders = m.orders ++ os })
locate_lead m e os new fits here distinct =
    let entry = e.1.entry in
    let bare : Content = with_security m e.0 (bare_of entry) in
    let whole : Content = with_security m e.0 e.1 in
    let end : Content = record whole { orders = m.orders ++ os } in
    let messages = map (order_part entry.stock) os in
    leads-append m bare end (is.StockDirectory (record { header = header_at e.0; entry = entry }) ∷ []) (states_part e.0 e.1 ++ messages)
    (directory_lead m e.0 entry new)
    (leads-append bare whole end (states_part e.0 e.1) messages
    (states_lead m e.0 e.1 fits)
    (orders_lead whole e.1 os
    (All-weaker_rec (IsHere e.0) (IsNewOrder whole e.1) (λ x h. record {
      there = ap (finite.get (finite.insert m.securities e.0 e.1)) h.here ∙ get_there m.securities e.0 e.1;
      some = h.some;
    }) os here)
    distinct))

-- the orders of a locate are at this locate, and have shares
sides_here : (orders : List Order) (locate : ℕ) → AllByRecursion book.IsLive orders → AllByRecursion (IsHere locate) (book.sides orders locate)
sides_here orders locate live =
    let kept = filter (book.is_in locate) orders in
    subst (AllByRecursion (IsHere locate)) (sym (both_queues orders locate))
    (All-in_order book.stands_before (IsHere locate) kept
    (All-weaker_rec (λ x. book.IsLive x × (book.is_in locate x ≡ true)) (IsHere locate) (λ x h. record { here = in_is locate x h.1; some = h.0.0 }) kept
    (All-both_rec book.IsLive (λ x. book.is_in locate x ≡ true) kept (All-filter_rec book.IsLive (book.is_in locate) orders live) (passes_filter (book.is_in locate) orders))))

left_distinct : (xs ys : List Order) → book.IsDistinct (xs ++ ys) → book.IsDistinct xs
left_distinct xs ys distinct r =
    let parts = ap length (filter-append (book.has_reference r) xs ys) ∙ length-append (filter (book.has_reference r) xs) (filter (book.has_reference r) ys) in
    omega (arith, parts, distinct r)

-- the messages about each locate insert its security, and add its orders
entries_lead : (m : Content) (orders : List Order) (es : List (ℕ × Listing)) → AreNew m.securities es → Rise es → AllByRecursion (λ e. IsSecurity e.1) es → AllByRecursion book.IsLive orders → book.IsDistinct (m.orders ++ joined orders es)
    → Leads m (flat_map (locate_part orders) es) (record m { securities = insert_locates m.securities es; orders = m.orders ++ joined orders es })
entries_lead m orders [] new rising fit live distinct =
    record { follows = tt; leaves = ap (λ (os : List Order). record m { orders = os }) (sym (append-nil m.orders)) }
entries_lead m orders (e ∷ es) new rising fit live distinct =
    let here = book.sides orders e.0 in
    let k : Content = record m { securities = finite.insert m.securities e.0 e.1; orders = m.orders ++ here } in
    let regroup : (m.orders ++ here) ++ joined orders es ≡ m.orders ++ (here ++ joined orders es) = append_assoc m.orders here (joined orders es) in
    let apart : book.IsDistinct (k.orders ++ joined orders es) = subst book.IsDistinct (sym regroup) distinct in
    let end : Content = record m { securities = insert_locates m.securities (e ∷ es); orders = m.orders ++ joined orders (e ∷ es) } in
    leads-append m k end (locate_part orders e) (flat_map (locate_part orders) es)
    (locate_lead m e here new.0 fit.0 (sides_here orders e.0 live) (left_distinct (m.orders ++ here) (joined orders es) apart))
    (leads_into k (record end { orders = k.orders ++ joined orders es }) end (flat_map (locate_part orders) es)
    (ap (λ (os : List Order). record end { orders = os }) regroup)
    (entries_lead k orders es (new_above m.securities e.0 e.1 es rising.0 new.1) rising.1 fit.1 live apart))

event_lead : (event : Option ℕ) → Leads empty (event_part event) (record empty { event = event })
event_lead None = record { follows = tt; leaves = refl }
event_lead (Some code) = record { follows = (refl, tt); leaves = refl }

-- the snapshot list of a good market follows the order rules, and results in the laid market
pub snap_leads : (m : Content) → IsGood m → Leads empty (snap m) (laid m)
snap_leads m good =
    let es = finite.entries m.securities in
    let start : Content = record empty { event = m.event } in
    let fit : AllByRecursion (λ e. IsSecurity e.1) es = All-weaker_rec (λ e. IsEntry e.0 e.1) (λ e. IsSecurity e.1) (λ e h. h.1) es (each_entry nat_cmp_total nat_cmp-IsAntisymmetric IsEntry m.securities good.securities) in
    let all : joined m.orders es ≡ book.lay m.orders = joined_all m.orders m.securities good.listed ∙ sym (lay_fit m.orders (live_fit m.orders good.live)) in
    leads-append empty start (laid m) (event_part m.event) (flat_map (locate_part m.orders) es)
    (event_lead m.event)
    (leads_into start (record m { securities = insert_locates finite.empty es; orders = joined m.orders es }) (laid m) (flat_map (locate_part m.orders) es)
    (λ i. record m { securities = insert_locates-entries m.securities i; orders = all i })
    (entries_lead start m.orders es (new_in_empty es) (rise m.securities) fit good.live
    (subst book.IsDistinct (sym all) (IsDistinct-lay m.orders good.distinct))))
