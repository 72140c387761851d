-- The plainest message has the effect of the original message.
use Rattle.std.proofs.Common.{◌≡◌, ℕ, ◌<◌, ◌-◌, ◌^◌, ◌==◌, Bool, true, false, ◌&&◌, List, [], ◌∷◌, Option, Some, None, refl, sym, ap, ◌∙◌, subst, arith}
use Rattle.std.proofs.lemmas.Bool.{cond_both, eqb-true}
use Rattle.std.proofs.lemmas.Bool.Decides.{nat_tests}
use Rattle.std.proofs.lemmas.Slice.Eq.{bytes_eq-Decides}
use Rattle.std.specs.Str.{bytes_eq}
use Rattle.std.specs.List.{AllByRecursion}
use Rattle.std.specs.Cmp.{nat_cmp_total}
use Rattle.std.specs.Cmp.Lexicographic.{nat_list_cmp_total}
use Rattle.std.specs.FinMap as map
use Rattle.std.specs.FinMap.{nat_cmp-IsAntisymmetric, slice_cmp-IsAntisymmetric}
use Rattle.itch_book.specs.declared.order.Order.{Order}
use Rattle.itch_book.specs.Orders as book
use Rattle.itch_book.proofs.Lists.{by_test}
use Rattle.itch_book.proofs.Distinct.{own_reference, head_distinct, tail_distinct}
use Rattle.itch_codec.specs.declared.message.Message.{Message}
use Rattle.itch_codec.specs.declared.message.Message.TheVariants as is
use Rattle.itch_codec.specs.declared.orders.AddOrder.{AddOrder}
use Rattle.itch_codec.specs.declared.stocks.Directory.{Directory}
use Rattle.itch_codec.specs.Widths.{IsHeader, IsAddOrder, IsMessage}
use Rattle.itch_market.specs.declared.refusal.Refusal.{Refusal}
use Rattle.itch_market.specs.declared.refusal.Refusal.TheVariants.{LocateMismatch}
use Rattle.itch_market.specs.declared.security.Action.{Action}
use Rattle.itch_market.specs.Content.{Content, Securities, Listing}
use Rattle.itch_market.specs.Reasons.{reason, order_reason, take_reason}
use Rattle.itch_market.specs.Effects.{effect, entered, with_action, with_sho, with_halt, with_position, action_of, position_of, changed_at}
use Rattle.itch_market.specs.GoodMarkets.{IsGood}
use Rattle.itch_market.specs.SameMarkets.{Same}
use Rattle.itch_market.specs.Plain.{plain_header, nothing, is_number, is_text, is_action, same_entry, has_entry, has_action, has_sho, has_halt, has_position, are_all, plain_take, plain}
use Rattle.itch_market.proofs.Trees.{insert_present}
use Rattle.itch_market.proofs.AllowedMessages.{passed}
use Rattle.itch_market.proofs.SameMarkets.{effect_same}

-- ---- values that are already set

number_is : (o : Option ℕ) (n : ℕ) → is_number o n ≡ true → o ≡ Some n
number_is None n told = cc
number_is (Some k) n told = ap Some (eqb-true k n told)

same_bytes : (xs ys : List ℕ) → bytes_eq xs ys ≡ true → xs ≡ ys
same_bytes xs ys told = (bytes_eq-Decides xs ys).0 told

text_is : (o : Option (List ℕ)) (text : List ℕ) → is_text o text ≡ true → o ≡ Some text
text_is None text told = cc
text_is (Some old) text told = ap Some (same_bytes old text told)

parts : (a b : Bool) → (a && b) ≡ true → (a ≡ true) × (b ≡ true)
parts true b told = (refl, told)
parts false b told = cc

action_is : (o : Option Action) (x : Action) → is_action o x ≡ true → o ≡ Some x
action_is None x told = cc
action_is (Some a) x told =
    let both = parts (a.state == x.state) (bytes_eq a.reason x.reason) told in
    let state = eqb-true a.state x.state both.0 in
    let reason = same_bytes a.reason x.reason both.1 in
    λ i. Some (record { state = state i; reason = reason i })

entry_is : (a b : Directory) → same_entry a b ≡ true → a ≡ b
entry_is a b told =
    let t1 = bytes_eq a.stock b.stock in
    let t2 = t1 && (a.market_category == b.market_category) in
    let t3 = t2 && (a.financial_status == b.financial_status) in
    let t4 = t3 && (a.round_lot_size == b.round_lot_size) in
    let t5 = t4 && (a.round_lots_only == b.round_lots_only) in
    let t6 = t5 && (a.issue_classification == b.issue_classification) in
    let t7 = t6 && bytes_eq a.issue_sub_type b.issue_sub_type in
    let t8 = t7 && (a.authenticity == b.authenticity) in
    let t9 = t8 && (a.short_sale_threshold == b.short_sale_threshold) in
    let t10 = t9 && (a.ipo_flag == b.ipo_flag) in
    let t11 = t10 && (a.luld_price_tier == b.luld_price_tier) in
    let t12 = t11 && (a.etp_flag == b.etp_flag) in
    let t13 = t12 && (a.etp_leverage_factor == b.etp_leverage_factor) in
    let p14 = parts t13 (a.inverse_indicator == b.inverse_indicator) told in
    let p13 = parts t12 (a.etp_leverage_factor == b.etp_leverage_factor) p14.0 in
    let p12 = parts t11 (a.etp_flag == b.etp_flag) p13.0 in
    let p11 = parts t10 (a.luld_price_tier == b.luld_price_tier) p12.0 in
    let p10 = parts t9 (a.ipo_flag == b.ipo_flag) p11.0 in
    let p9 = parts t8 (a.short_sale_threshold == b.short_sale_threshold) p10.0 in
    let p8 = parts t7 (a.authenticity == b.authenticity) p9.0 in
    let p7 = parts t6 (bytes_eq a.issue_sub_type b.issue_sub_type) p8.0 in
    let p6 = parts t5 (a.issue_classification == b.issue_classification) p7.0 in
    let p5 = parts t4 (a.round_lots_only == b.round_lots_only) p6.0 in
    let p4 = parts t3 (a.round_lot_size == b.round_lot_size) p5.0 in
    let p3 = parts t2 (a.financial_status == b.financial_status) p4.0 in
    let p2 = parts t1 (a.market_category == b.market_category) p3.0 in
    λ i. record {
      stock = same_bytes a.stock b.stock p2.0 i;
      market_category = eqb-true a.market_category b.market_category p2.1 i;
      financial_status = eqb-true a.financial_status b.financial_status p3.1 i;
      round_lot_size = eqb-true a.round_lot_size b.round_lot_size p4.1 i;
      round_lots_only = eqb-true a.round_lots_only b.round_lots_only p5.1 i;
      issue_classification = eqb-true a.issue_classification b.issue_classification p6.1 i;
      issue_sub_type = same_bytes a.issue_sub_type b.issue_sub_type p7.1 i;
      authenticity = eqb-true a.authenticity b.authenticity p8.1 i;
      short_sale_threshold = eqb-true a.short_sale_threshold b.short_sale_threshold p9.1 i;
      ipo_flag = eqb-true a.ipo_flag b.ipo_flag p10.1 i;
      luld_price_tier = eqb-true a.luld_price_tier b.luld_price_tier p11.1 i;
      etp_flag = eqb-true a.etp_flag b.etp_flag p12.1 i;
      etp_leverage_factor = eqb-true a.etp_leverage_factor b.etp_leverage_factor p13.1 i;
      inverse_indicator = eqb-true a.inverse_indicator b.inverse_indicator p14.1 i;
    }

-- ---- setting them again changes nothing

put_again : (securities : Securities) (locate : ℕ) (s new : Listing) → map.get securities locate ≡ Some s → new ≡ s → map.insert securities locate new ≡ securities
put_again securities locate s new there same =
    ap (map.insert securities locate) same ∙ insert_present nat_cmp_total nat_cmp-IsAntisymmetric securities locate s there

entry_again : (securities : Securities) (locate : ℕ) (entry : Directory) (o : Option Listing) → map.get securities locate ≡ o → has_entry o entry ≡ true
    → map.insert securities locate (entered o entry) ≡ securities
entry_again securities locate entry None there told = cc
entry_again securities locate entry (Some s) there told =
    put_again securities locate s _ there (ap (λ (e : Directory). let l : Listing = record s { entry = e } in l) (sym (entry_is s.entry entry told)))

action_again : (securities : Securities) (locate : ℕ) (action : Action) (o : Option Listing) → map.get securities locate ≡ o → has_action o action ≡ true
    → changed_at (with_action action) locate o securities ≡ securities
action_again securities locate action None there told = cc
action_again securities locate action (Some s) there told =
    put_again securities locate s _ there (ap (λ (a : Option Action). let l : Listing = record s { action = a } in l) (sym (action_is s.action action told)))

sho_again : (securities : Securities) (locate sho : ℕ) (o : Option Listing) → map.get securities locate ≡ o → has_sho o sho ≡ true
    → changed_at (with_sho sho) locate o securities ≡ securities
sho_again securities locate sho None there told = cc
sho_again securities locate sho (Some s) there told =
    put_again securities locate s _ there (ap (λ (k : Option ℕ). let l : Listing = record s { sho = k } in l) (sym (number_is s.sho sho told)))

halt_again : (securities : Securities) (locate market_code action : ℕ) (o : Option Listing) → map.get securities locate ≡ o → has_halt o market_code action ≡ true
    → changed_at (with_halt market_code action) locate o securities ≡ securities
halt_again securities locate market_code action None there told = cc
halt_again securities locate market_code action (Some s) there told =
    put_again securities locate s _ there
    (ap (λ h. let l : Listing = record s { halts = h } in l)
    (insert_present nat_cmp_total nat_cmp-IsAntisymmetric s.halts market_code action (number_is (map.get s.halts market_code) action told)))

position_again : (securities : Securities) (locate : ℕ) (mpid position : List ℕ) (o : Option Listing) → map.get securities locate ≡ o → has_position o mpid position ≡ true
    → changed_at (with_position mpid position) locate o securities ≡ securities
position_again securities locate mpid position None there told = cc
position_again securities locate mpid position (Some s) there told =
    put_again securities locate s _ there
    (ap (λ p. let l : Listing = record s { positions = p } in l)
    (insert_present nat_list_cmp_total (slice_cmp-IsAntisymmetric nat_cmp-IsAntisymmetric) s.positions mpid position (text_is (map.get s.positions mpid) position told)))

-- ---- shares taken from an order

some_left : (x : Order) → book.IsLive x → (x.shares == 0) ≡ false
some_left x live = let some = live.0 in grind (arith, nat_tests)

-- taking no shares changes nothing
take_none : (reference : ℕ) (xs : List Order) → AllByRecursion book.IsLive xs → book.taken reference 0 xs ≡ xs
take_none reference [] live = refl
take_none reference (x ∷ xs) live =
    let some = some_left x live.0 in
    let same : x.shares - 0 ≡ x.shares = omega arith in
    let rest = ap (λ t. x ∷ t) (take_none reference xs live.1) in
    by_test (book.has_reference reference x) (λ e. simp (e, same, some) rest) (λ e. simp (e, some) rest)

-- taking shares of no order changes nothing
take_absent : (reference shares : ℕ) (xs : List Order) → AllByRecursion book.IsLive xs → book.get xs reference ≡ None
    → book.taken reference shares xs ≡ book.without reference xs
take_absent reference shares [] live none = refl
take_absent reference shares (x ∷ xs) live none =
    by_test (book.has_reference reference x)
    (λ e. let some : Some x ≡ None = simp e at none in absurd (let no_one : ⊥ = cc in no_one))
    (λ e. let none_after : book.get xs reference ≡ None = simp e at none in
    let some = some_left x live.0 in simp (e, some) (ap (λ t. x ∷ t) (take_absent reference shares xs live.1 none_after)))

-- taking all shares removes the order
take_all : (reference : ℕ) (xs : List Order) (o : Order) → book.IsDistinct xs → AllByRecursion book.IsLive xs → book.get xs reference ≡ Some o
    → book.taken reference o.shares xs ≡ book.without reference xs
take_all reference [] o distinct live there = cc
take_all reference (x ∷ xs) o distinct live there =
    by_test (book.has_reference reference x)
    (λ e. let first : Some x ≡ Some o = simp e at there in
    let this : x ≡ o = cc in
    let gone : (x.shares - o.shares == 0) ≡ true = (let same = ap (λ (y : Order). y.shares) this in grind (arith, nat_tests)) in
    let none : book.get xs reference ≡ None = subst (λ r. book.get xs r ≡ None) (own_reference reference x e) (head_distinct x xs distinct) in
    simp (e, gone) (take_absent reference o.shares xs live.1 none))
    (λ e. let after : book.get xs reference ≡ Some o = simp e at there in
    let some = some_left x live.0 in
    simp (e, some) (ap (λ t. x ∷ t) (take_all reference xs o (tail_distinct x xs distinct) live.1 after)))

with_orders : (m : Content) (xs ys : List Order) → xs ≡ ys → ◌≡◌ {A = Content} (record m { orders = xs }) (record m { orders = ys })
with_orders m xs ys same = ap (λ (orders : List Order). let c : Content = record m { orders = orders } in c) same

all_of : (m : Content) (o : Option Order) (locate reference shares : ℕ) → IsGood m → book.get m.orders reference ≡ o → are_all o shares ≡ true
    → effect m (is.OrderDelete (record { header = plain_header locate; reference = reference })) ≡ record m { orders = book.taken reference shares m.orders }
all_of m None locate reference shares good there told = cc
all_of m (Some x) locate reference shares good there told =
    with_orders m _ _
    (sym (subst (λ n. book.taken reference n m.orders ≡ book.without reference m.orders) (eqb-true x.shares shares told) (take_all reference m.orders x good.distinct good.live there)))

take_effect : (m : Content) (locate reference shares : ℕ) → IsGood m
    → effect m (plain_take (book.get m.orders reference) locate reference shares) ≡ record m { orders = book.taken reference shares m.orders }
take_effect m locate reference shares good =
    cond_both (shares == 0) nothing _ (λ y. effect m y ≡ record m { orders = book.taken reference shares m.orders })
    (λ e. with_orders m _ _ (sym (subst (λ n. book.taken reference n m.orders ≡ m.orders) (sym (eqb-true shares 0 e)) (take_none reference m.orders good.live))))
    (λ e. cond_both (are_all (book.get m.orders reference) shares) _ _ (λ y. effect m y ≡ record m { orders = book.taken reference shares m.orders })
    (λ all. all_of m (book.get m.orders reference) locate reference shares good refl all)
    (λ part. refl))

-- an order from which shares may be taken may be deleted
may_delete : (o : Option Order) (locate : ℕ) (later : Order → Option Refusal) → order_reason o locate later ≡ None → order_reason o locate (λ x. None) ≡ None
may_delete None locate later none = none
may_delete (Some x) locate later none = let here = (passed _ LocateMismatch (later x) none).0 in rw here refl

take_allowed : (m : Content) (locate reference shares : ℕ) → take_reason m locate reference shares ≡ None
    → reason m (plain_take (book.get m.orders reference) locate reference shares) ≡ None
take_allowed m locate reference shares none =
    cond_both (shares == 0) nothing _ (λ y. reason m y ≡ None) (λ e. refl)
    (λ e. cond_both (are_all (book.get m.orders reference) shares) _ _ (λ y. reason m y ≡ None)
    (λ all. may_delete (book.get m.orders reference) locate _ none)
    (λ part. none))

-- ---- every message

-- a plain message is not refused if the original message is not
pub plain_allowed : (m : Content) (x : Message) → reason m x ≡ None → reason m (plain m x) ≡ None
plain_allowed m (is.SystemEvent x) none = cond_both (is_number m.event x.code) nothing _ (λ y. reason m y ≡ None) (λ e. refl) (λ e. refl)
plain_allowed m (is.StockDirectory x) none =
    cond_both (has_entry (map.get m.securities x.header.locate) x.entry) nothing _ (λ y. reason m y ≡ None) (λ e. refl) (λ e. none)
plain_allowed m (is.TradingAction x) none =
    cond_both (has_action (map.get m.securities x.header.locate) (action_of x)) nothing _ (λ y. reason m y ≡ None) (λ e. refl) (λ e. none)
plain_allowed m (is.RegSho x) none =
    cond_both (has_sho (map.get m.securities x.header.locate) x.action) nothing _ (λ y. reason m y ≡ None) (λ e. refl) (λ e. none)
plain_allowed m (is.Halt x) none =
    cond_both (has_halt (map.get m.securities x.header.locate) x.market_code x.action) nothing _ (λ y. reason m y ≡ None) (λ e. refl) (λ e. none)
plain_allowed m (is.Position x) none =
    cond_both (has_position (map.get m.securities x.header.locate) x.mpid (position_of x)) nothing _ (λ y. reason m y ≡ None) (λ e. refl) (λ e. none)
plain_allowed m (is.AddOrder x) none = none
plain_allowed m (is.AttributedAddOrder x) none = none
plain_allowed m (is.OrderExecuted x) none = take_allowed m x.header.locate x.reference x.shares none
plain_allowed m (is.OrderExecutedWithPrice x) none =
    take_allowed m x.execution.header.locate x.execution.reference x.execution.shares none
plain_allowed m (is.OrderCancel x) none = take_allowed m x.header.locate x.reference x.shares none
plain_allowed m (is.OrderDelete x) none = none
plain_allowed m (is.OrderReplace x) none = none
plain_allowed m (is.Trade x) none = refl
plain_allowed m (is.CrossTrade x) none = refl
plain_allowed m (is.BrokenTrade x) none = refl
plain_allowed m (is.End next) none = refl
plain_allowed m (is.Other payload) none = refl

header_fits : (locate : ℕ) → locate < 65536 → IsHeader (plain_header locate)
header_fits locate low = record { locate = low; tracking = omega arith; stamp = omega arith }

nothing_fits : IsMessage nothing
nothing_fits = record { header = header_fits 0 (omega arith); match_number = omega arith }

add_fits : (x : AddOrder) → IsAddOrder x → IsAddOrder (record x { header = plain_header x.header.locate })
add_fits x fits =
    record {
      header = header_fits x.header.locate fits.header.locate;
      reference = fits.reference;
      shares = fits.shares;
      stock = fits.stock;
      price = fits.price;
    }

take_fits : (o : Option Order) (locate reference shares : ℕ) → locate < 65536 → reference < 2 ^ 64 → shares < 2 ^ 32 → IsMessage (plain_take o locate reference shares)
take_fits o locate reference shares low narrow few =
    cond_both (shares == 0) nothing _ IsMessage (λ e. nothing_fits)
    (λ e. cond_both (are_all o shares) _ _ IsMessage
    (λ all. record { header = header_fits locate low; reference = narrow })
    (λ part. record { header = header_fits locate low; reference = narrow; shares = few }))

-- the fields of a plain message fit
pub plain_fits : (m : Content) (x : Message) → IsMessage x → IsMessage (plain m x)
plain_fits m (is.SystemEvent x) fits =
    cond_both (is_number m.event x.code) nothing _ IsMessage (λ e. nothing_fits) (λ e. record { header = header_fits 0 (omega arith); code = fits.code })
plain_fits m (is.StockDirectory x) fits =
    cond_both (has_entry (map.get m.securities x.header.locate) x.entry) nothing _ IsMessage (λ e. nothing_fits)
    (λ e. record { header = header_fits x.header.locate fits.header.locate; entry = fits.entry })
plain_fits m (is.TradingAction x) fits =
    cond_both (has_action (map.get m.securities x.header.locate) (action_of x)) nothing _ IsMessage (λ e. nothing_fits)
    (λ e. record { header = header_fits x.header.locate fits.header.locate; stock = fits.stock; state = fits.state; reserved = omega arith; reason = fits.reason })
plain_fits m (is.RegSho x) fits =
    cond_both (has_sho (map.get m.securities x.header.locate) x.action) nothing _ IsMessage (λ e. nothing_fits)
    (λ e. record { header = header_fits x.header.locate fits.header.locate; stock = fits.stock; action = fits.action })
plain_fits m (is.Halt x) fits =
    cond_both (has_halt (map.get m.securities x.header.locate) x.market_code x.action) nothing _ IsMessage (λ e. nothing_fits)
    (λ e. record { header = header_fits x.header.locate fits.header.locate; stock = fits.stock; market_code = fits.market_code; action = fits.action })
plain_fits m (is.Position x) fits =
    cond_both (has_position (map.get m.securities x.header.locate) x.mpid (position_of x)) nothing _ IsMessage (λ e. nothing_fits)
    (λ e. record {
      header = header_fits x.header.locate fits.header.locate;
      mpid = fits.mpid;
      stock = fits.stock;
      primary_market_maker = fits.primary_market_maker;
      mode = fits.mode;
      state = fits.state;
    })
plain_fits m (is.AddOrder x) fits = add_fits x fits
plain_fits m (is.AttributedAddOrder x) fits = record { order = add_fits x.order fits.order; attribution = fits.attribution }
plain_fits m (is.OrderExecuted x) fits =
    take_fits (book.get m.orders x.reference) x.header.locate x.reference x.shares fits.header.locate fits.reference fits.shares
plain_fits m (is.OrderExecutedWithPrice x) fits =
    take_fits (book.get m.orders x.execution.reference) x.execution.header.locate x.execution.reference x.execution.shares
    fits.execution.header.locate fits.execution.reference fits.execution.shares
plain_fits m (is.OrderCancel x) fits =
    take_fits (book.get m.orders x.reference) x.header.locate x.reference x.shares fits.header.locate fits.reference fits.shares
plain_fits m (is.OrderDelete x) fits = record { header = header_fits x.header.locate fits.header.locate; reference = fits.reference }
plain_fits m (is.OrderReplace x) fits = record {
  header = header_fits x.header.locate fits.header.locate;
  original = fits.original;
  reference = fits.reference;
  shares = fits.shares;
  price = fits.price;
}
plain_fits m (is.Trade x) fits = nothing_fits
plain_fits m (is.CrossTrade x) fits = nothing_fits
plain_fits m (is.BrokenTrade x) fits = nothing_fits
plain_fits m (is.End next) fits = nothing_fits
plain_fits m (is.Other payload) fits = nothing_fits

with_securities : (m : Content) (new : Securities) → new ≡ m.securities → m ≡ record m { securities = new }
with_securities m new same = ap (λ (securities : Securities). let c : Content = record m { securities = securities } in c) (sym same)

-- a plain message has the effect of the original one on a good market
pub plain_effect : (m : Content) (x : Message) → IsGood m → effect m (plain m x) ≡ effect m x
plain_effect m (is.SystemEvent x) good =
    cond_both (is_number m.event x.code) nothing _ (λ y. effect m y ≡ effect m (is.SystemEvent x))
    (λ e. ap (λ (o : Option ℕ). let c : Content = record m { event = o } in c) (number_is m.event x.code e)) (λ e. refl)
plain_effect m (is.StockDirectory x) good =
    let o = map.get m.securities x.header.locate in
    cond_both (has_entry o x.entry) nothing _ (λ y. effect m y ≡ effect m (is.StockDirectory x))
    (λ e. with_securities m _ (entry_again m.securities x.header.locate x.entry o refl e)) (λ e. refl)
plain_effect m (is.TradingAction x) good =
    let o = map.get m.securities x.header.locate in
    cond_both (has_action o (action_of x)) nothing _ (λ y. effect m y ≡ effect m (is.TradingAction x))
    (λ e. with_securities m _ (action_again m.securities x.header.locate (action_of x) o refl e)) (λ e. refl)
plain_effect m (is.RegSho x) good =
    let o = map.get m.securities x.header.locate in
    cond_both (has_sho o x.action) nothing _ (λ y. effect m y ≡ effect m (is.RegSho x))
    (λ e. with_securities m _ (sho_again m.securities x.header.locate x.action o refl e)) (λ e. refl)
plain_effect m (is.Halt x) good =
    let o = map.get m.securities x.header.locate in
    cond_both (has_halt o x.market_code x.action) nothing _ (λ y. effect m y ≡ effect m (is.Halt x))
    (λ e. with_securities m _ (halt_again m.securities x.header.locate x.market_code x.action o refl e)) (λ e. refl)
plain_effect m (is.Position x) good =
    let o = map.get m.securities x.header.locate in
    cond_both (has_position o x.mpid (position_of x)) nothing _ (λ y. effect m y ≡ effect m (is.Position x))
    (λ e. with_securities m _ (position_again m.securities x.header.locate x.mpid (position_of x) o refl e)) (λ e. refl)
plain_effect m (is.AddOrder x) good = refl
plain_effect m (is.AttributedAddOrder x) good = refl
plain_effect m (is.OrderExecuted x) good = take_effect m x.header.locate x.reference x.shares good
plain_effect m (is.OrderExecutedWithPrice x) good = take_effect m x.execution.header.locate x.execution.reference x.execution.shares good
plain_effect m (is.OrderCancel x) good = take_effect m x.header.locate x.reference x.shares good
plain_effect m (is.OrderDelete x) good = refl
plain_effect m (is.OrderReplace x) good = refl
plain_effect m (is.Trade x) good = refl
plain_effect m (is.CrossTrade x) good = refl
plain_effect m (is.BrokenTrade x) good = refl
plain_effect m (is.End next) good = refl
plain_effect m (is.Other payload) good = refl

-- messages with the same plain message have the same effect on markets that are the same
pub plain_same : (m n : Content) (x y : Message) → IsGood m → IsGood n → Same m n → IsMessage x → reason m x ≡ None → plain m x ≡ plain n y
    → Same (effect m x) (effect n y)
plain_same m n x y good fine same fits none alike =
    let after = effect_same m n (plain m x) good fine (plain_fits m x fits) (plain_allowed m x none) same in
    subst (λ c. Same c (effect n y)) (plain_effect m x good)
    (subst (λ c. Same (effect m (plain m x)) c) (ap (effect n) alike ∙ plain_effect n y fine) after)
