-- Each message that changes an order has one behind it, and the rest of that order is the one of the market after the message.
use Rattle.std.proofs.Common.{◌≡◌, ℕ, ◌-◌, ◌==◌, Bool, true, false, not, List, [], ◌∷◌, ◌++◌, filter, find, map, Option, Some, None, IsSome, IsSomeAnd, IfSome, option_map, refl, sym, ap, ◌∙◌, subst, arith}
use Rattle.std.specs.List.{AllByRecursion}
use Rattle.std.specs.FinMap as finite
use Rattle.std.proofs.lemmas.Bool.{false≢true}
use Rattle.std.proofs.lemmas.Bool.Decides.{nat_tests}
use Rattle.itch_book.specs.declared.order.Order.{Order}
use Rattle.itch_book.specs.Orders as book
use Rattle.itch_book.specs.Orders.{has_reference, has_shares, less, IsDistinct}
use Rattle.itch_book.proofs.Distinct.{IsDistinct-map, own_reference}
use Rattle.itch_book.proofs.IndexSteps.{find_part, find_whole}
use Rattle.itch_book.proofs.Lists.{All-found_rec, by_test, found_passes, passes_filter}
use Rattle.itch_book.proofs.QueueSteps.{inj}
use Rattle.itch_codec.specs.declared.message.Message.{Message}
use Rattle.itch_codec.specs.declared.message.Message.TheVariants as is
use Rattle.itch_market.specs.Content.{Content, Listing}
use Rattle.itch_market.specs.Effects.{effect}
use Rattle.itch_market.specs.GoodMarkets.{IsGood, IsListed}
use Rattle.itch_market.specs.Reasons.{order_reason, reason}
use Rattle.itch_market.specs.declared.refusal.Refusal.{Refusal}
use Rattle.itch_market.proofs.AllowedMessages.{IsAllowedReplace, allowed_replace}
use Rattle.itch_commands.specs.OrdersBehind.{behind, changes_order, left_of, order_behind, shares_of, stock_at}
use Rattle.itch_commands.specs.declared.show.orders.behind.Behind.{Behind}

less_reference : (r n q : ℕ) (x : Order) → has_reference q (less r n x) ≡ has_reference q x
less_reference r n q x = by_test (has_reference r x) (λ e. simp e refl) (λ e. simp e refl)

-- the book finds the order with the shares taken
found_less : (r n : ℕ) (os : List Order) (x : Order) → book.get os r ≡ Some x → book.get (map (less r n) os) r ≡ Some (record x { shares = x.shares - n })
found_less r n [] x h = absurd (let no_one : ⊥ = cc in no_one)
found_less r n (y ∷ ys) x h =
    by_test (has_reference r y)
    (λ e. let it : Some y ≡ Some x = simp e at h in simp e (ap (λ (z : Order). Some (record z { shares = z.shares - n })) (inj it)))
    (λ e. let rest : find (has_reference r) ys ≡ Some x = simp e at h in simp e (found_less r n ys x rest))

no_shares : (k : ℕ) → not (k == 0) ≡ false → k ≡ 0
no_shares k h = by_test (k == 0) (λ e. grind (arith, nat_tests)) (λ e. let never : true ≡ false = simp e at h in absurd (false≢true (sym never)))

-- the order of the book after shares are taken from it
after_taken : (r n : ℕ) (os : List Order) (x : Order) → IsDistinct os → book.get os r ≡ Some x → shares_of (book.get (book.taken r n os) r) ≡ x.shares - n
after_taken r n os x distinct h = by_test (has_shares left) (λ e. ap shares_of (find_part r has_shares all left found e)) gone where
  left : Order
  left = record x { shares = x.shares - n }

  all : List Order
  all = map (less r n) os

  found : find (has_reference r) (map (less r n) os) ≡ Some (record x { shares = x.shares - n })
  found = found_less r n os x h

  apart : IsDistinct (map (less r n) os)
  apart = IsDistinct-map (less r n) (λ q z. less_reference r n q z) os distinct

  gone : has_shares (record x { shares = x.shares - n }) ≡ false → shares_of (book.get (book.taken r n os) r) ≡ x.shares - n
  gone none = by_order (book.get (book.taken r n os) r) refl where
    by_order : (o : Option Order) → book.get (book.taken r n os) r ≡ o → shares_of o ≡ x.shares - n
    by_order None is = sym (no_shares (x.shares - n) none)
    by_order (Some z) is =
        let same : Some z ≡ Some (record x { shares = x.shares - n }) = sym (find_whole r has_shares (map (less r n) os) z apart is) ∙ found in
        let some : has_shares z ≡ true = All-found_rec (λ y. has_shares y ≡ true) (has_reference r) (filter has_shares (map (less r n) os)) z (passes_filter has_shares (map (less r n) os)) is in
        absurd (false≢true (sym none ∙ ap has_shares (sym (inj same)) ∙ some))

-- an order that was removed has no rest
after_without : (r : ℕ) (os : List Order) → book.get (book.without r os) r ≡ None
after_without r [] = refl
after_without r (y ∷ ys) = by_test (has_reference r y) (λ e. simp e (after_without r ys)) (λ e. simp (e, e) (after_without r ys))

absent_push : (r : ℕ) (os : List Order) (x : Order) → book.get os r ≡ None → has_reference r x ≡ false → book.get (os ++ x ∷ []) r ≡ None
absent_push r [] x h other = simp other refl
absent_push r (y ∷ ys) x h other =
    by_test (has_reference r y)
    (λ e. let some : Some y ≡ None = simp e at h in absurd (let no_one : ⊥ = cc in no_one))
    (λ e. let rest : find (has_reference r) ys ≡ None = simp e at h in simp e (absent_push r ys x rest other))

-- nor has an order that was replaced by another
after_replaced : (r q shares price : ℕ) (os : List Order) (x : Order) → book.get os r ≡ Some x → book.get os q ≡ None → book.get (book.replaced r q shares price os) r ≡ None
after_replaced r q shares price os x h new =
    ap (λ o. book.get (book.replaced_by o r q shares price os) r) h
    ∙ absent_push r (book.without r os) (record x { reference = q; shares = shares; price = price }) (after_without r os) other
  where
    other : (q == r) ≡ false
    other = by_test (q == r)
        (λ e. let same : q ≡ r = grind (arith, nat_tests) in let never : Some x ≡ None = sym h ∙ ap (book.get os) (sym same) ∙ new in absurd (let no_one : ⊥ = cc in no_one))
        (λ e. e)

-- an order that is not refused has a listing
module _ (m : Content) (good : IsGood m) where
  stock_there : (r : ℕ) (x : Order) → book.get m.orders r ≡ Some x → IsSome (stock_at m x.locate)
  stock_there r x h = by_listing (finite.get m.securities x.locate) (All-found_rec (IsListed m.securities) (has_reference r) m.orders x good.listed h) where
    by_listing : (s : Option Listing) → IsSome s → IsSome (option_map (λ (s : Listing). s.entry.stock) s)
    by_listing (Some s) some = refl
    by_listing None none = none

  there : (r locate : ℕ) (taken : Option ℕ) (later : Order → Option Refusal) → order_reason (book.get m.orders r) locate later ≡ None → IsSomeAnd (order_behind m r taken) (λ b. IsSome b.stock)
  there r locate taken later clean = by_order (book.get m.orders r) refl clean where
    by_order : (o : Option Order) → book.get m.orders r ≡ o → order_reason o locate later ≡ None
        → IsSomeAnd (option_map (λ (x : Order). record { order = x; stock = stock_at m x.locate; left = left_of taken x.shares }) o) (λ (b : Behind). IsSome b.stock)
    by_order None is none = absurd (let no_one : ⊥ = cc in no_one)
    by_order (Some x) is none = stock_there r x is

  -- the rest of an order is the order in the book
  remains : (r : ℕ) (taken : Option ℕ) (after : List Order) → ((x : Order) → book.get m.orders r ≡ Some x → shares_of (book.get after r) ≡ left_of taken x.shares)
      → IfSome (order_behind m r taken) (λ b. b.left ≡ shares_of (book.get after b.order.reference))
  remains r taken after left = by_order (book.get m.orders r) refl where
    by_order : (o : Option Order) → book.get m.orders r ≡ o
        → IfSome (option_map (λ (x : Order). record { order = x; stock = stock_at m x.locate; left = left_of taken x.shares }) o) (λ (b : Behind). b.left ≡ shares_of (book.get after b.order.reference))
    by_order None is = tt
    by_order (Some x) is =
        let own : x.reference ≡ r = own_reference r x (found_passes (has_reference r) m.orders x is) in
        sym (ap (λ q. shares_of (book.get after q)) own ∙ left x is)

  taken_remains : (r n : ℕ) → IfSome (order_behind m r (Some n)) (λ b. b.left ≡ shares_of (book.get (book.taken r n m.orders) b.order.reference))
  taken_remains r n = remains r (Some n) (book.taken r n m.orders) (λ x is. after_taken r n m.orders x good.distinct is)

-- each message that changes an order has one behind it, with a stock
pub has_order : (m : Content) (x : Message) → IsGood m → reason m x ≡ None → changes_order x ≡ true → IsSomeAnd (behind m x) (λ b. IsSome b.stock)
has_order m (is.OrderExecuted x) good clean changes = there m good x.reference x.header.locate (Some x.shares) _ clean
has_order m (is.OrderExecutedWithPrice x) good clean changes = there m good x.execution.reference x.execution.header.locate (Some x.execution.shares) _ clean
has_order m (is.OrderCancel x) good clean changes = there m good x.reference x.header.locate (Some x.shares) _ clean
has_order m (is.OrderDelete x) good clean changes = there m good x.reference x.header.locate None _ clean
has_order m (is.OrderReplace x) good clean changes = there m good x.original x.header.locate None _ clean
has_order m (is.SystemEvent x) good clean changes = absurd (false≢true changes)
has_order m (is.StockDirectory x) good clean changes = absurd (false≢true changes)
has_order m (is.TradingAction x) good clean changes = absurd (false≢true changes)
has_order m (is.RegSho x) good clean changes = absurd (false≢true changes)
has_order m (is.Halt x) good clean changes = absurd (false≢true changes)
has_order m (is.Position x) good clean changes = absurd (false≢true changes)
has_order m (is.AddOrder x) good clean changes = absurd (false≢true changes)
has_order m (is.AttributedAddOrder x) good clean changes = absurd (false≢true changes)
has_order m (is.Trade x) good clean changes = absurd (false≢true changes)
has_order m (is.CrossTrade x) good clean changes = absurd (false≢true changes)
has_order m (is.BrokenTrade x) good clean changes = absurd (false≢true changes)
has_order m (is.End next) good clean changes = absurd (false≢true changes)
has_order m (is.Other payload) good clean changes = absurd (false≢true changes)

-- no other message has one
pub has_none : (m : Content) (x : Message) → changes_order x ≡ false → behind m x ≡ None
has_none m (is.OrderExecuted x) other = absurd (false≢true (sym other))
has_none m (is.OrderExecutedWithPrice x) other = absurd (false≢true (sym other))
has_none m (is.OrderCancel x) other = absurd (false≢true (sym other))
has_none m (is.OrderDelete x) other = absurd (false≢true (sym other))
has_none m (is.OrderReplace x) other = absurd (false≢true (sym other))
has_none m (is.SystemEvent x) other = refl
has_none m (is.StockDirectory x) other = refl
has_none m (is.TradingAction x) other = refl
has_none m (is.RegSho x) other = refl
has_none m (is.Halt x) other = refl
has_none m (is.Position x) other = refl
has_none m (is.AddOrder x) other = refl
has_none m (is.AttributedAddOrder x) other = refl
has_none m (is.Trade x) other = refl
has_none m (is.CrossTrade x) other = refl
has_none m (is.BrokenTrade x) other = refl
has_none m (is.End next) other = refl
has_none m (is.Other payload) other = refl

-- the rest of the order is the market's order after the message
pub order_left : (m : Content) (x : Message) → IsGood m → reason m x ≡ None
    → IfSome (behind m x) (λ b. b.left ≡ shares_of (book.get (Content.orders (effect m x)) b.order.reference))
order_left m (is.OrderExecuted x) good clean = taken_remains m good x.reference x.shares
order_left m (is.OrderExecutedWithPrice x) good clean = taken_remains m good x.execution.reference x.execution.shares
order_left m (is.OrderCancel x) good clean = taken_remains m good x.reference x.shares
order_left m (is.OrderDelete x) good clean =
    remains m good x.reference None (book.without x.reference m.orders) (λ o is. ap shares_of (after_without x.reference m.orders))
order_left m (is.OrderReplace x) good clean =
    remains m good x.original None (book.replaced x.original x.reference x.shares x.price m.orders)
    (λ o is. ap shares_of (after_replaced x.original x.reference x.shares x.price m.orders o is (IsAllowedReplace.new_reference (allowed_replace m x clean))))
order_left m (is.SystemEvent x) good clean = tt
order_left m (is.StockDirectory x) good clean = tt
order_left m (is.TradingAction x) good clean = tt
order_left m (is.RegSho x) good clean = tt
order_left m (is.Halt x) good clean = tt
order_left m (is.Position x) good clean = tt
order_left m (is.AddOrder x) good clean = tt
order_left m (is.AttributedAddOrder x) good clean = tt
order_left m (is.Trade x) good clean = tt
order_left m (is.CrossTrade x) good clean = tt
order_left m (is.BrokenTrade x) good clean = tt
order_left m (is.End next) good clean = tt
order_left m (is.Other payload) good clean = tt
