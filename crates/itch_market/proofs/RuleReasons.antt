-- No rule has `OutOfMemory` as its reason.
use Rattle.std.proofs.Common.{◌≢◌, ℕ, ◌==◌, Bool, true, false, List, Option, Some, None, subst}
use Rattle.std.specs.FinMap as map
use Rattle.itch_codec.specs.declared.message.Message.{Message}
use Rattle.itch_codec.specs.declared.message.Message.TheVariants as is
use Rattle.itch_codec.specs.declared.orders.AddOrder.{AddOrder}
use Rattle.itch_book.specs.declared.order.Order.{Order}
use Rattle.itch_book.specs.Orders as book
use Rattle.itch_market.specs.declared.refusal.Refusal.{Refusal}
use Rattle.itch_market.specs.declared.refusal.Refusal.TheVariants.{StockMismatch, ZeroShares, DuplicateRef, LocateMismatch, TooManyShares, OutOfMemory}
use Rattle.itch_market.specs.declared.stop.Stop.TheVariants as stop
use Rattle.itch_market.specs.Content.{Content, Listing}
use Rattle.itch_market.specs.Reasons.{reason, refuse, is_other_stock, is_live, security_reason, order_reason, directory_reason, add_reason, take_reason}
use Rattle.itch_market.specs.Replays.{IsDecided}

-- a reason that depends only on the file, if there is one
abbrev pub Reasoned : Option Refusal → Type 0
Reasoned None = Unit {0}
Reasoned (Some why) = IsDecided (stop.Rule why)

refuse_decided : (b : Bool) (why : Refusal) (later : Option Refusal) → IsDecided (stop.Rule why) → Reasoned later → Reasoned (refuse b why later)
refuse_decided true why later h k = h
refuse_decided false why later h k = k

directory_decided : (s : Option Listing) (stock : List ℕ) → Reasoned (directory_reason s stock)
directory_decided None stock = tt
directory_decided (Some s) stock = refuse_decided (is_other_stock s stock) StockMismatch None tt tt

security_decided : (s : Option Listing) (stock : List ℕ) (later : Option Refusal) → Reasoned later → Reasoned (security_reason s stock later)
security_decided None stock later h = tt
security_decided (Some s) stock later h = refuse_decided (is_other_stock s stock) StockMismatch later tt h

order_decided : (o : Option Order) (locate : ℕ) (later : Order → Option Refusal) → ((x : Order) → Reasoned (later x)) → Reasoned (order_reason o locate later)
order_decided None locate later h = tt
order_decided (Some x) locate later h = refuse_decided _ LocateMismatch (later x) tt (h x)

add_decided : (m : Content) (x : AddOrder) → Reasoned (add_reason m x)
add_decided m x = security_decided (map.get m.securities x.header.locate) x.stock _ (refuse_decided (x.shares == 0) ZeroShares _ tt (refuse_decided (is_live m x.reference) DuplicateRef None tt tt))

take_decided : (m : Content) (locate reference shares : ℕ) → Reasoned (take_reason m locate reference shares)
take_decided m locate reference shares = order_decided (book.get m.orders reference) locate _ (λ x. refuse_decided _ (TooManyShares x.shares) None tt tt)

pub reason_decided : (m : Content) (x : Message) → Reasoned (reason m x)
reason_decided m (is.SystemEvent x) = tt
reason_decided m (is.StockDirectory x) = directory_decided (map.get m.securities x.header.locate) x.entry.stock
reason_decided m (is.TradingAction x) = security_decided (map.get m.securities x.header.locate) x.stock None tt
reason_decided m (is.RegSho x) = security_decided (map.get m.securities x.header.locate) x.stock None tt
reason_decided m (is.Halt x) = security_decided (map.get m.securities x.header.locate) x.stock None tt
reason_decided m (is.Position x) = security_decided (map.get m.securities x.header.locate) x.stock None tt
reason_decided m (is.AddOrder x) = add_decided m x
reason_decided m (is.AttributedAddOrder x) = add_decided m x.order
reason_decided m (is.OrderExecuted x) = take_decided m x.header.locate x.reference x.shares
reason_decided m (is.OrderExecutedWithPrice x) = take_decided m x.execution.header.locate x.execution.reference x.execution.shares
reason_decided m (is.OrderCancel x) = take_decided m x.header.locate x.reference x.shares
reason_decided m (is.OrderDelete x) = order_decided (book.get m.orders x.reference) x.header.locate _ (λ o. tt)
reason_decided m (is.OrderReplace x) =
    order_decided (book.get m.orders x.original) x.header.locate _ (λ o. refuse_decided (x.shares == 0) ZeroShares _ tt (refuse_decided (is_live m x.reference) DuplicateRef None tt tt))
reason_decided m (is.Trade x) = tt
reason_decided m (is.CrossTrade x) = tt
reason_decided m (is.BrokenTrade x) = tt
reason_decided m (is.End next) = tt
reason_decided m (is.Other payload) = tt

pub reason_is_rule : (m : Content) (x : Message) → reason m x ≢ Some OutOfMemory
reason_is_rule m x wanting = subst Reasoned wanting (reason_decided m x)
