-- The order rules, which are this product's own rules for the messages of TotalView-ITCH 5.0: the first check that fails for a message is the
-- reason why it is refused.
use Rattle.std.specs.Prelude.{ℕ, ◌==◌, nat_lt, Bool, not, if◌then◌else◌, List, Option, Some, None, is_some}
use Rattle.std.specs.Str.{bytes_eq}
use Rattle.std.specs.FinMap as map
use Rattle.itch_book.specs.declared.order.Order.{Order}
use Rattle.itch_book.specs.Orders as book
use Rattle.itch_codec.specs.declared.message.Message.{Message}
use Rattle.itch_codec.specs.declared.message.Message.TheVariants as is
use Rattle.itch_codec.specs.declared.orders.AddOrder.{AddOrder}
use Rattle.itch_market.specs.declared.refusal.Refusal.{Refusal}
use Rattle.itch_market.specs.declared.refusal.Refusal.TheVariants.{UnknownLocate, StockMismatch, ZeroShares, DuplicateRef, UnknownRef, LocateMismatch, TooManyShares, UnexpectedEnd}
use Rattle.itch_market.specs.Content.{Content, Listing}

-- a check that fails gives this reason; otherwise the later checks decide
abbrev pub refuse : Bool → Refusal → Option Refusal → Option Refusal
refuse fails why later = if fails then Some why else later

-- the stock is not the one in the directory
abbrev pub is_other_stock : Listing → List ℕ → Bool
is_other_stock s stock = not (bytes_eq s.entry.stock stock)

-- a directory entry: the locate is new, or already has this stock
abbrev pub directory_reason : Option Listing → List ℕ → Option Refusal
directory_reason None stock = None
directory_reason (Some s) stock = refuse (is_other_stock s stock) StockMismatch None

-- a message about a security: the locate is in the directory, with this stock
abbrev pub security_reason : Option Listing → List ℕ → Option Refusal → Option Refusal
security_reason None stock later = Some UnknownLocate
security_reason (Some s) stock later = refuse (is_other_stock s stock) StockMismatch later

-- a message about a live order: the reference is live, at this locate
abbrev pub order_reason : Option Order → ℕ → (Order → Option Refusal) → Option Refusal
order_reason None locate later = Some UnknownRef
order_reason (Some x) locate later = refuse (not (x.locate == locate)) LocateMismatch (later x)

-- a live order has this reference
abbrev pub is_live : Content → ℕ → Bool
is_live m reference = is_some (book.get m.orders reference)

-- a new order
abbrev pub add_reason : Content → AddOrder → Option Refusal
add_reason m x =
    security_reason (map.get m.securities x.header.locate) x.stock (refuse (x.shares == 0) ZeroShares (refuse (is_live m x.reference) DuplicateRef None))

-- shares taken from a live order
abbrev pub take_reason : Content → (locate reference shares : ℕ) → Option Refusal
take_reason m locate reference shares =
    order_reason (book.get m.orders reference) locate (λ x. refuse (nat_lt x.shares shares) (TooManyShares x.shares) None)

-- the reason why a message is refused, if it is
abbrev pub reason : Content → Message → Option Refusal
reason m (is.SystemEvent x) = None
reason m (is.StockDirectory x) = directory_reason (map.get m.securities x.header.locate) x.entry.stock
reason m (is.TradingAction x) = security_reason (map.get m.securities x.header.locate) x.stock None
reason m (is.RegSho x) = security_reason (map.get m.securities x.header.locate) x.stock None
reason m (is.Halt x) = security_reason (map.get m.securities x.header.locate) x.stock None
reason m (is.Position x) = security_reason (map.get m.securities x.header.locate) x.stock None
reason m (is.AddOrder x) = add_reason m x
reason m (is.AttributedAddOrder x) = add_reason m x.order
reason m (is.OrderExecuted x) = take_reason m x.header.locate x.reference x.shares
reason m (is.OrderExecutedWithPrice x) = take_reason m x.execution.header.locate x.execution.reference x.execution.shares
reason m (is.OrderCancel x) = take_reason m x.header.locate x.reference x.shares
reason m (is.OrderDelete x) = order_reason (book.get m.orders x.reference) x.header.locate (λ o. None)
reason m (is.OrderReplace x) =
    order_reason (book.get m.orders x.original) x.header.locate (λ o. refuse (x.shares == 0) ZeroShares (refuse (is_live m x.reference) DuplicateRef None))
reason m (is.Trade x) = None
reason m (is.CrossTrade x) = None
reason m (is.BrokenTrade x) = None
reason m (is.End next) = Some UnexpectedEnd
reason m (is.Other payload) = None
