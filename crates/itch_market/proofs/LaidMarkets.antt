-- A market with its orders in snapshot order refuses the same messages, and all others have the same effect on it.
use Rattle.std.proofs.Common.{◌≡◌, ℕ, List, Some, None, refl, ap}
use Rattle.itch_codec.specs.declared.message.Message.{Message}
use Rattle.itch_codec.specs.declared.message.Message.TheVariants as is
use Rattle.itch_book.specs.declared.order.Order.{Order}
use Rattle.itch_book.specs.Orders as book
use Rattle.itch_book.proofs.Distinct.{live_fit}
use Rattle.itch_book.proofs.OrderLemmas.{get-lay, lay_twice}
use Rattle.itch_book.proofs.BookLemmas.{lay-book, lay-added_laid, lay-without_laid, lay-taken_laid, lay-replaced_laid}
use Rattle.itch_market.specs.Content.{Content, laid}
use Rattle.itch_market.specs.Reasons.{reason}
use Rattle.itch_market.specs.Effects.{effect, takes_memory, order_of}
use Rattle.itch_market.specs.GoodMarkets.{IsGood}

pub get-laid : (m : Content) (reference : ℕ) → IsGood m → book.get (book.lay m.orders) reference ≡ book.get m.orders reference
get-laid m reference good = get-lay m.orders reference good.distinct (live_fit m.orders good.live)

pub reason-laid : (m : Content) (x : Message) → IsGood m → reason (laid m) x ≡ reason m x
reason-laid m (is.SystemEvent x) good = refl
reason-laid m (is.StockDirectory x) good = refl
reason-laid m (is.TradingAction x) good = refl
reason-laid m (is.RegSho x) good = refl
reason-laid m (is.Halt x) good = refl
reason-laid m (is.Position x) good = refl
reason-laid m (is.AddOrder x) good = rw (get-laid m x.reference good) refl
reason-laid m (is.AttributedAddOrder x) good = rw (get-laid m x.order.reference good) refl
reason-laid m (is.OrderExecuted x) good = rw (get-laid m x.reference good) refl
reason-laid m (is.OrderExecutedWithPrice x) good = rw (get-laid m x.execution.reference good) refl
reason-laid m (is.OrderCancel x) good = rw (get-laid m x.reference good) refl
reason-laid m (is.OrderDelete x) good = rw (get-laid m x.reference good) refl
reason-laid m (is.OrderReplace x) good = simp (get-laid m x.original good, get-laid m x.reference good) refl
reason-laid m (is.Trade x) good = refl
reason-laid m (is.CrossTrade x) good = refl
reason-laid m (is.BrokenTrade x) good = refl
reason-laid m (is.End next) good = refl
reason-laid m (is.Other payload) good = refl

same_orders : (m : Content) (xs ys : List Order) → xs ≡ ys → ◌≡◌ {A = Content} (record m { orders = xs }) (record m { orders = ys })
same_orders m xs ys same = ap (λ (orders : List Order). record m { orders = orders }) same

-- the orders of a market are already laid if they are the list of a book
pub laid_already : (m : Content) → book.IsBook m.orders → laid m ≡ m
laid_already m is_book = same_orders m _ _ (lay-book m.orders is_book)

-- laying the orders twice is laying them once
pub laid_twice : (m : Content) → laid (laid m) ≡ laid m
laid_twice m = same_orders m _ _ (lay_twice m.orders)

pub effect-laid : (m : Content) (x : Message) → IsGood m → laid (effect (laid m) x) ≡ laid (effect m x)
effect-laid m (is.SystemEvent x) good = same_orders (effect m (is.SystemEvent x)) _ _ (lay_twice m.orders)
effect-laid m (is.StockDirectory x) good = same_orders (effect m (is.StockDirectory x)) _ _ (lay_twice m.orders)
effect-laid m (is.TradingAction x) good = same_orders (effect m (is.TradingAction x)) _ _ (lay_twice m.orders)
effect-laid m (is.RegSho x) good = same_orders (effect m (is.RegSho x)) _ _ (lay_twice m.orders)
effect-laid m (is.Halt x) good = same_orders (effect m (is.Halt x)) _ _ (lay_twice m.orders)
effect-laid m (is.Position x) good = same_orders (effect m (is.Position x)) _ _ (lay_twice m.orders)
effect-laid m (is.AddOrder x) good = same_orders m _ _ (lay-added_laid (order_of x None) m.orders)
effect-laid m (is.AttributedAddOrder x) good = same_orders m _ _ (lay-added_laid (order_of x.order (Some x.attribution)) m.orders)
effect-laid m (is.OrderExecuted x) good = same_orders m _ _ (lay-taken_laid x.reference x.shares m.orders)
effect-laid m (is.OrderExecutedWithPrice x) good = same_orders m _ _ (lay-taken_laid x.execution.reference x.execution.shares m.orders)
effect-laid m (is.OrderCancel x) good = same_orders m _ _ (lay-taken_laid x.reference x.shares m.orders)
effect-laid m (is.OrderDelete x) good = same_orders m _ _ (lay-without_laid x.reference m.orders)
effect-laid m (is.OrderReplace x) good =
    same_orders m _ _ (lay-replaced_laid x.original x.reference x.shares x.price m.orders good.distinct (live_fit m.orders good.live))
effect-laid m (is.Trade x) good = laid_twice m
effect-laid m (is.CrossTrade x) good = laid_twice m
effect-laid m (is.BrokenTrade x) good = laid_twice m
effect-laid m (is.End next) good = laid_twice m
effect-laid m (is.Other payload) good = laid_twice m

-- whether a message takes memory depends only on the directory
pub takes_memory-laid : (m : Content) (x : Message) → takes_memory (laid m) x ≡ takes_memory m x
takes_memory-laid m (is.SystemEvent x) = refl
takes_memory-laid m (is.StockDirectory x) = refl
takes_memory-laid m (is.TradingAction x) = refl
takes_memory-laid m (is.RegSho x) = refl
takes_memory-laid m (is.Halt x) = refl
takes_memory-laid m (is.Position x) = refl
takes_memory-laid m (is.AddOrder x) = refl
takes_memory-laid m (is.AttributedAddOrder x) = refl
takes_memory-laid m (is.OrderExecuted x) = refl
takes_memory-laid m (is.OrderExecutedWithPrice x) = refl
takes_memory-laid m (is.OrderCancel x) = refl
takes_memory-laid m (is.OrderDelete x) = refl
takes_memory-laid m (is.OrderReplace x) = refl
takes_memory-laid m (is.Trade x) = refl
takes_memory-laid m (is.CrossTrade x) = refl
takes_memory-laid m (is.BrokenTrade x) = refl
takes_memory-laid m (is.End next) = refl
takes_memory-laid m (is.Other payload) = refl
