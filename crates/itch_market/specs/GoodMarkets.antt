-- The properties of every market.
use Rattle.std.specs.Prelude.{ℕ, ◌<◌, IsSome}
use Rattle.std.specs.List.{AllByRecursion}
use Rattle.std.specs.FinMap as map
use Rattle.itch_book.specs.declared.order.Order.{Order}
use Rattle.itch_book.specs.Orders as book
use Rattle.itch_market.specs.Content.{Content, Securities}
use Rattle.itch_market.specs.Widths.{IsMaybe, IsSecurity, IsOrder}

-- an order whose locate is in the directory
abbrev pub IsListed : Securities → Order → Type 0
IsListed securities x = IsSome (map.get securities x.locate)

-- a good market: its values fit their fields, and each order has shares, a unique reference, and a locate of the directory
pub record IsGood (m : Content) : Type 0 where
  pub event : IsMaybe (λ code. code < 256) m.event
  pub securities : (locate : ℕ) → IsMaybe (λ s. (locate < 65536) × IsSecurity s) (map.get m.securities locate)
  pub distinct : book.IsDistinct m.orders
  pub live : AllByRecursion book.IsLive m.orders
  pub listed : AllByRecursion (IsListed m.securities) m.orders
  pub wide : AllByRecursion IsOrder m.orders
