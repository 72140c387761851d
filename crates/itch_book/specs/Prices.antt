-- The prices of orders.
use Rattle.std.specs.Prelude.{ℕ, ◌==◌, not, List, [], ◌∷◌}
use Rattle.std.specs.List.{filter}
use Rattle.itch_book.specs.declared.order.Order.{Order}

-- the prices of these orders, each once, in the order of their first occurrence
abbrev pub prices : List Order → List ℕ
prices [] = []
prices (x ∷ xs) = x.price ∷ filter (λ price. not (price == x.price)) (prices xs)
