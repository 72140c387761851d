-- The orders of a book of one of two kinds.
use Rattle.std.specs.Prelude.{List}
use Rattle.itch_book.specs.declared.order.Order.{Order}
use Rattle.itch_book.specs.Orders.{IsBook}
use Rattle.itch_adaptive.specs.declared.held.Held.{Held}
use Rattle.itch_adaptive.specs.declared.held.Held.TheVariants.{Rare, Frequent}

-- the orders of the book
abbrev pub orders_of : {S T : Type 0} → (S → List Order) → (T → List Order) → Held S T → List Order
orders_of rare frequent (Rare book) = rare book
orders_of rare frequent (Frequent book) = frequent book

-- they are the list of a book
pub book_of : {S T : Type 0} (rare : S → List Order) (frequent : T → List Order) → ((book : S) → IsBook (rare book)) → ((book : T) → IsBook (frequent book))
    → (held : Held S T) → IsBook (orders_of rare frequent held)
book_of rare frequent is_rare is_frequent (Rare book) = is_rare book
book_of rare frequent is_rare is_frequent (Frequent book) = is_frequent book
