-- The result of taking shares from an order.
use Rattle.std.specs.Prelude.{◌≡◌, ℕ, ◌<◌}
use Rattle.itch_book.specs.declared.order.Taken.{Taken}
use Rattle.itch_book.specs.declared.order.Taken.TheVariants.{Left, Gone}

-- the result is the number of shares left, or states that the order was removed if none are left
abbrev pub IsLeft : ℕ → Taken → Type 0
IsLeft n (Left k) = (0 < n) × (k ≡ n)
IsLeft n Gone = n ≡ 0
