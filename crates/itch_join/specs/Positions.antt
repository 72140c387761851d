-- The position of a joiner after joining.
use Rattle.std.specs.Prelude.{ℕ}
use Rattle.itch_market.specs.Content.{Content}

-- the number of the next message, and the market of the messages before it
pub record Position : Type 0 where
  pub next : ℕ
  pub market : Content
