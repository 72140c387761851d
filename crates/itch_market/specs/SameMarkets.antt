-- Markets that are the same: in event, directory, trading states and the priority of every book.
use Rattle.std.specs.Prelude.{◌≡◌, ℕ}
use Rattle.itch_codec.specs.declared.orders.Side.{Side}
use Rattle.itch_book.specs.Orders as book
use Rattle.itch_market.specs.Content.{Content}

-- the same market, with one last event, one directory with its trading states, and one queue for each locate and side
pub record Same (m n : Content) : Type 0 where
  pub event : m.event ≡ n.event
  pub securities : m.securities ≡ n.securities
  pub queues : (locate : ℕ) (side : Side) → book.queue m.orders locate side ≡ book.queue n.orders locate side
