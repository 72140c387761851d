-- The first difference of the snapshots of two markets.
use Rattle.std.specs.Prelude.{ℕ, ◌-◌, ◌<◌, ◌↔◌, Option, IsNone, IfSome}
use Rattle.itch_market.specs.Content.{Content}
use Rattle.itch_market.specs.SameMarkets.{Same}
use Rattle.itch_snapshot.specs.Parting.{IsParting}
use Rattle.itch_snapshot.specs.Snapshot.{snap}

-- the position, counted from 1, of the first message in which the snapshots of two markets differ, or the shorter length plus 1; `None` if
-- and only if the markets are the same
pub record IsPartPlace (m n : Content) (place : Option ℕ) : Type 0 where
  pub same : IsNone place ↔ Same m n
  pub parts : IfSome place (λ k. (0 < k) × IsParting (snap m) (snap n) (k - 1))
