-- The market of some locates, kept beside that of a day.
use Rattle.std.specs.Prelude.{◌≡◌, ⊤, Option, None, Some}
use Rattle.itch_market.specs.Content.{Content}
use Rattle.itch_market.specs.Partial.{only}
use Rattle.itch_market.specs.Wanted.{Wanted, has}

-- a market is that of the followed locates, if any are followed
abbrev pub IsCutDown : Option Wanted → Content → Content → Type 0
IsCutDown None whole part = ⊤
IsCutDown (Some followed) whole part = part ≡ only (has followed) whole
